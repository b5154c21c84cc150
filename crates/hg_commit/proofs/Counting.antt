-- Each step keeps a tally.
use Rattle.std.proofs.Common.{◌≡◌, ◌≢◌, ◌⊎◌, ◌≤◌, ◌<◌, ◌+◌, ◌==◌, ℕ, zero, suc, List, [], ◌∷◌, ◌++◌, set, length}
use Rattle.std.proofs.Common.{if◌then◌else◌, true, false, true≢false, refl, sym, ◌∙◌, ap, subst, inl, inr, ⊎_elim, arith}
use Rattle.std.proofs.Common.{append_assoc, append-nil, eq-eqb, ne_eqb, length-set, length-append}
use Rattle.std.specs.Prelude.{Contains, slice_index, slice_set}
use mathlib.Core.List.{IsPrefix}
use Rattle.std.proofs.lemmas.List.Elements.{All-append, All-contains_itself, All-push, All-same, All-weaker, All-nil}
use Rattle.std.proofs.lemmas.List.Elements.{Contains-append_left}
use mathlib.Core.Option.{none, some, some-ne-none, some-injective}
use lib.ListN.{get_elem?}
use Rattle.atomic_table.specs.Table.{Me, State, step, keeps, opening, Allows, Enters, Splits, Joins}
use Rattle.atomic_table.proofs.Lists.{at_set, set_again}
use Rattle.hg_commit.specs.declared.known.Known.{Known}
use Rattle.hg_commit.specs.Orders.{AreNumbered, Asked, asks_at, Began, begun_in, Came, comings_to, Event}
use Rattle.hg_commit.specs.Orders.{last_begun_at, Promised, promises_in}
use Rattle.hg_commit.specs.Promises.{Promise}
use Rattle.hg_commit.specs.code.Tallies.{AreAmong, arrives, asks, asks_first, begun_more, comes, CountAtMost}
use Rattle.hg_commit.specs.code.Tallies.{heard_from, IsTallied, keeper, KnownFits}
use Rattle.hg_commit.specs.code.Tallies.{looks, one_more, raised, seat_with, shown_by, spent, united}

off : false ≡ true → ⊥
off e = true≢false (sym e)

none_among : (all : List Promise) → AreAmong [] all
none_among all = All-nil (Contains all)

-- ---- the order of events

promises_append : (xs ys : List Event) → promises_in (xs ++ ys) ≡ promises_in xs ++ promises_in ys
promises_append [] ys = refl
promises_append (Promised p ∷ xs) ys = ap (λ l. p ∷ l) (promises_append xs ys)
promises_append (Came seat ∷ xs) ys = promises_append xs ys
promises_append (Began at ∷ xs) ys = promises_append xs ys
promises_append (Asked seat ∷ xs) ys = promises_append xs ys

comings_append : (seat : ℕ) (xs ys : List Event) → comings_to seat (xs ++ ys) ≡ comings_to seat xs + comings_to seat ys
comings_append seat [] ys = omega arith
comings_append seat (Promised p ∷ xs) ys = comings_append seat xs ys
comings_append seat (Came at ∷ xs) ys =
    let more = comings_append seat xs ys in
    let n : ℕ = if at == seat then 1 else 0 in
    omega (arith, more)
comings_append seat (Began at ∷ xs) ys = comings_append seat xs ys
comings_append seat (Asked at ∷ xs) ys = comings_append seat xs ys

asks_append : (seat : ℕ) (xs ys : List Event) → asks_at seat (xs ++ ys) ≡ asks_at seat xs + asks_at seat ys
asks_append seat [] ys = omega arith
asks_append seat (Promised p ∷ xs) ys = asks_append seat xs ys
asks_append seat (Came at ∷ xs) ys = asks_append seat xs ys
asks_append seat (Began at ∷ xs) ys = asks_append seat xs ys
asks_append seat (Asked at ∷ xs) ys =
    let more = asks_append seat xs ys in
    let n : ℕ = if at == seat then 1 else 0 in
    omega (arith, more)

begun_append : (xs ys : List Event) → begun_in (xs ++ ys) ≡ begun_in xs + begun_in ys
begun_append [] ys = omega arith
begun_append (Promised p ∷ xs) ys = begun_append xs ys
begun_append (Came at ∷ xs) ys = begun_append xs ys
begun_append (Began at ∷ xs) ys = let more = begun_append xs ys in omega (arith, more)
begun_append (Asked at ∷ xs) ys = begun_append xs ys

last_append : (beats : ℕ) (xs ys : List Event)
    → last_begun_at beats (xs ++ ys) ≡ last_begun_at (last_begun_at beats xs) ys
last_append beats [] ys = refl
last_append beats (Promised p ∷ xs) ys = last_append beats xs ys
last_append beats (Came at ∷ xs) ys = last_append beats xs ys
last_append beats (Began at ∷ xs) ys = last_append at xs ys
last_append beats (Asked at ∷ xs) ys = last_append beats xs ys

numbered_append : (n beats : ℕ) (xs ys : List Event) → AreNumbered n beats xs
    → AreNumbered (n + begun_in xs) (last_begun_at beats xs) ys → AreNumbered n beats (xs ++ ys)
numbered_append n beats [] ys front more =
    let e : n + 0 ≡ n = omega arith in subst (λ (k : ℕ). AreNumbered k beats ys) e more
numbered_append n beats (Promised p ∷ xs) ys front more =
    (front.0, front.1, numbered_append n beats xs ys front.2 more)
numbered_append n beats (Came at ∷ xs) ys front more = numbered_append n beats xs ys front more
numbered_append n beats (Began at ∷ xs) ys front more =
    let e : n + (1 + begun_in xs) ≡ (n + 1) + begun_in xs = omega arith in
    numbered_append (n + 1) at xs ys front (subst (λ (k : ℕ). AreNumbered k (last_begun_at at xs) ys) e more)
numbered_append n beats (Asked at ∷ xs) ys front more = numbered_append n beats xs ys front more

-- a request to a seat comes to it, and to no other
came_here : (seat : ℕ) → comings_to seat (Came seat ∷ []) ≡ 1
came_here seat = ap (λ b. (if b then 1 else 0) + 0) (eq-eqb seat seat refl)

came_elsewhere : (at seat : ℕ) → at ≢ seat → comings_to at (Came seat ∷ []) ≡ 0
came_elsewhere at seat apart = ap (λ b. (if b then 1 else 0) + 0) (ne_eqb seat at (λ e. apart (sym e)))

-- a beat that is asked for at a seat is asked for there, and at no other
asked_here : (seat : ℕ) → asks_at seat (Asked seat ∷ []) ≡ 1
asked_here seat = ap (λ b. (if b then 1 else 0) + 0) (eq-eqb seat seat refl)

asked_elsewhere : (at seat : ℕ) → at ≢ seat → asks_at at (Asked seat ∷ []) ≡ 0
asked_elsewhere at seat apart = ap (λ b. (if b then 1 else 0) + 0) (ne_eqb seat at (λ e. apart (sym e)))

prefix_longer : {X : Type 0} (xs ys zs : List X) → IsPrefix xs ys → IsPrefix xs (ys ++ zs)
prefix_longer xs ys zs p = (p.0 ++ zs, sym (append_assoc xs p.0 zs) ∙ ap (λ l. l ++ zs) p.1)

among_longer : (promises : List Promise) (order more : List Event) → AreAmong promises (promises_in order)
    → AreAmong promises (promises_in (order ++ more))
among_longer promises order more low =
    subst (AreAmong promises) (sym (promises_append order more))
    (All-weaker (Contains (promises_in order)) (Contains (promises_in order ++ promises_in more))
    (λ p c. Contains-append_left (promises_in order) (promises_in more) p c) promises low)

-- no promise more
same_promises : (order more : List Event) → promises_in more ≡ [] → promises_in order ≡ promises_in (order ++ more)
same_promises order more none_more =
    sym (append-nil (promises_in order))
    ∙ (ap (λ l. promises_in order ++ l) (sym none_more) ∙ sym (promises_append order more))

-- no coming more
same_comings : (at n : ℕ) (order more : List Event) → comings_to at more ≡ 0 → comings_to at order ≡ n
    → comings_to at (order ++ more) ≡ n
same_comings at n order more quiet is = let whole = comings_append at order more in omega (arith, whole, quiet, is)

-- no ask more
same_asks : (at n : ℕ) (order more : List Event) → asks_at at more ≡ 0 → asks_at at order ≡ n
    → asks_at at (order ++ more) ≡ n
same_asks at n order more quiet is = let whole = asks_append at order more in omega (arith, whole, quiet, is)

-- no write more
same_begun : (order more : List Event) → begun_in more ≡ 0 → begun_in order ≡ begun_in (order ++ more)
same_begun order more none_more = let whole = begun_append order more in omega (arith, whole, none_more)

pub none_begun : (beats : ℕ) (more : List Event) → begun_in more ≡ 0 → last_begun_at beats more ≡ beats
none_begun beats [] none_more = refl
none_begun beats (Promised p ∷ more) none_more = none_begun beats more none_more
none_begun beats (Came at ∷ more) none_more = none_begun beats more none_more
none_begun beats (Began at ∷ more) none_more = absurd (omega (arith, none_more))
none_begun beats (Asked at ∷ more) none_more = none_begun beats more none_more

same_last : (order more : List Event) → begun_in more ≡ 0 → last_begun_at 0 order ≡ last_begun_at 0 (order ++ more)
same_last order more none_more =
    sym (last_append 0 order more ∙ none_begun (last_begun_at 0 order) more none_more)

-- at a seat nothing happens
abbrev IsQuiet : ℕ → List Event → Type 0
IsQuiet at more = (comings_to at more ≡ 0) × (asks_at at more ≡ 0)

-- nothing happens that a keeper alone does
abbrev IsOthers : List Event → Type 0
IsOthers more = (promises_in more ≡ []) × (begun_in more ≡ 0)

-- ---- what seats know

at_below : {X : Type 0} (l : List X) (i : ℕ) (x : X) → get_elem? l i ≡ some x → i < length l
at_below [] i x e = absurd (some-ne-none x (sym e))
at_below (y ∷ l) zero x e = omega arith
at_below (y ∷ l) (suc i) x e = let low = at_below l i x e in omega (arith, low)

at_end : {X : Type 0} (l : List X) (x y : X) (i : ℕ) → get_elem? (l ++ x ∷ []) i ≡ some y
    → (get_elem? l i ≡ some y) ⊎ ((i ≡ length l) × (x ≡ y))
at_end [] x y zero e = inr (refl, some-injective x y e)
at_end [] x y (suc i) e = absurd (some-ne-none y (sym e))
at_end (z ∷ l) x y zero e = inl e
at_end (z ∷ l) x y (suc i) e =
    ⊎_elim (λ t. inl t) (λ (t : (i ≡ length l) × (x ≡ y)). inr (ap suc t.0, t.1)) (at_end l x y i e)

-- what a seat knows still fits after more events, none of them at this seat
longer : (seat : ℕ) (order more : List Event) (at : ℕ) (v : Known) → (v.is_keeper ≡ true → IsOthers more)
    → IsQuiet at more → KnownFits seat order at v → KnownFits seat (order ++ more) at v
longer seat order more at v none_more quiet f = record {
  kept = λ k. (
    (f.kept k).0,
    (f.kept k).1 ∙ same_promises order more (none_more k).0,
    (f.kept k).2 ∙ same_begun order more (none_more k).1,
    (f.kept k).3 ∙ same_last order more (none_more k).1,
  );
  low = among_longer v.promises order more f.low;
  begins = prefix_longer v.order order more f.begins;
  own = λ live. (
    same_comings at v.came order more quiet.0 (f.own live).0,
    same_asks at v.asked order more quiet.1 (f.own live).1,
  );
  heard = among_longer v.heard order more f.heard;
  heard_begins = prefix_longer v.heard_order order more f.heard_begins;
}

fits_set : (seat : ℕ) (order : List Event) (views : List Known) (id : ℕ) (w : Known)
    → ((j : ℕ) (u : Known) → j ≢ id → get_elem? views j ≡ some u → KnownFits seat order j u)
    → KnownFits seat order id w
    → (j : ℕ) (u : Known) → get_elem? (set views id w) j ≡ some u → KnownFits seat order j u
fits_set seat order views id w others mine j u e =
    ⊎_elim
    (λ (x : (j ≡ id) × (w ≡ u)). subst (λ (y : ℕ × Known). KnownFits seat order y.0 y.1) (λ i. (sym x.0 i, x.1 i)) mine)
    (λ (x : (j ≢ id) × (get_elem? views j ≡ some u)). others j u x.0 x.1)
    (at_set views id j w u e)

-- one that is used no more
spent_fits : (seat : ℕ) (order : List Event) (at : ℕ) → KnownFits seat order at spent
spent_fits seat order at = record {
  kept = λ k. absurd (off k);
  low = none_among (promises_in order);
  begins = (order, refl);
  own = λ live. absurd (true≢false live);
  heard = none_among (promises_in order);
  heard_begins = (order, refl);
}

-- a new one that knows some promises and has seen some of the order
copy_fits : (seat : ℕ) (order : List Event) (at : ℕ) (promises : List Promise) (front : List Event)
    → AreAmong promises (promises_in order) → IsPrefix front order → IsQuiet at order
    → KnownFits seat order at (record (seat_with promises) { order = front })
copy_fits seat order at promises front low begins quiet = record {
  kept = λ k. absurd (off k);
  low = low;
  begins = begins;
  own = λ live. quiet;
  heard = none_among (promises_in order);
  heard_begins = (order, refl);
}

pub begins : IsTallied (opening (0 ∷ 0 ∷ []) [] keeper)
begins = record {
  word = 0;
  seat = 0;
  order = [];
  words = refl;
  counts = All-nil (λ p. p.count ≤ 0);
  numbered = tt;
  unseated = λ at low. (refl, refl);
  fits = one;
}
  where
    one : (at : ℕ) (v : Known) → get_elem? (keeper ∷ []) at ≡ some v → KnownFits 0 [] at v
    one zero v e = subst (KnownFits 0 [] 0) (some-injective _ _ e)
        (record {
          kept = λ _. (refl, refl, refl, refl);
          low = none_among [];
          begins = ([], refl);
          own = λ live. (refl, refl);
          heard = none_among [];
          heard_begins = ([], refl);
        })
    one (suc at) v e = absurd (some-ne-none v (sym e))

-- One event happened at a seat, and it knows that now. Where the event is a promise, the seat is the keeper's.
happened : (s : State (Unit {0}) Known) (r : IsTallied s) (id : ℕ) (v : Known) (at : get_elem? s.views id ≡ some v)
    (more : List Event) (word : ℕ) (words : List ℕ) (w : Known) → words ≡ word ∷ begun_in (r.order ++ more) ∷ []
    → CountAtMost word (promises_in (r.order ++ more))
    → AreNumbered (0 + begun_in r.order) (last_begun_at 0 r.order) more
    → ((j : ℕ) → j ≢ id → IsQuiet j more)
    → ((j : ℕ) (u : Known) → j ≢ id → KnownFits r.seat r.order j u → u.is_keeper ≡ true → IsOthers more)
    → KnownFits r.seat (r.order ++ more) id w
    → IsTallied (record { words = words; homes = s.homes; views = set s.views id w })
happened s r id v at more word words w is counts numbered quiet none_more mine = record {
  word = word;
  seat = r.seat;
  order = r.order ++ more;
  words = is;
  counts = counts;
  numbered = numbered_append 0 0 r.order more r.numbered numbered;
  unseated = λ j low.
      let bound = at_below s.views id v at in
      let same : length (set s.views id w) ≡ length s.views = length-set s.views id w in
      let past : length s.views ≤ j = omega (arith, low, same) in
      let still = quiet j (λ e. omega (arith, bound, past, e)) in
      let was = r.unseated j past in
      (same_comings j 0 r.order more still.0 was.0, same_asks j 0 r.order more still.1 was.1);
  fits = fits_set r.seat (r.order ++ more) s.views id w
      (λ j u apart e. let f = r.fits j u e in
      longer r.seat r.order more j u (none_more j u apart f) (quiet j apart) f) mine;
}

pub raises : (moment beats slots id : ℕ) (me : Me (Unit {0}) Known) (new : ℕ) → me.0.is_keeper ≡ true
    → me.0.is_spent ≡ false → CountAtMost new me.0.promises → (1 ≤ me.0.begun → me.0.beats < beats)
    → Allows IsTallied slots id me 0 (λ _. new) (λ _. raised moment beats (step slots 0 new 0 none) me new)
raises moment beats slots id me new keeps_it live most beat s r homes at small =
    let v = me.0 in
    let mine = r.fits id v at in
    let known = mine.kept keeps_it in
    let p : Promise = record { count = new; moment = moment; write = v.begun; beats = beats } in
    let more : List Event = Promised p ∷ [] in
    let order : List Event = r.order ++ more in
    let all : one_more v.promises new moment v.begun beats ≡ promises_in order =
    ap (λ l. l ++ p ∷ []) known.1 ∙ sym (promises_append r.order more) in
    let made = known.2 in
    let since : 1 ≤ 0 + begun_in r.order → last_begun_at 0 r.order < beats =
    λ some. subst (λ (n : ℕ). n < beats) known.3 (beat (omega (arith, made, some))) in
    let w : Known = record v { promises = one_more v.promises new moment v.begun beats; order = order } in (
      w,
      keeps,
      tt,
      happened s r id v at more new (slice_set s.words 0 new) w
          (ap (λ l. slice_set l 0 new) r.words ∙ ap (λ n. new ∷ n ∷ []) (same_begun r.order more refl))
          (All-same (λ q. q.count ≤ new) (promises_in order) (one_more v.promises new moment v.begun beats) (sym all)
          (All-push (λ q. q.count ≤ new) v.promises p most (omega arith)))
          (omega (arith, made), since, tt)
          (λ j apart. (refl, refl))
          (λ j u apart f k. absurd (apart ((f.kept k).0 ∙ sym known.0)))
          (record {
            kept = λ _. (
              known.0,
              all,
              known.2 ∙ same_begun r.order more refl,
              known.3 ∙ same_last r.order more refl,
            );
            low = subst (AreAmong (one_more v.promises new moment v.begun beats)) all (All-contains_itself _);
            begins = ([], append-nil order);
            own = λ _. (
              same_comings id v.came r.order more refl (mine.own live).0,
              same_asks id v.asked r.order more refl (mine.own live).1,
            );
            heard = among_longer v.heard r.order more mine.heard;
            heard_begins = prefix_longer v.heard_order r.order more mine.heard_begins;
          }),
      (order, prefix_longer v.order r.order more mine.begins, refl),
    )

-- one write more began
pub writes : (beats slots id : ℕ) (me : Me (Unit {0}) Known) (new : ℕ) → me.0.is_keeper ≡ true
    → me.0.is_spent ≡ false → me.0.begun + 1 ≡ new
    → Allows IsTallied slots id me 1 (λ _. new) (λ _. begun_more beats (step slots 1 new 0 none) me new)
writes beats slots id me new keeps_it live next s r homes at small =
    let v = me.0 in
    let mine = r.fits id v at in
    let known = mine.kept keeps_it in
    let made = known.2 in
    let more : List Event = Began beats ∷ [] in
    let order : List Event = r.order ++ more in
    let whole = begun_append r.order more in
    let now : v.begun + 1 ≡ begun_in order = omega (arith, made, whole) in
    let same = same_promises r.order more refl in
    let w : Known = record v { order = order; begun = v.begun + 1; beats = beats } in (
      w,
      keeps,
      tt,
      happened s r id v at more r.word (slice_set s.words 1 new) w
          (ap (λ l. slice_set l 1 new) r.words ∙ ap (λ n. r.word ∷ n ∷ []) (sym next ∙ now))
          (All-same (λ q. q.count ≤ r.word) (promises_in order) (promises_in r.order) (sym same) r.counts)
          tt
          (λ j apart. (refl, refl))
          (λ j u apart f k. absurd (apart ((f.kept k).0 ∙ sym known.0)))
          (record {
            kept = λ _. (known.0, known.1 ∙ same, now, sym (last_append 0 r.order more));
            low = among_longer v.promises r.order more mine.low;
            begins = ([], append-nil order);
            own = λ _. (
              same_comings id v.came r.order more refl (mine.own live).0,
              same_asks id v.asked r.order more refl (mine.own live).1,
            );
            heard = among_longer v.heard r.order more mine.heard;
            heard_begins = prefix_longer v.heard_order r.order more mine.heard_begins;
          }),
      (order, prefix_longer v.order r.order more mine.begins, refl),
    )

-- a request came to a seat
pub come : (slots id : ℕ) (me : Me (Unit {0}) Known) → me.0.is_spent ≡ false
    → Allows IsTallied slots id me 0 (λ n. n) (comes (step slots 0 0 0 none) me)
come slots id me live s r homes at small =
    let v = me.0 in
    let mine = r.fits id v at in
    let more : List Event = Came id ∷ [] in
    let order : List Event = r.order ++ more in
    let w : Known = record v { order = order; came = v.came + 1 } in
    let before = (mine.own live).0 in
    let one = came_here id in
    let whole = comings_append id r.order more in
    let own : comings_to id order ≡ v.came + 1 = omega (arith, before, one, whole) in
    let word : slice_index s.words 0 ≡ r.word = ap (λ l. slice_index l 0) r.words in
    let same = same_promises r.order more refl in
    let still = same_begun r.order more refl in
    let counts = All-same (λ q. q.count ≤ r.word) (promises_in order) (promises_in r.order) (sym same) r.counts in
    let low = among_longer v.promises r.order more mine.low in (
      w,
      keeps,
      tt,
      happened s r id v at more r.word (slice_set s.words 0 (slice_index s.words 0)) w
          (ap (λ l. slice_set l 0 (slice_index s.words 0)) r.words ∙ (ap (λ n. n ∷ begun_in r.order ∷ []) word
          ∙ ap (λ n. r.word ∷ n ∷ []) still))
          counts
          tt
          (λ j apart. (came_elsewhere j id apart, refl))
          (λ j u apart f k. (refl, refl))
          (record {
            kept = λ k. (
              (mine.kept k).0,
              (mine.kept k).1 ∙ same,
              (mine.kept k).2 ∙ still,
              (mine.kept k).3 ∙ same_last r.order more refl,
            );
            low = low;
            begins = ([], append-nil order);
            own = λ _. (own, same_asks id v.asked r.order more refl (mine.own live).1);
            heard = among_longer v.heard r.order more mine.heard;
            heard_begins = prefix_longer v.heard_order r.order more mine.heard_begins;
          }),
      (
        record {
          seat = id;
          between = mine.begins.0;
          is = λ i. record v { order = sym mine.begins.1 i ++ Came id ∷ []; came = v.came + 1 };
          own = own;
          among = low;
          counts = subst (λ n. CountAtMost n (promises_in order)) (sym word) counts;
        },
        refl,
      ),
    )

-- a request came, and a seat for it
pub arrive : (slots : ℕ) (first : Me (Unit {0}) Known)
    → Enters IsTallied slots 0 (λ n w. arrives (step slots 0 0 0 none) first n (w, []))
arrive slots first s r homes small =
    let id : ℕ = length s.views in
    let more : List Event = Came id ∷ [] in
    let order : List Event = r.order ++ more in
    let w : Known = record (seat_with []) { order = order; came = 1 } in
    let none_yet = (r.unseated id (omega arith)).0 in
    let one = came_here id in
    let whole = comings_append id r.order more in
    let own : comings_to id order ≡ 1 = omega (arith, none_yet, one, whole) in
    let word : slice_index s.words 0 ≡ r.word = ap (λ l. slice_index l 0) r.words in
    let same = same_promises r.order more refl in
    let still = same_begun r.order more refl in
    let counts = All-same (λ q. q.count ≤ r.word) (promises_in order) (promises_in r.order) (sym same) r.counts in
    let mine : KnownFits r.seat order id w = record {
      kept = λ k. absurd (off k);
      low = none_among (promises_in order);
      begins = ([], append-nil order);
      own = λ _. (own, same_asks id 0 r.order more refl (r.unseated id (omega arith)).1);
      heard = none_among (promises_in order);
      heard_begins = (order, refl);
    } in (
      w,
      record {
        word = r.word;
        seat = r.seat;
        order = order;
        words = r.words ∙ ap (λ n. r.word ∷ n ∷ []) still;
        counts = counts;
        numbered = numbered_append 0 0 r.order more r.numbered tt;
        unseated = λ j low.
            let more_seats = length-append s.views (w ∷ []) in
            let past : length s.views ≤ j = omega (arith, low, more_seats) in
            let was = r.unseated j past in (
              same_comings j 0 r.order more (came_elsewhere j id (λ e. omega (arith, low, more_seats, e))) was.0,
              same_asks j 0 r.order more refl was.1,
            );
        fits = λ j u e. ⊎_elim
            (λ (was : get_elem? s.views j ≡ some u).
            let bound = at_below s.views j u was in
            longer r.seat r.order more j u (λ k. (refl, refl))
            (came_elsewhere j id (λ same_id. omega (arith, bound, same_id)), refl) (r.fits j u was))
            (λ (x : (j ≡ id) × (w ≡ u)). subst (λ (y : ℕ × Known). KnownFits r.seat order y.0 y.1)
            (λ i. (sym x.0 i, x.1 i)) mine)
            (at_end s.views w u j e);
      },
      (
        record {
          seat = id;
          between = r.order;
          is = refl;
          own = own;
          among = none_among (promises_in order);
          counts = subst (λ n. CountAtMost n (promises_in order)) (sym word) counts;
        },
        refl,
      ),
    )

-- a beat was asked for at a seat
pub ask : (slots id : ℕ) (me : Me (Unit {0}) Known) → me.0.is_spent ≡ false
    → Allows IsTallied slots id me 1 (λ n. n) (asks (step slots 1 0 0 none) me)
ask slots id me live s r homes at small =
    let v = me.0 in
    let mine = r.fits id v at in
    let more : List Event = Asked id ∷ [] in
    let order : List Event = r.order ++ more in
    let w : Known = record v { order = order; asked = v.asked + 1 } in
    let before = (mine.own live).1 in
    let one = asked_here id in
    let whole = asks_append id r.order more in
    let own : asks_at id order ≡ v.asked + 1 = omega (arith, before, one, whole) in
    let word : slice_index s.words 1 ≡ begun_in r.order = ap (λ l. slice_index l 1) r.words in
    let same = same_promises r.order more refl in
    let still = same_begun r.order more refl in
    let counts = All-same (λ q. q.count ≤ r.word) (promises_in order) (promises_in r.order) (sym same) r.counts in
    let low = among_longer v.promises r.order more mine.low in (
      w,
      keeps,
      tt,
      happened s r id v at more r.word (slice_set s.words 1 (slice_index s.words 1)) w
          (ap (λ l. slice_set l 1 (slice_index s.words 1)) r.words ∙ ap (λ n. r.word ∷ n ∷ []) (word ∙ still))
          counts
          tt
          (λ j apart. (refl, asked_elsewhere j id apart))
          (λ j u apart f k. (refl, refl))
          (record {
            kept = λ k. (
              (mine.kept k).0,
              (mine.kept k).1 ∙ same,
              (mine.kept k).2 ∙ still,
              (mine.kept k).3 ∙ same_last r.order more refl,
            );
            low = low;
            begins = ([], append-nil order);
            own = λ _. (same_comings id v.came r.order more refl (mine.own live).0, own);
            heard = among_longer v.heard r.order more mine.heard;
            heard_begins = prefix_longer v.heard_order r.order more mine.heard_begins;
          }),
      (
        record {
          seat = id;
          between = mine.begins.0;
          is = λ i. record v { order = sym mine.begins.1 i ++ Asked id ∷ []; asked = v.asked + 1 };
          own = own;
          among = low;
          counts = sym (word ∙ still);
        },
        refl,
      ),
    )

-- a beat was asked for at a seat that is new
pub ask_new : (slots : ℕ) (first : Me (Unit {0}) Known)
    → Enters IsTallied slots 1 (λ n w. asks_first (step slots 1 0 0 none) first n (w, []))
ask_new slots first s r homes small =
    let id : ℕ = length s.views in
    let more : List Event = Asked id ∷ [] in
    let order : List Event = r.order ++ more in
    let w : Known = record (seat_with []) { order = order; asked = 1 } in
    let none_yet = (r.unseated id (omega arith)).1 in
    let one = asked_here id in
    let whole = asks_append id r.order more in
    let own : asks_at id order ≡ 1 = omega (arith, none_yet, one, whole) in
    let word : slice_index s.words 1 ≡ begun_in r.order = ap (λ l. slice_index l 1) r.words in
    let same = same_promises r.order more refl in
    let still = same_begun r.order more refl in
    let counts = All-same (λ q. q.count ≤ r.word) (promises_in order) (promises_in r.order) (sym same) r.counts in
    let mine : KnownFits r.seat order id w = record {
      kept = λ k. absurd (off k);
      low = none_among (promises_in order);
      begins = ([], append-nil order);
      own = λ _. (same_comings id 0 r.order more refl (r.unseated id (omega arith)).0, own);
      heard = none_among (promises_in order);
      heard_begins = (order, refl);
    } in (
      w,
      record {
        word = r.word;
        seat = r.seat;
        order = order;
        words = r.words ∙ ap (λ n. r.word ∷ n ∷ []) still;
        counts = counts;
        numbered = numbered_append 0 0 r.order more r.numbered tt;
        unseated = λ j low.
            let more_seats = length-append s.views (w ∷ []) in
            let past : length s.views ≤ j = omega (arith, low, more_seats) in
            let was = r.unseated j past in (
              same_comings j 0 r.order more refl was.0,
              same_asks j 0 r.order more (asked_elsewhere j id (λ e. omega (arith, low, more_seats, e))) was.1,
            );
        fits = λ j u e. ⊎_elim
            (λ (was : get_elem? s.views j ≡ some u).
            let bound = at_below s.views j u was in
            longer r.seat r.order more j u (λ k. (refl, refl))
            (refl, asked_elsewhere j id (λ same_id. omega (arith, bound, same_id))) (r.fits j u was))
            (λ (x : (j ≡ id) × (w ≡ u)). subst (λ (y : ℕ × Known). KnownFits r.seat order y.0 y.1)
            (λ i. (sym x.0 i, x.1 i)) mine)
            (at_end s.views w u j e);
      },
      (
        record {
          seat = id;
          between = r.order;
          is = refl;
          own = own;
          among = none_among (promises_in order);
          counts = sym (word ∙ still);
        },
        refl,
      ),
    )

-- a seat was made beside another, which knows as much as before
split : (s : State (Unit {0}) Known) (r : IsTallied s) (id : ℕ) (v : Known) (at : get_elem? s.views id ≡ some v)
    (promises : List Promise) (front : List Event) → AreAmong promises (promises_in r.order) → IsPrefix front r.order
    → (let new : Known = record (seat_with promises) { order = front } in
    IsTallied (record { words = s.words; homes = s.homes; views = set s.views id v ++ new ∷ [] }))
split s r id v at promises front low begins =
    let new : Known = record (seat_with promises) { order = front } in
    let same : set s.views id v ≡ s.views = set_again s.views id v at in
    let as_many = length-set s.views id v in record {
      word = r.word;
      seat = r.seat;
      order = r.order;
      words = r.words;
      counts = r.counts;
      numbered = r.numbered;
      unseated = λ j past.
          let seats = length-append (set s.views id v) (new ∷ []) in
          r.unseated j (omega (arith, past, seats, as_many));
      fits = λ j u e. ⊎_elim
          (λ was. r.fits j u (subst (λ l. get_elem? l j ≡ some u) same was))
          (λ (x : (j ≡ length (set s.views id v)) × (new ≡ u)).
          let here = x.0 in
          subst (KnownFits r.seat r.order j) x.1
          (copy_fits r.seat r.order j promises front low begins (r.unseated j (omega (arith, here, as_many)))))
          (at_end (set s.views id v) new u j e);
    }

pub copies : (id : ℕ) (v : Known) → Splits IsTallied id v v (seat_with v.promises)
copies id v s r at = split s r id v at v.promises [] (r.fits id v at).low (r.order, refl)

pub shows : (id : ℕ) (v : Known) → Splits IsTallied id v v (shown_by v)
shows id v s r at = let mine = r.fits id v at in split s r id v at v.promises v.order mine.low mine.begins

-- what the second of two seats knew, before it is spent
theirs : (s : State (Unit {0}) Known) (r : IsTallied s) (id : ℕ) (v both : Known) (other : ℕ) (w : Known)
    → other ≢ id → get_elem? (set s.views id both) other ≡ some w → KnownFits r.seat r.order other w
theirs s r id v both other w apart there =
    ⊎_elim
    (λ (t : (other ≡ id) × (both ≡ w)). absurd (apart t.0))
    (λ (t : (other ≢ id) × (get_elem? s.views other ≡ some w)). r.fits other w t.1)
    (at_set s.views id other both w there)

-- two seats were joined, and the second is spent
joined : (s : State (Unit {0}) Known) (r : IsTallied s) (id : ℕ) (both : Known) (other : ℕ)
    → KnownFits r.seat r.order id both
    → IsTallied (record { words = s.words; homes = s.homes; views = set (set s.views id both) other spent })
joined s r id both other mine = record {
  word = r.word;
  seat = r.seat;
  order = r.order;
  words = r.words;
  counts = r.counts;
  numbered = r.numbered;
  unseated = λ j low.
      let one = length-set (set s.views id both) other spent in
      let two = length-set s.views id both in
      r.unseated j (omega (arith, low, one, two));
  fits = fits_set r.seat r.order (set s.views id both) other spent
      (λ j u _ e. fits_set r.seat r.order s.views id both (λ i y _ e'. r.fits i y e') mine j u e)
      (spent_fits r.seat r.order other);
}

pub hears : (id : ℕ) (v : Known) (other : ℕ) (w : Known) → Joins IsTallied id v other w (heard_from v w) spent
hears id v other w s r at apart there =
    let mine = r.fits id v at in
    let both : Known = heard_from v w in
    let its = theirs s r id v both other w apart there in
    joined s r id both other
    (record {
      kept = mine.kept;
      low = mine.low;
      begins = mine.begins;
      own = mine.own;
      heard = its.low;
      heard_begins = its.begins;
    })

pub unites : (id : ℕ) (v : Known) (other : ℕ) (w : Known) → Joins IsTallied id v other w (united v w) spent
unites id v other w s r at apart there =
    let mine = r.fits id v at in
    let both : Known = united v w in
    let its = theirs s r id v both other w apart there in
    joined s r id both other
    (record {
      kept = λ k. absurd (off k);
      low = All-append (Contains (promises_in r.order)) v.promises w.promises mine.low its.low;
      begins = mine.begins;
      own = mine.own;
      heard = mine.heard;
      heard_begins = mine.heard_begins;
    })

pub sees : (slots id : ℕ) (me : Me (Unit {0}) Known) → me.0.is_spent ≡ false
    → Allows IsTallied slots id me 0 (λ n. n) (looks (step slots 0 0 0 none) me)
sees slots id me live s r homes at small =
    let v = me.0 in
    let mine = r.fits id v at in
    let w : Known = record v { order = r.order } in
    let word : slice_index s.words 0 ≡ r.word = ap (λ l. slice_index l 0) r.words in (
      w,
      keeps,
      tt,
      record {
        word = r.word;
        seat = r.seat;
        order = r.order;
        words = ap (λ l. slice_set l 0 (slice_index s.words 0)) r.words ∙ ap (λ n. n ∷ begun_in r.order ∷ []) word;
        counts = r.counts;
        numbered = r.numbered;
        unseated = λ j low. let as_many = length-set s.views id w in r.unseated j (omega (arith, low, as_many));
        fits = fits_set r.seat r.order s.views id w (λ j u _ e. r.fits j u e)
            (record {
              kept = mine.kept;
              low = mine.low;
              begins = ([], append-nil r.order);
              own = mine.own;
              heard = mine.heard;
              heard_begins = mine.heard_begins;
            });
      },
      (
        record {
          order = r.order;
          is = refl;
          begins = mine.begins;
          among = mine.low;
          heard = λ k. subst (AreAmong v.heard) (sym (mine.kept k).1) mine.heard;
          heard_begins = mine.heard_begins;
          numbered = r.numbered;
        },
        refl,
      ),
    )
