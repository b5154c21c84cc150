-- A beat that was asked for, in the one order.
use Rattle.std.proofs.Common.{ℕ, zero, suc, ◌≡◌, ◌⊎◌, ◌≤◌, ◌<◌, ◌+◌, ◌∙◌, List, [], ◌∷◌, ◌++◌, sym, ap, subst, inl, inr}
use Rattle.std.proofs.Common.{⊎_elim, append_assoc, append-nil, arith, refl}
use Rattle.std.specs.Prelude.{Contains, IfSome, Option, None, Some}
use Rattle.std.specs.Option.{SomeIff}
use mathlib.Core.List.{IsPrefix}
use Rattle.std.proofs.lemmas.List.Elements.{All-contains, All-push, All-same, All-weaker, Contains-push_cases}
use Rattle.std.proofs.lemmas.List.Elements.{Contains-append_cases}
use Rattle.hg_commit.specs.Orders.{AreNumbered, AreSeen, Asked, Asks, Began, begun_in, Came, Event, HasBeat}
use Rattle.hg_commit.specs.Orders.{HasGrown, last_begun_at, Promised, promises_in, ReceiptView}
use Rattle.hg_commit.specs.Clients.{AreWritten}
use Rattle.hg_commit.specs.Promises.{Promise, SayAtMost}
use Rattle.hg_commit.proofs.Counting.{none_begun}

-- it is the first, or one of the others
first_or : {X : Type 0} (x y : X) (xs : List X) → Contains (x ∷ xs) y → (x ≡ y) ⊎ Contains xs y
first_or x y xs has = ⊎_elim
    (λ (c : Contains (x ∷ []) y). ⊎_elim (λ (n : Contains [] y). absurd (let low = n.1 in omega (arith, low)))
    (λ (e : x ≡ y). inl e) (Contains-push_cases [] x y c))
    (λ (c : Contains xs y). inr c) (Contains-append_cases (x ∷ []) xs y has)

none_in : {X : Type 0} (x : X) → Contains [] x → ⊥
none_in x has = let low = has.1 in omega (arith, low)

none_or_some : (n : ℕ) → (n ≡ 0) ⊎ (1 ≤ n)
none_or_some zero = inl refl
none_or_some (suc n) = inr (omega arith)

-- A promise that was made after more writes had begun than in a front stands behind it.
record IsBehind (n beats : ℕ) (front more : List Event) (p : Promise) : Type 0 where
  has : Contains (promises_in more) p
  numbered : AreNumbered (n + begun_in front) (last_begun_at beats front) more

behind : (n beats : ℕ) (front more : List Event) (p : Promise) → AreNumbered n beats (front ++ more)
    → Contains (promises_in (front ++ more)) p → n + begun_in front < p.write → IsBehind n beats front more p
behind n beats [] more p all has low =
    let e : n ≡ n + 0 = omega arith in
    record { has = has; numbered = subst (λ (k : ℕ). AreNumbered k beats more) e all }
behind n beats (Promised q ∷ front) more p all has low =
    let it = behind n beats front more p all.2
    (⊎_elim (λ (e : q ≡ p). let same = ap (λ (x : Promise). x.write) e in let made = all.0 in
    absurd (omega (arith, same, made, low))) (λ (c : Contains (promises_in (front ++ more)) p). c)
    (first_or q p (promises_in (front ++ more)) has)) low in
    record { has = it.has; numbered = it.numbered }
behind n beats (Came seat ∷ front) more p all has low =
    let it = behind n beats front more p all has low in record { has = it.has; numbered = it.numbered }
behind n beats (Began at ∷ front) more p all has low =
    let it = behind (n + 1) at front more p all has (omega (arith, low)) in
    let e : (n + 1) + begun_in front ≡ n + (1 + begun_in front) = omega arith in
    record {
      has = it.has;
      numbered = subst (λ (k : ℕ). AreNumbered k (last_begun_at at front) more) e it.numbered;
    }
behind n beats (Asked seat ∷ front) more p all has low =
    let it = behind n beats front more p all has low in record { has = it.has; numbered = it.numbered }

-- where it stands
record StandsAt (n beats : ℕ) (more : List Event) (p : Promise) : Type 0 where
  between : List Event
  later : List Event
  is : more ≡ between ++ Promised p ∷ later
  number : n + begun_in between ≡ p.write
  beat : 1 ≤ p.write → last_begun_at beats between < p.beats

stands : (n beats : ℕ) (more : List Event) (p : Promise) → AreNumbered n beats more → Contains (promises_in more) p
    → StandsAt n beats more p
stands n beats [] p all has = absurd (none_in p has)
stands n beats (Promised q ∷ more) p all has = ⊎_elim
    (λ (e : q ≡ p). let same = ap (λ (x : Promise). x.write) e in let made = all.0 in
    record {
      between = [];
      later = more;
      is = ap (λ (x : Promise). Promised x ∷ more) e;
      number = omega (arith, same, made);
      beat = λ some. subst (λ (x : Promise). beats < x.beats) e (all.1 (omega (arith, same, made, some)));
    })
    (λ (c : Contains (promises_in more) p). let it = stands n beats more p all.2 c in
    record {
      between = Promised q ∷ it.between;
      later = it.later;
      is = ap (λ l. Promised q ∷ l) it.is;
      number = it.number;
      beat = it.beat;
    })
    (first_or q p (promises_in more) has)
stands n beats (Came seat ∷ more) p all has = let it = stands n beats more p all has in record {
  between = Came seat ∷ it.between;
  later = it.later;
  is = ap (λ l. Came seat ∷ l) it.is;
  number = it.number;
  beat = it.beat;
}
stands n beats (Began at ∷ more) p all has =
    let it = stands (n + 1) at more p all has in
    let number = it.number in
    record {
      between = Began at ∷ it.between;
      later = it.later;
      is = ap (λ l. Began at ∷ l) it.is;
      number = omega (arith, number);
      beat = it.beat;
    }
stands n beats (Asked seat ∷ more) p all has = let it = stands n beats more p all has in record {
  between = Asked seat ∷ it.between;
  later = it.later;
  is = ap (λ l. Asked seat ∷ l) it.is;
  number = it.number;
  beat = it.beat;
}

-- the last write that began among these, when the device had had fewer beats than that
record LastBegan (n : ℕ) (events : List Event) : Type 0 where
  front : List Event
  at : ℕ
  back : List Event
  is : events ≡ front ++ Began at ∷ back
  none_more : begun_in back ≡ 0
  low : at < n

-- it is the first of these, or one behind
first_began : (at n : ℕ) (events : List Event) → last_begun_at at events < n
    → (begun_in events ≡ 0) ⊎ (1 ≤ begun_in events) → (1 ≤ begun_in events → LastBegan n events)
    → LastBegan n (Began at ∷ events)
first_began at n events low (inl none_more) more = record {
  front = [];
  at = at;
  back = events;
  is = refl;
  none_more = none_more;
  low = subst (λ (k : ℕ). k < n) (none_begun at events none_more) low;
}
first_began at n events low (inr some) more = let it = more some in record {
  front = Began at ∷ it.front;
  at = it.at;
  back = it.back;
  is = ap (λ l. Began at ∷ l) it.is;
  none_more = it.none_more;
  low = it.low;
}

last_began : (beats n : ℕ) (events : List Event) → last_begun_at beats events < n → 1 ≤ begun_in events
    → LastBegan n events
last_began beats n [] low some = absurd (omega (arith, some))
last_began beats n (Promised p ∷ events) low some = let it = last_began beats n events low some in record {
  front = Promised p ∷ it.front;
  at = it.at;
  back = it.back;
  is = ap (λ l. Promised p ∷ l) it.is;
  none_more = it.none_more;
  low = it.low;
}
last_began beats n (Came seat ∷ events) low some = let it = last_began beats n events low some in record {
  front = Came seat ∷ it.front;
  at = it.at;
  back = it.back;
  is = ap (λ l. Came seat ∷ l) it.is;
  none_more = it.none_more;
  low = it.low;
}
last_began beats n (Began at ∷ events) low some =
    first_began at n events low (none_or_some (begun_in events)) (λ more. last_began at n events low more)
last_began beats n (Asked seat ∷ events) low some = let it = last_began beats n events low some in record {
  front = Asked seat ∷ it.front;
  at = it.at;
  back = it.back;
  is = ap (λ l. Asked seat ∷ l) it.is;
  none_more = it.none_more;
  low = it.low;
}

-- what was seen, from the ask on, by where the last write began
spelled_on : (now asked rest between later front back : List Event) (began promised : Event) → now ≡ asked ++ rest
    → rest ≡ between ++ promised ∷ later → between ≡ front ++ began ∷ back
    → now ≡ asked ++ (front ++ began ∷ (back ++ promised ∷ later))
spelled_on now asked rest between later front back began promised whole is last =
    whole ∙ ap (λ l. asked ++ l)
    (is ∙ (ap (λ l. l ++ promised ∷ later) last ∙ append_assoc front (began ∷ back) (promised ∷ later)))

-- Who asked for a beat and has a promise then that was made after a later write had begun has that beat.
pub beat_of : (before asked now : ReceiptView) (begun rests : ℕ) (p : Promise) → Asks before asked begun
    → now.asked ≡ asked.asked → IsPrefix asked.order now.order → AreNumbered 0 0 now.order → AreSeen now
    → Contains now.promises p → begun < p.write → rests ≤ p.count → HasBeat before now rests
beat_of before asked now begun rests p asks one front numbered seen has low enough =
    let there = All-contains (Contains (promises_in now.order)) now.promises p seen has in
    let whole = sym front.1 in
    let count = asks.counts in
    let back = behind 0 0 asked.order front.0 p (subst (AreNumbered 0 0) whole numbered)
    (subst (λ (l : List Event). Contains (promises_in l) p) whole there) (omega (arith, count, low)) in
    let it = stands (0 + begun_in asked.order) (last_begun_at 0 asked.order) front.0 p back.numbered back.has in
    let number = it.number in
    let begin = last_began (last_begun_at 0 asked.order) p.beats it.between (it.beat (omega (arith, low)))
    (omega (arith, number, count, low)) in
    record {
      asked = asked;
      begun = begun;
      asks = asks;
      one = one;
      between = begin.front;
      beats = begin.at;
      behind = begin.back;
      promise = p;
      later = it.later;
      order = spelled_on now.order asked.order front.0 it.between it.later begin.front begin.back (Began begin.at)
          (Promised p) whole it.is begin.is;
      last = begin.none_more;
      beat = begin.low;
      has = has;
      counts = enough;
    }

-- ---- what a client's receipt has after it asked

pub as_before : (r : ReceiptView) → HasGrown r r
as_before r = record {
  promises = ([], append-nil r.promises);
  order = ([], append-nil r.order);
  came = omega arith;
}

pub asks_grown : (before asked : ReceiptView) (begun : ℕ) → Asks before asked begun → HasGrown before asked
asks_grown before asked begun a =
    let same = a.came in
    record {
      promises = ([], append-nil before.promises ∙ sym a.same);
      order = (
        a.between ++ Asked a.seat ∷ [],
        sym (append_assoc before.order a.between (Asked a.seat ∷ [])) ∙ sym a.last,
      );
      came = omega (arith, same);
    }

prefix_again : {X : Type 0} (xs ys zs : List X) → IsPrefix xs ys → IsPrefix ys zs → IsPrefix xs zs
prefix_again xs ys zs p q = (p.0 ++ q.0, sym (append_assoc xs p.0 q.0) ∙ (ap (λ l. l ++ q.0) p.1 ∙ q.1))

pub grown_again : (one two three : ReceiptView) → HasGrown one two → HasGrown two three → HasGrown one three
grown_again one two three p q =
    let first = p.came in
    let second = q.came in
    record {
      promises = prefix_again one.promises two.promises three.promises p.promises q.promises;
      order = prefix_again one.order two.order three.order p.order q.order;
      came = omega (arith, first, second);
    }

-- the next number, where there is one
pub next_of : (r : Option ℕ) (P : Type 0) (begun : ℕ) (before now : ReceiptView) → SomeIff r P (begun + 1)
    → Asks before now begun → IfSome r (λ write. (n : ℕ) × (write ≡ n + 1) × Asks before now n)
next_of None P begun before now is asks = tt
next_of (Some write) P begun before now is asks = (begun, is.1, asks)

-- after an earlier write, too
pub written_less : (promises : List Promise) (rests late write : ℕ) → write ≤ late → AreWritten promises rests late
    → AreWritten promises rests write
written_less promises rests late write low w =
    let written = w.written in
    record { promise = w.promise; has = w.has; counts = w.counts; written = omega (arith, written, low) }

-- ---- what promises say

-- a promise was made as the device had had so many beats, and no fewer than the others say
pub said_with : (promises made : List Promise) (p : Promise) (before now : ℕ) → before ≤ now → p.beats ≡ now
    → made ≡ promises ++ p ∷ [] → SayAtMost before promises → SayAtMost now made
said_with promises made p before now low same is said =
    All-same (λ (q : Promise). q.beats ≤ now) made (promises ++ p ∷ []) is
    (All-push (λ (q : Promise). q.beats ≤ now) promises p
    (All-weaker (λ (q : Promise). q.beats ≤ before) (λ (q : Promise). q.beats ≤ now)
    (λ q few. omega (arith, low, few)) promises said) (omega (arith, same)))
