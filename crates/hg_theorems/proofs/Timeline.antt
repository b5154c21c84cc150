-- What happened at several servers, in one order: an answer that rests on a beat was asked for before the next server
-- opened the store.
use Rattle.std.proofs.Common.{ℕ, ◌≡◌, ◌⊎◌, ◌≤◌, ◌<◌, ◌==◌, Bool, true, List, [], ◌∷◌, ◌++◌, length}
use Rattle.std.proofs.Common.{refl, sym, ◌∙◌, ap, subst, inl, inr, ⊎_elim, append_assoc, eq-eqb}
use Rattle.std.proofs.Common.{length-append, arith}
use Rattle.std.specs.Prelude.{All, Contains, if◌then◌else◌}
use Rattle.std.proofs.lemmas.Bool.Decides.{leb_tells}
use Rattle.std.proofs.lemmas.List.Elements.{All-contains, Contains-append_cases, Contains-append_left}
use Rattle.std.proofs.lemmas.List.Elements.{Contains-append_right, Contains-push_cases}
use mathlib.Core.List.{IsPrefix}
use Rattle.hg_commit.specs.Orders.{Asked, Began, Came, Comes, Event, HasBeat, Promised}
use Rattle.hg_commit.specs.Orders.{promises_in, ReceiptView}
use Rattle.hg_commit.specs.Promises.{Promise}
use Rattle.hg_theorems.specs.Holders.{beats_said, CameBehind, Happening, HoldsAlone, Opened, OpensFirst, order_of}
use Rattle.hg_theorems.specs.Holders.{Tallied}

-- ---- lists

head_of : {X : Type 0} (x y : X) (xs ys : List X) → x ∷ xs ≡ y ∷ ys → x ≡ y
head_of x y xs ys e = cc

rest_of : {X : Type 0} (x y : X) (xs ys : List X) → x ∷ xs ≡ y ∷ ys → xs ≡ ys
rest_of x y xs ys e = cc

prefix_short : {X : Type 0} (xs ys : List X) → IsPrefix xs ys → length xs ≤ length ys
prefix_short xs ys p = let whole = length-append xs p.0 in let same = ap length p.1 in omega (arith, whole, same)

has_there : {X : Type 0} (front back : List X) (x : X) → Contains (front ++ x ∷ back) x
has_there front back x = Contains-append_right front (x ∷ back) x (0, omega arith, refl)

-- it is the first, or one of the others
first_or : {X : Type 0} (x y : X) (xs : List X) → Contains (x ∷ xs) y → (x ≡ y) ⊎ Contains xs y
first_or x y xs has = ⊎_elim
    (λ (c : Contains (x ∷ []) y). ⊎_elim (λ (n : Contains [] y). absurd (let low = n.1 in omega (arith, low)))
    (λ (e : x ≡ y). inl e) (Contains-push_cases [] x y c))
    (λ (c : Contains xs y). inr c) (Contains-append_cases (x ∷ []) xs y has)

promises_append : (xs ys : List Event) → promises_in (xs ++ ys) ≡ promises_in xs ++ promises_in ys
promises_append [] ys = refl
promises_append (Promised p ∷ xs) ys = ap (λ l. p ∷ l) (promises_append xs ys)
promises_append (Came seat ∷ xs) ys = promises_append xs ys
promises_append (Began at ∷ xs) ys = promises_append xs ys
promises_append (Asked seat ∷ xs) ys = promises_append xs ys

beats_append : (xs ys : List Event) → beats_said (xs ++ ys) ≡ beats_said xs ++ beats_said ys
beats_append [] ys = refl
beats_append (Promised p ∷ xs) ys = ap (λ l. p.beats ∷ l) (beats_append xs ys)
beats_append (Came seat ∷ xs) ys = beats_append xs ys
beats_append (Began beats ∷ xs) ys = ap (λ l. beats ∷ l) (beats_append xs ys)
beats_append (Asked seat ∷ xs) ys = beats_append xs ys

-- a begin of a write, and a promise, say how many
begin_says : (front back : List Event) (beats : ℕ) → Contains (beats_said (front ++ Began beats ∷ back)) beats
begin_says front back beats =
    subst (λ (l : List ℕ). Contains l beats) (sym (beats_append front (Began beats ∷ back)))
    (has_there (beats_said front) (beats_said back) beats)

promise_says : (front back : List Event) (p : Promise)
    → Contains (beats_said (front ++ Promised p ∷ back)) p.beats
promise_says front back p =
    subst (λ (l : List ℕ). Contains l p.beats) (sym (beats_append front (Promised p ∷ back)))
    (has_there (beats_said front) (beats_said back) p.beats)

-- among more
said_before : (xs ys : List Event) (n : ℕ) → Contains (beats_said xs) n → Contains (beats_said (xs ++ ys)) n
said_before xs ys n has =
    subst (λ (l : List ℕ). Contains l n) (sym (beats_append xs ys))
    (Contains-append_left (beats_said xs) (beats_said ys) n has)

said_behind : (xs ys : List Event) (n : ℕ) → Contains (beats_said ys) n → Contains (beats_said (xs ++ ys)) n
said_behind xs ys n has =
    subst (λ (l : List ℕ). Contains l n) (sym (beats_append xs ys))
    (Contains-append_right (beats_said xs) (beats_said ys) n has)

-- ---- what happened at one of them

order_append : (n : ℕ) (xs ys : List Happening) → order_of n (xs ++ ys) ≡ order_of n xs ++ order_of n ys
order_append n [] ys = refl
order_append n (Opened at ∷ xs) ys = order_append n xs ys
order_append n (Tallied at e ∷ xs) ys =
    let here : List Event = if at == n then e ∷ [] else [] in
    ap (λ l. here ++ l) (order_append n xs ys) ∙ sym (append_assoc here (order_of n xs) (order_of n ys))

-- at the server itself
at_own : (n at : ℕ) (e : Event) (later : List Happening) → at == n ≡ true
    → order_of n (Tallied at e ∷ later) ≡ e ∷ order_of n later
at_own n at e later own = ap (λ (b : Bool). (if b then e ∷ [] else []) ++ order_of n later) own

-- a front of a list is one of another front of it, or what is behind stands in the rest
front_or : {X : Type 0} (xs ys front more : List X) → xs ++ ys ≡ front ++ more
    → IsPrefix front xs ⊎ ((rest : List X) × (ys ≡ rest ++ more))
front_or xs ys [] more is = inl (xs, refl)
front_or [] ys (e ∷ front) more is = inr (e ∷ front, is)
front_or {X = X} (x ∷ xs) ys (e ∷ front) more is =
    let first : x ≡ e = head_of x e (xs ++ ys) (front ++ more) is in
    ⊎_elim
    (λ (p : IsPrefix front xs). inl (p.0, ap (λ h. h ∷ (front ++ p.0)) (sym first) ∙ ap (λ l. x ∷ l) p.1))
    (λ (r : (rest : List X) × (ys ≡ rest ++ more)). inr r)
    (front_or xs ys front more (rest_of x e (xs ++ ys) (front ++ more) is))

order_front : (n : ℕ) (xs ys : List Happening) → IsPrefix xs ys → IsPrefix (order_of n xs) (order_of n ys)
order_front n xs ys p = (order_of n p.0, sym (order_append n xs p.0) ∙ ap (order_of n) p.1)

-- ---- the laws

-- What a client of a server had seen as it asked for a beat had happened before a later server opened the store.
pub over_before : (all : List Happening) (n k : ℕ) (before after : ReceiptView) (rests : ℕ) (early late : List Happening)
    → HoldsAlone all → IsPrefix after.order (order_of n all) → (beat : HasBeat before after rests)
    → all ≡ early ++ Opened k ∷ late → n < k → IsPrefix beat.asked.order (order_of n early)
over_before all n k before after rests early late alone seen beat opened low =
    let asked : List Event = beat.asked.order in
    let tail : List Event = (Began beat.beats ∷ beat.behind) ++ Promised beat.promise ∷ beat.later in
    let own : List Event = beat.between ++ tail in
    let whole : order_of n early ++ order_of n late ≡ asked ++ (own ++ seen.0) =
    sym (order_append n early (Opened k ∷ late)) ∙ (ap (order_of n) (sym opened)
    ∙ (sym seen.1 ∙ (ap (λ l. l ++ seen.0) beat.order ∙ append_assoc asked own seen.0))) in
    let still = alone early late k n opened low in
    let Same : ℕ → Type 0 = λ said. said ≡ still.0 in
    ⊎_elim
    (λ (p : IsPrefix asked (order_of n early)). p)
    (λ (r : (rest : List Event) × (order_of n late ≡ rest ++ (own ++ seen.0))).
    let all_same = subst (λ (l : List Event). All Same (beats_said l)) r.1 still.1 in
    let said : List ℕ = beats_said (r.0 ++ (own ++ seen.0)) in
    let begin = All-contains Same said beat.beats all_same
    (said_behind r.0 (own ++ seen.0) beat.beats (said_before own seen.0 beat.beats
    (begin_says beat.between (beat.behind ++ Promised beat.promise ∷ beat.later) beat.beats))) in
    let made = All-contains Same said beat.promise.beats all_same
    (said_behind r.0 (own ++ seen.0) beat.promise.beats (said_before own seen.0 beat.promise.beats
    (said_behind beat.between tail beat.promise.beats
    (promise_says (Began beat.beats ∷ beat.behind) beat.later beat.promise)))) in
    let more = beat.beat in
    absurd (omega (arith, begin, made, more)))
    (front_or (order_of n early) (order_of n late) asked (own ++ seen.0) whole)

-- where something stands, in two parts around it
record Around (all : List Happening) (x : Happening) : Type 0 where
  front : List Happening
  back : List Happening
  is : all ≡ front ++ x ∷ back

around : (all : List Happening) (x : Happening) → Contains all x → Around all x
around [] x has = absurd (let low = has.1 in omega (arith, low))
around (y ∷ all) x has = ⊎_elim
    (λ (e : y ≡ x). record { front = []; back = all; is = ap (λ h. h ∷ all) e })
    (λ (c : Contains all x). let inner = around all x c in record {
      front = y ∷ inner.front;
      back = inner.back;
      is = ap (λ l. y ∷ l) inner.is;
    })
    (first_or y x all has)

-- A request came behind a promise of a server: it was not to an earlier one, if its answer rests on a beat.
not_earlier : (all : List Happening) (n other : ℕ) (p : Promise) (asked after : ReceiptView) (rests : ℕ)
    → HoldsAlone all → OpensFirst all → IsPrefix after.order (order_of n all)
    → CameBehind all other p n asked → HasBeat asked after rests → n < other → ⊥
not_earlier all n other p asked after rests alone first seen came beat low =
    let own : List Happening = came.between ++ Tallied n (Came came.seat) ∷ came.late in
    let it = around came.early (Opened other) (first came.early own other (Promised p) came.spelled) in
    let spelled : all ≡ it.front ++ Opened other ∷ (it.back ++ Tallied other (Promised p) ∷ own) =
    came.spelled ∙ (ap (λ l. l ++ Tallied other (Promised p) ∷ own) it.is
    ∙ append_assoc it.front (Opened other ∷ it.back) (Tallied other (Promised p) ∷ own)) in
    let seen_then = over_before all n other asked after rests it.front
    (it.back ++ Tallied other (Promised p) ∷ own) alone seen beat spelled low in
    let until : List Happening = came.early ++ Tallied other (Promised p) ∷ came.between in
    let front : IsPrefix it.front until = (
      (Opened other ∷ it.back) ++ Tallied other (Promised p) ∷ came.between,
      sym (append_assoc it.front (Opened other ∷ it.back) (Tallied other (Promised p) ∷ came.between))
          ∙ ap (λ l. l ++ Tallied other (Promised p) ∷ came.between) (sym it.is),
    ) in
    let short = prefix_short beat.asked.order (order_of n it.front) seen_then in
    let within = prefix_short (order_of n it.front) (order_of n until) (order_front n it.front until front) in
    let here = ap length came.seen in
    let here_long = length-append (order_of n until) (Came came.seat ∷ []) in
    let long = ap length beat.asks.last in
    let long_too = length-append (asked.order ++ beat.asks.between) (Asked beat.asks.seat ∷ []) in
    let longer = length-append asked.order beat.asks.between in
    omega (arith, short, within, here, here_long, long, long_too, longer)

pub not_later : (all : List Happening) (n other : ℕ) (p : Promise) (asked after : ReceiptView) (rests : ℕ)
    → HoldsAlone all → OpensFirst all → IsPrefix after.order (order_of n all)
    → CameBehind all other p n asked → HasBeat asked after rests → other ≤ n
not_later all n other p asked after rests alone first seen came beat = ⊎_elim
    (λ low. low.1)
    (λ high. absurd (not_earlier all n other p asked after rests alone first seen came beat high.1))
    (leb_tells other n)

-- It finds as many promised, where it came to that server itself.
pub as_many : (all : List Happening) (n : ℕ) (p : Promise) (before asked : ReceiptView) (count : ℕ)
    → CameBehind all n p n asked → Comes before asked count → p.count ≤ count
as_many all n p before asked count came comes =
    let until : List Event = order_of n (came.early ++ Tallied n (Promised p) ∷ came.between) in
    let own : order_of n (Tallied n (Promised p) ∷ came.between) ≡ Promised p ∷ order_of n came.between =
    at_own n n (Promised p) came.between (eq-eqb n n refl) in
    let spelled : until ≡ order_of n came.early ++ Promised p ∷ order_of n came.between =
    order_append n came.early (Tallied n (Promised p) ∷ came.between)
    ∙ ap (λ l. order_of n came.early ++ l) own in
    let there : Contains (promises_in asked.order) p =
    subst (λ (l : List Event). Contains (promises_in l) p) (sym came.seen)
    (subst (λ (l : List Promise). Contains l p) (sym (promises_append until (Came came.seat ∷ [])))
    (Contains-append_left (promises_in until) [] p
    (subst (λ (l : List Event). Contains (promises_in l) p) (sym spelled)
    (subst (λ (l : List Promise). Contains l p)
    (sym (promises_append (order_of n came.early) (Promised p ∷ order_of n came.between)))
    (has_there (promises_in (order_of n came.early)) (promises_in (order_of n came.between)) p))))) in
    All-contains (λ (q : Promise). q.count ≤ count) (promises_in asked.order) p comes.counts there
