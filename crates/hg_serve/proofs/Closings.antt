-- When a push is closed.
use Rattle.std.proofs.Common.{◌≡◌, ◌⊎◌, ℕ, zero, suc, ◌+◌, ◌==◌, ◌&&◌, ◌||◌, not, Bool, true, false}
use Rattle.std.proofs.Common.{true≢false, List, [], ◌∷◌, ◌++◌, length, Some, Option, cond, if◌then◌else◌}
use Rattle.std.proofs.Common.{refl, sym, ap, ◌∙◌, subst, inl, inr, ⊎_elim, eq-eqb, arith, append_assoc}
use Rattle.std.proofs.lemmas.Bool.Decides.{nat_tests}
use Rattle.std.proofs.lemmas.List.{append-nil}
use Rattle.std.specs.Prelude.{slice_get, MatchBool, Err}
use mathlib.Core.List.{IsPrefix}
use Rattle.std.proofs.lemmas.List.Elements.{filter-append}
use Rattle.hg_parts.specs.declared.item.Item.{Item}
use Rattle.hg_parts.specs.declared.item.What.{What}
use Rattle.hg_parts.specs.declared.item.What.TheVariants.{Part as a_part, End, Cut}
use Rattle.hg_repo.specs.declared.done.Done.{Done}
use Rattle.hg_parts.specs.declared.refusal.Refusal.{Refusal}
use Rattle.hg_parts.specs.declared.item.Taken.{Taken}
use Rattle.hg_queue.specs.History.{is_part, of, items_of, IsOrderly}
use Rattle.hg_queue.proofs.CallerLemmas.{get_front, get_end}
use Rattle.hg_push.specs.declared.outcome.Outcome.{Outcome}
use Rattle.hg_push.specs.declared.outcome.Outcome.TheVariants.{Aborted}
use Rattle.hg_push.specs.declared.outcome.Reason.TheVariants.{NoMemory}
use Rattle.hg_push.specs.History.{History, is_of, is_mark, is_closed, closes, parts, serial, outcome, told}
use Rattle.hg_push.specs.History.{decided, decided_by}
use Rattle.hg_push.specs.Run.{RepositoryOf, run_push}
use Rattle.hg_serve.specs.Histories.{newest_first, ending}
use Rattle.hg_serve.proofs.Lists.{one_more}

-- ---- from the end of a list

go_on : {X : Type 0} (P : List X → Type 0) → ((xs : List X) (x : X) → P xs → P (xs ++ x ∷ []))
    → (front rest : List X) → P front → P (front ++ rest)
go_on P more front [] p = subst P (sym (append-nil front)) p
go_on P more front (x ∷ rest) p =
    subst P (append_assoc front (x ∷ []) rest) (go_on P more (front ++ x ∷ []) rest (more front x p))

pub from_end : {X : Type 0} (P : List X → Type 0) → P [] → ((xs : List X) (x : X) → P xs → P (xs ++ x ∷ []))
    → (xs : List X) → P xs
from_end P none more xs = go_on P more [] xs none

pub items_append : {A : Type 0} (xs ys : List (Taken A)) → items_of (xs ++ ys) ≡ items_of xs ++ items_of ys
items_append [] ys = refl
items_append (x ∷ xs) ys = ap (λ l. x.item ∷ l) (items_append xs ys)

get_snoc : {X : Type 0} (xs : List X) (y : X) (k : ℕ) (x : X) → slice_get (xs ++ y ∷ []) k ≡ Some x
    → (slice_get xs k ≡ Some x) ⊎ (y ≡ x)
get_snoc [] y zero x e = inr (cc (e))
get_snoc [] y (suc k) x e = absurd cc
get_snoc (z ∷ xs) y zero x e = inl e
get_snoc (z ∷ xs) y (suc k) x e = get_snoc xs y k x e

-- ---- tests

or_false : (a b : Bool) → (a || b) ≡ false → (a ≡ false) × (b ≡ false)
or_false true b e = absurd (true≢false e)
or_false false b e = (refl, e)

or_true : (a b : Bool) → (a || b) ≡ true → a ≡ false → b ≡ true
or_true true b e isnt = absurd (true≢false isnt)
or_true false b e isnt = e

and_true : (a b : Bool) → (a && b) ≡ true → (a ≡ true) × (b ≡ true)
and_true true b e = (refl, e)
and_true false b e = absurd (true≢false (sym e))

and_false : (a b : Bool) → (a && b) ≡ false → a ≡ true → b ≡ false
and_false true b e is = e
and_false false b e is = absurd (true≢false (sym is))

part_or_mark : {A : Type 0} (what : What A) → is_mark what ≡ false → is_part what ≡ true
part_or_mark (a_part part) e = refl
part_or_mark End e = absurd (true≢false e)
part_or_mark (Cut reason) e = absurd (true≢false e)

pub mark_is_no_part : {A : Type 0} (what : What A) → is_mark what ≡ true → is_part what ≡ false
mark_is_no_part (a_part part) e = absurd (true≢false (sym e))
mark_is_no_part End e = refl
mark_is_no_part (Cut reason) e = refl

-- ---- an open push has no mark

abbrev NoMark : {A : Type 0} → ℕ → List (Taken A) → Type 0
NoMark {A} p h = is_closed p (newest_first h) ≡ false → (k : ℕ) (x : Item A)
    → slice_get (items_of h) k ≡ Some x → x.push ≡ p → is_part x.what ≡ true

more_no_mark : {A : Type 0} (p : ℕ) (h : List (Taken A)) (e : Taken A) → NoMark p h → NoMark p (h ++ e ∷ [])
more_no_mark {A} p h e ih open' k x at mine =
    let now : is_closed p (e ∷ newest_first h) ≡ false = sym
    (ap (λ (l : History A). is_closed p l) (one_more h e)) ∙ open' in
    let both = or_false (is_closed p (newest_first h)) (is_of p (e) && closes (e)) now in
    let at' : slice_get (items_of h ++ e.item ∷ []) k ≡ Some x = ap (λ (l : List (Item A)). slice_get l k)
    (sym (items_append h (e ∷ []))) ∙ at in
    ⊎_elim
    (λ (there : slice_get (items_of h) k ≡ Some x). ih both.0 k x there mine)
    (λ (same : e.item ≡ x).
    let of_it : is_of p (e) ≡ true = eq-eqb e.item.push p (ap (λ (y : Item A). y.push) same ∙ mine) in
    let unclosing = and_false (is_of p (e)) (closes (e)) both.1 of_it in
    ap (λ (y : Item A). is_part y.what) (sym same)
    ∙ part_or_mark e.item.what (or_false e.refused (is_mark e.item.what) unclosing).1)
    (get_snoc (items_of h) e.item k x at')

pub open_no_mark : {A : Type 0} (p : ℕ) (h : List (Taken A)) (k : ℕ) (x : Item A)
    → is_closed p (newest_first h) ≡ false → slice_get (items_of h) k ≡ Some x → x.push ≡ p
    → is_part x.what ≡ true
open_no_mark {A} p h k x open' at mine =
    from_end (λ (l : List (Taken A)). NoMark p l) (λ e j y there of_it. absurd cc)
    (λ l e ih. more_no_mark p l e ih) h open' k x at mine

-- ---- a push that was closed by no refusal has one

abbrev pub HasMark : {A : Type 0} → ℕ → List (Item A) → Type 0
HasMark {A} p xs = (k : ℕ) × (x : Item A) × (slice_get xs k ≡ Some x) × (x.push ≡ p)
    × (is_part x.what ≡ false)

picks_last : {X : Type 0} (o c : Bool) (a b : X) → c ≡ true → (if o && not c then a else b) ≡ b
picks_last true c a b e = ap (λ d. if not d then a else b) e
picks_last false c a b e = refl

picks_first : {X : Type 0} (o c : Bool) (a b : X) → o ≡ true → c ≡ false → (if o && not c then a else b) ≡ a
picks_first true c a b is e = ap (λ d. if not d then a else b) e
picks_first false c a b is e = absurd (true≢false (sym is))

abbrev OutcomeOf : Type 0 → Type 0
OutcomeOf A = Option (Outcome (Done A) (Refusal A))

abbrev without_memory : {A : Type 0} → OutcomeOf A
without_memory = Some (Aborted NoMemory)

abbrev Marked : {A : Type 0} → RepositoryOf A → ℕ → List (Taken A) → Type 0
Marked {A} first p h = is_closed p (newest_first h) ≡ true → (ending first p h ≡ without_memory {A = A} → ⊥)
    → HasMark p (items_of h)

refused_ends : {A : Type 0} (first : RepositoryOf A) (p : ℕ) (x : Taken A) (before : History A)
    → x.refused ≡ true → is_of p x ≡ true → is_closed p before ≡ false
    → outcome run_push first p (x ∷ before) ≡ without_memory {A = A}
refused_ends {A} first p x before refused of_it open' =
    picks_first {X = OutcomeOf A} (is_of p x) (is_closed p before)
    (told (decided run_push (serial run_push first before).repo (parts p before) x))
    (outcome run_push first p before) of_it open'
    ∙ ap (λ (b : Bool). told
    (if b then Some (Err NoMemory) else decided_by run_push (serial run_push first before).repo
    (parts p before) x.item.index x.item.what)) refused

more_marked : {A : Type 0} (first : RepositoryOf A) (p : ℕ) (h : List (Taken A)) (e : Taken A)
    → Marked first p h → Marked first p (h ++ e ∷ [])
more_marked {A} first p h e ih closed isnt = decide (is_closed p (newest_first h)) refl
  where
    x : Taken A
    x = e

    now : is_closed p (e ∷ newest_first h) ≡ true
    now = sym (ap (λ (l : History A). is_closed p l) (one_more h e)) ∙ closed

    isnt' : outcome run_push first p (e ∷ newest_first h) ≡ without_memory {A = A} → ⊥
    isnt' is = isnt (ap (λ (l : History A). outcome run_push first p l) (one_more h e) ∙ is)

    spelled : items_of h ++ e.item ∷ [] ≡ items_of (h ++ e ∷ [])
    spelled = sym (items_append h (e ∷ []))

    longer : HasMark p (items_of h) → HasMark p (items_of (h ++ e ∷ []))
    longer m = subst (λ (l : List (Item A)). HasMark p l) spelled
        (m.0, m.1, get_front (items_of h) (e.item ∷ []) m.0 m.1 m.2, m.3, m.4)

    here : is_closed p (newest_first h) ≡ false → (r : Bool) → e.refused ≡ r
        → HasMark p (items_of (h ++ e ∷ []))
    here open' true refused =
        let both = and_true (is_of p (e)) (closes (e))
        (or_true (is_closed p (newest_first h)) (is_of p (e) && closes (e)) now open') in
        absurd (isnt' (refused_ends first p (e) (newest_first h) refused both.0 open'))
    here open' false refused =
        let both = and_true (is_of p (e)) (closes (e))
        (or_true (is_closed p (newest_first h)) (is_of p (e) && closes (e)) now open') in
        let mark : is_mark e.item.what ≡ true = or_true e.refused (is_mark e.item.what) both.1 refused in
        let mine : e.item.push ≡ p = grind (arith, nat_tests, both.0) in
        subst (λ (l : List (Item A)). HasMark p l) spelled
        (length (items_of h), e.item, get_end (items_of h) e.item, mine, mark_is_no_part e.item.what mark)

    decide : (c : Bool) → is_closed p (newest_first h) ≡ c → HasMark p (items_of (h ++ e ∷ []))
    decide true is = longer (ih is
        (λ o. isnt' (picks_last {X = OutcomeOf A} (is_of p (e)) (is_closed p (newest_first h))
        (told (decided run_push (serial run_push first (newest_first h)).repo (parts p (newest_first h))
        (e))) (outcome run_push first p (newest_first h)) is ∙ o)))
    decide false is = here is e.refused refl

pub closed_mark : {A : Type 0} (first : RepositoryOf A) (p : ℕ) (h : List (Taken A))
    → is_closed p (newest_first h) ≡ true → (ending first p h ≡ Some (Aborted NoMemory) → ⊥)
    → HasMark p (items_of h)
closed_mark {A} first p h closed isnt =
    from_end (λ (l : List (Taken A)). Marked first p l) (λ c n. absurd (true≢false (sym c)))
    (λ l e ih. more_marked first p l e ih) h closed isnt

-- ---- where the mark of a push was taken, all its items were

module _ {A : Type 0} where
  front_ends : (f b : List (Item A)) → f ++ b ≡ [] → b ≡ []
  front_ends [] b e = e
  front_ends (y ∷ f) b e = absurd cc

  stops : (k : ℕ) (front back : List (Item A)) (j : ℕ) (x : Item A) → IsOrderly k (front ++ back)
      → slice_get front j ≡ Some x → is_part x.what ≡ false → back ≡ []
  stops k [] back j x so at mark = absurd cc
  stops k (a ∷ front) back zero x so at mark =
      let same : a ≡ x = cc (at) in
      let rest : front ++ back ≡ [] = subst
      (λ b. MatchBool b (IsOrderly (k + 1) (front ++ back)) (front ++ back ≡ []))
      (ap (λ (y : Item A). is_part y.what) same ∙ mark) so.1 in
      front_ends front back rest
  stops k (a ∷ front) back (suc j) x so at mark =
      decide (is_part a.what) refl (λ more. stops (k + 1) front back j x more at mark)
    where
      decide : (b : Bool) → is_part a.what ≡ b → (IsOrderly (k + 1) (front ++ back) → back ≡ []) → back ≡ []
      decide true is go = go (subst
          (λ b. MatchBool b (IsOrderly (k + 1) (front ++ back)) (front ++ back ≡ [])) is so.1)
      decide false is go = front_ends front back
          (subst (λ b. MatchBool b (IsOrderly (k + 1) (front ++ back)) (front ++ back ≡ [])) is so.1)

  of_get : (p : ℕ) (xs : List (Item A)) (j : ℕ) (x : Item A) → slice_get xs j ≡ Some x → x.push ≡ p → (i : ℕ)
      × (slice_get (of p xs) i ≡ Some x)
  of_get p [] j x at mine = absurd cc
  of_get p (y ∷ ys) zero x at mine =
      let same : y ≡ x = cc (at) in (
        0,
        ap (λ (b : Bool). slice_get (cond b (y ∷ of p ys) (of p ys)) 0)
            (eq-eqb y.push p (ap (λ (z : Item A). z.push) same ∙ mine)) ∙ at,
      )
  of_get p (y ∷ ys) (suc j) x at mine = let r = of_get p ys j x at mine in shift (y.push == p) r.0 r.1
    where
      shift : (b : Bool) (i : ℕ) → slice_get (of p ys) i ≡ Some x → (i : ℕ)
          × (slice_get (cond b (y ∷ of p ys) (of p ys)) i ≡ Some x)
      shift true i e = (suc i, e)
      shift false i e = (i, e)

  pub all_taken : (p : ℕ) (xs ys : List (Item A)) → IsOrderly 0 (of p (xs ++ ys)) → HasMark p xs
      → of p xs ≡ of p (xs ++ ys)
  all_taken p xs ys so m =
      let split : of p (xs ++ ys) ≡ of p xs ++ of p ys = filter-append (λ (y : Item A). y.push == p) xs ys in
      let at = of_get p xs m.0 m.1 m.2 m.3 in
      let none : of p ys ≡ [] = stops 0 (of p xs) (of p ys) at.0 m.1
      (subst (IsOrderly 0) split so) at.1 m.4 in
      sym (split ∙ (ap (λ l. of p xs ++ l) none ∙ append-nil (of p xs)))

  pub of_prefix : (p : ℕ) (xs ys : List (Item A)) → IsPrefix (of p xs) (of p (xs ++ ys))
  of_prefix p xs ys = (of p ys, sym (filter-append (λ (y : Item A). y.push == p) xs ys))
