-- Lists of items, of numbers and of views.
use Rattle.std.proofs.Common.{◌≡◌, ◌≢◌, ◌⊎◌, ℕ, zero, suc, ◌+◌, ◌<◌, ◌==◌, ◌||◌, Bool, true, false}
use Rattle.std.proofs.Common.{true≢false, List, [], ◌∷◌, ◌++◌, length, Some, None, Option, cond, refl, sym}
use Rattle.std.proofs.Common.{ap, ◌∙◌, subst, inl, inr, ⊎_elim, arith, append_assoc, eq-eqb, ne_eqb}
use Rattle.std.specs.Prelude.{slice_get, option_to_list, MatchBool}
use mathlib.Core.Option.{some, some-injective, some-ne-none}
use mathlib.Core.Logic.{dite}
use mathlib.Core.List.{IsPrefix}
use native.Mathlib.Decide.{ℕ_discrete}
use lib.ListN.{get_elem?}
use Rattle.std.proofs.lemmas.List.Elements.{filter-append}
use Rattle.hg_parts.specs.declared.item.Item.{Item}
use Rattle.hg_parts.specs.declared.item.Taken.{Taken}
use Rattle.hg_queue.specs.History.{is_part, of, items_of, has, AllParts, IsOrderly}
use Rattle.hg_queue.specs.declared.seat.Mark.{Mark}
use Rattle.hg_queue.specs.declared.seat.Mark.TheVariants.{End as an_end, Cut as a_cut}
use Rattle.hg_queue.specs.Seats.{settle}
use Rattle.hg_queue.specs.Words.{what_of}

pub same_or : {P : Type 0} (m n : ℕ) → (m ≡ n → P) → (m ≢ n → P) → P
same_or m n is isnt = dite (ℕ_discrete m n) is isnt

pub has_here : (p : ℕ) (ps : List ℕ) → has p (p ∷ ps) ≡ true
has_here p ps = ap (λ (b : Bool). b || has p ps) (eq-eqb p p refl)

pub has_more : (p q : ℕ) (ps : List ℕ) → has p ps ≡ true → has p (q ∷ ps) ≡ true
has_more p q ps e = either_way (q == p)
  where
    either_way : (b : Bool) → (b || has p ps) ≡ true
    either_way true = refl
    either_way false = e

pub has_less : (p q : ℕ) (ps : List ℕ) → has p (q ∷ ps) ≡ false → (q ≢ p) × (has p ps ≡ false)
has_less p q ps e = (
  (λ s. true≢false (sym (subst (λ (n : ℕ). has n (q ∷ ps) ≡ true) s (has_here q ps)) ∙ e)),
  tail (q == p) e,
)
  where
    tail : (b : Bool) → (b || has p ps) ≡ false → has p ps ≡ false
    tail true e = absurd (true≢false e)
    tail false e = e

pub has_split : (p q : ℕ) (ps : List ℕ) → has p (q ∷ ps) ≡ true → (q ≡ p) ⊎ (has p ps ≡ true)
has_split p q ps e = same_or q p (λ s. inl s)
    (λ n. inr (sym (ap (λ (b : Bool). b || has p ps) (ne_eqb q p n)) ∙ e))

pub prefix_longer : {A : Type 0} (xs ys zs : List A) → IsPrefix xs ys → IsPrefix xs (ys ++ zs)
prefix_longer xs ys zs p = (p.0 ++ zs, sym (append_assoc xs p.0 zs) ∙ ap (λ l. l ++ zs) p.1)

-- the last view of a longer list is the new one
pub at_new : {A : Type 0} (l : List A) (a b : A) (j : ℕ) → get_elem? (l ++ a ∷ []) j ≡ some b
    → (get_elem? l j ≡ some b) ⊎ ((j ≡ length l) × (a ≡ b))
at_new [] a b zero e = inr (refl, some-injective a b e)
at_new [] a b (suc j) e = absurd (some-ne-none b (sym e))
at_new (x ∷ xs) a b zero e = inl e
at_new (x ∷ xs) a b (suc j) e = ⊎_elim (λ t. inl t) (λ t. inr (ap suc t.0, t.1)) (at_new xs a b j e)

-- a place that is there lies within the list
pub within : {A : Type 0} (l : List A) (j : ℕ) (a : A) → get_elem? l j ≡ some a → j < length l
within [] j a e = absurd (some-ne-none a (sym e))
within (x ∷ xs) zero a e = omega arith
within (x ∷ xs) (suc j) a e = let h = within xs j a e in omega arith

module _ {A : Type 0} where
  pub of_one : (p : ℕ) (x : Item A) → x.push ≡ p → of p (x ∷ []) ≡ x ∷ []
  of_one p x e = ap (λ (b : Bool). cond b (x ∷ []) []) (eq-eqb x.push p e)

  pub of_none : (p : ℕ) (x : Item A) → x.push ≢ p → of p (x ∷ []) ≡ []
  of_none p x e = ap (λ (b : Bool). cond b (x ∷ []) []) (ne_eqb x.push p e)

  pub of_mine : (p : ℕ) (xs : List (Item A)) (x : Item A) → x.push ≡ p → of p (xs ++ x ∷ []) ≡ of p xs ++ x
      ∷ []
  of_mine p xs x e = filter-append (λ (y : Item A). y.push == p) xs (x ∷ [])
      ∙ ap (λ l. of p xs ++ l) (of_one p x e)

  append_none : (xs : List (Item A)) → xs ++ [] ≡ xs
  append_none [] = refl
  append_none (x ∷ xs) = ap (λ l. x ∷ l) (append_none xs)

  pub of_other : (p : ℕ) (xs : List (Item A)) (x : Item A) → x.push ≢ p → of p (xs ++ x ∷ []) ≡ of p xs
  of_other p xs x e = filter-append (λ (y : Item A). y.push == p) xs (x ∷ [])
      ∙ ap (λ l. of p xs ++ l) (of_none p x e) ∙ append_none (of p xs)

  -- a list in which no push has an item is empty
  pub of_nobody : (xs : List (Item A)) → ((p : ℕ) → of p xs ≡ []) → xs ≡ []
  of_nobody [] none = refl
  of_nobody (x ∷ xs) none =
      absurd (not_empty (sym (ap (λ (b : Bool). cond b (x ∷ of x.push xs) (of x.push xs))
      (eq-eqb x.push x.push refl)) ∙ none x.push))
    where
      not_empty : x ∷ of x.push xs ≡ [] → ⊥
      not_empty e = cc

  pub parts_more : (xs : List (Item A)) (x : Item A) → AllParts xs → is_part x.what ≡ true
      → AllParts (xs ++ x ∷ [])
  parts_more [] x all e = (e, tt)
  parts_more (y ∷ ys) x all e = (all.0, parts_more ys x all.1 e)

  pub parts_end : (xs : List (Item A)) (x : Item A) → AllParts (xs ++ x ∷ []) → is_part x.what ≡ true
  parts_end [] x all = all.0
  parts_end (y ∷ ys) x all = parts_end ys x all.1

  abbrev nobody : List (Item A)
  nobody = []

  pub orderly_more : (k : ℕ) (xs : List (Item A)) (x : Item A) → IsOrderly k xs → AllParts xs
      → x.index ≡ k + length xs → IsOrderly k (xs ++ x ∷ [])
  orderly_more k [] x so all e = (omega arith, ends (is_part x.what))
    where
      ends : (b : Bool) → MatchBool b (IsOrderly {A = A} (k + 1) []) (nobody ≡ nobody)
      ends true = tt
      ends false = refl
  orderly_more k (y ∷ ys) x so all e =
      let rest : IsOrderly (k + 1) ys = subst (λ b. MatchBool b (IsOrderly (k + 1) ys) (ys ≡ [])) all.0
      so.1 in
      let more : IsOrderly (k + 1) (ys ++ x ∷ []) = orderly_more (k + 1) ys x rest all.1 (omega arith) in
      (so.0, subst (λ b. MatchBool b (IsOrderly (k + 1) (ys ++ x ∷ [])) (ys ++ x ∷ [] ≡ [])) (sym all.0) more)

  pub get_end : (xs : List (Item A)) (x : Item A) → slice_get (xs ++ x ∷ []) (length xs) ≡ Some x
  get_end [] x = refl
  get_end (y ∷ ys) x = get_end ys x

  pub get_front : (xs ys : List (Item A)) (k : ℕ) (x : Item A) → slice_get xs k ≡ Some x
      → slice_get (xs ++ ys) k ≡ Some x
  get_front [] ys k x e = absurd cc
  get_front (y ∷ xs) ys zero x e = e
  get_front (y ∷ xs) ys (suc k) x e = get_front xs ys k x e

  pub items_settle : (h : List (Taken A)) (last : Option (Item A)) (refused : Bool)
      → items_of (h ++ settle last refused) ≡ items_of h ++ option_to_list last
  items_settle [] None refused = refl
  items_settle [] (Some x) refused = refl
  items_settle (e ∷ h) last refused = ap (λ l. e.item ∷ l) (items_settle h last refused)

  pub of_inside : (xs ys : List (Item A)) (x : Item A) → of x.push (xs ++ x ∷ ys) ≡ [] → ⊥
  of_inside xs ys x e = not_empty (of x.push xs) (of x.push ys) x
      (sym (filter-append (λ (y : Item A). y.push == x.push) xs (x ∷ ys)
      ∙ ap (λ l. of x.push xs ++ l)
      (ap (λ (b : Bool). cond b (x ∷ of x.push ys) (of x.push ys)) (eq-eqb x.push x.push refl))) ∙ e)
    where
      not_empty : (front bs : List (Item A)) (y : Item A) → front ++ y ∷ bs ≡ [] → ⊥
      not_empty [] bs y e = cc
      not_empty (a ∷ front) bs y e = cc

-- what a mark puts is no part
pub mark_not_part : (A : Type 0) (m : Mark) → is_part (what_of {A = A} m) ≡ false
mark_not_part A an_end = refl
mark_not_part A (a_cut reason) = refl
