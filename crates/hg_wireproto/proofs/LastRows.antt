-- The last rows of a list of rows.
use Rattle.std.proofs.Common.{◌≡◌, ◌≢◌, ℕ, List, [], ◌∷◌}
use Rattle.std.proofs.Common.{refl, sym, ap, ◌∙◌, inl, inr, arith}
use Rattle.std.proofs.Common.{Bool, true, false, eqb-true, eq-eqb}
use Rattle.std.specs.Prelude.{Contains, not, ◌&&◌, ◌||◌, ◌==◌}
use Rattle.std.specs.List.{list_any}
use Rattle.std.proofs.lemmas.List.Elements.{Contains-append_cases, Contains-append_left, Contains-append_right}
use Rattle.std.proofs.lemmas.List.Elements.{Contains-push, Contains-push_cases}

pub any_found : {X : Type 0} (test : X → Bool) (xs : List X) → list_any test xs ≡ true
    → (x : X) × Contains xs x × (test x ≡ true)
any_found test [] e = cc
any_found {X} test (x ∷ xs) e = by (test x) refl e (any_found test xs)
  where
    by : (b : Bool) → test x ≡ b → (b || list_any test xs) ≡ true
        → (list_any test xs ≡ true → (y : X) × Contains xs y × (test y ≡ true))
        → (y : X) × Contains (x ∷ xs) y × (test y ≡ true)
    by true is e later = (x, Contains-append_left (x ∷ []) xs x (Contains-push [] x), is)
    by false is e later = let f = later e in (f.0, Contains-append_right (x ∷ []) xs f.0 f.1, f.2)

pub any_holds : {X : Type 0} (test : X → Bool) (xs : List X) (x : X) → Contains xs x → test x ≡ true
    → list_any test xs ≡ true
any_holds test [] x has is = absurd (omega (arith, has.1))
any_holds test (y ∷ ys) x has is = elim (Contains-append_cases (y ∷ []) ys x has) [
  | inl one ↦ elim (Contains-push_cases [] y x one) [
    | inl none ↦ absurd (omega (arith, none.1))
    | inr e ↦ ap (λ z. test z || list_any test ys) e ∙ ap (λ b. b || list_any test ys) is
  ]
  | inr more ↦ or_true (test y) (list_any test ys) (any_holds test ys x more is)
]
  where
    or_true : (a b : Bool) → b ≡ true → (a || b) ≡ true
    or_true true b e = refl
    or_true false b e = e

pub not_eq : (d r : ℕ) → not (d == r) ≡ true → d ≢ r
not_eq d r is e = let same = eq-eqb d r e in let f = sym is ∙ ap not same in cc

pub eq_not : (d r : ℕ) → d ≢ r → not (d == r) ≡ true
eq_not d r ne = by (d == r) refl
  where
    by : (b : Bool) → (d == r) ≡ b → not b ≡ true
    by true e = absurd (ne (eqb-true d r e))
    by false e = refl

pub both_true : (a b : Bool) → (a && b) ≡ true → (a ≡ true) × (b ≡ true)
both_true true true e = (refl, refl)
both_true true false e = cc
both_true false b e = cc

pub true_both : (a b : Bool) → a ≡ true → b ≡ true → (a && b) ≡ true
true_both true true e f = refl
true_both true false e f = cc
true_both false b e f = cc
