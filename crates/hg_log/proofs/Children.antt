-- The children of a row from the last one back: what decides them, and what they tell.
use Rattle.std.proofs.Common.{◌≡◌, ℕ, zero, suc, ◌<◌, Bool, true, false, cond, ◌||◌, Option}
use Rattle.std.proofs.Common.{Some, None, refl, sym, ap, ◌∙◌, subst, inl, inr, arith}
use Rattle.std.proofs.lemmas.Bool.{cases_eq, eq-eqb, eqb-true, cases_Bool, cond-true, cond-false}
use Rattle.std.proofs.lemmas.Bool.{or_cases}
use Rattle.hg_log.specs.HeadCount.{is_number}
use Rattle.hg_log.specs.Children.{child_before}
use Rattle.hg_log.specs.Parents.{IsParentIn}

pub is_number_is : (o : Option ℕ) (p : ℕ) → is_number o p ≡ true → o ≡ Some p
is_number_is None p is = absurd cc
is_number_is (Some q) p is = ap (λ (x : ℕ). Some x) (eqb-true q p is)

number_is : (o : Option ℕ) (p : ℕ) → o ≡ Some p → is_number o p ≡ true
number_is o p is = ap (λ (x : Option ℕ). is_number x p) is ∙ eq-eqb p p refl

or_first : (b c : Bool) → b ≡ true → (b || c) ≡ true
or_first true c is = refl
or_first false c is = absurd cc

or_second : (b c : Bool) → c ≡ true → (b || c) ≡ true
or_second true c is = refl
or_second false c is = is

pub or_neither : (b c : Bool) → b ≡ false → c ≡ false → (b || c) ≡ false
or_neither true c first second = absurd cc
or_neither false c first second = second

module _ (parents : ℕ → Option ℕ × Option ℕ) where
  pub before_next : (p n : ℕ) → child_before parents p (suc n) ≡ cond
      (is_number (parents n).0 p || is_number (parents n).1 p) (Some n) (child_before parents p n)
  unfolding child_before
  before_next p n = refl

  named_is : (p n : ℕ) → (is_number (parents n).0 p || is_number (parents n).1 p) ≡ true
      → IsParentIn parents p n
  named_is p n is = elim (or_cases (is_number (parents n).0 p) (is_number (parents n).1 p) is) [
    | inl e ↦ inl (is_number_is (parents n).0 p e)
    | inr e ↦ inr (is_number_is (parents n).1 p e)
  ]

  is_named : (p n : ℕ) → IsParentIn parents p n
      → (is_number (parents n).0 p || is_number (parents n).1 p) ≡ true
  is_named p n (inl e) = or_first _ _ (number_is (parents n).0 p e)
  is_named p n (inr e) = or_second _ _ (number_is (parents n).1 p e)

  -- a row with no child has none before any bound
  pub before_none : (p n : ℕ) → ((r : ℕ) → r < n → ¬ (IsParentIn parents p r))
      → child_before parents p n ≡ None
  unfolding child_before
  before_none p zero none = refl
  before_none p (suc n) none =
      elim (cases_Bool (is_number (parents n).0 p || is_number (parents n).1 p)) [
        | inl is_so ↦ absurd (none n (omega arith) (named_is p n is_so))
        | inr not_so ↦ cond-false _ (Some n) (child_before parents p n) not_so
            ∙ before_none p n (λ r low. none r (omega (arith, low)))
      ]

  -- the child that is told, and that none stands between
  pub before_some : (p n c : ℕ) → child_before parents p n ≡ Some c → (c < n) × IsParentIn parents p c
      × ((r : ℕ) → c < r → r < n → ¬ (IsParentIn parents p r))
  unfolding child_before
  before_some p zero c is = absurd cc
  before_some p (suc n) c is =
      elim (cases_Bool (is_number (parents n).0 p || is_number (parents n).1 p)) [
        | inl is_so ↦
            let told : Some n ≡ Some c = sym (cond-true _ (Some n) (child_before parents p n) is_so) ∙ is in
            let same : n ≡ c = cc in (
              omega (arith, same),
              subst (IsParentIn parents p) same (named_is p n is_so),
              λ r above low. absurd (omega (arith, same, above, low)),
            )
        | inr not_so ↦
            let rest = before_some p n c (sym (cond-false _ (Some n) (child_before parents p n) not_so) ∙ is) in
            let less : c < n = rest.0 in (
              omega (arith, less),
              rest.1,
              λ r above low. elim (cases_eq r n) [
                | inl e ↦ λ child. absurd (let is_so = is_named p n (subst (IsParentIn parents p) e child) in cc)
                | inr ne ↦ rest.2 r above (omega (arith, low, ne))
              ],
            )
      ]

  -- where none is told, there is none
  pub before_nobody : (p n : ℕ) → child_before parents p n ≡ None
      → (r : ℕ) → r < n → ¬ (IsParentIn parents p r)
  unfolding child_before
  before_nobody p zero is r low = absurd (omega (arith, low))
  before_nobody p (suc n) is r low =
      elim (cases_Bool (is_number (parents n).0 p || is_number (parents n).1 p)) [
        | inl is_so ↦ absurd (let told : Some n ≡ None = sym (cond-true _ (Some n) (child_before parents p n) is_so)
            ∙ is in cc)
        | inr not_so ↦ elim (cases_eq r n) [
          | inl e ↦ λ child. absurd (let is_so = is_named p n (subst (IsParentIn parents p) e child) in cc)
          | inr ne ↦ before_nobody p n (sym (cond-false _ (Some n) (child_before parents p n) not_so) ∙ is) r
              (omega (arith, low, ne))
        ]
      ]

-- only the parents of the rows before the bound decide
pub before_same : (parents others : ℕ → Option ℕ × Option ℕ) (p n : ℕ)
    → ((r : ℕ) → r < n → parents r ≡ others r) → child_before parents p n ≡ child_before others p n
unfolding child_before
before_same parents others p zero same = refl
before_same parents others p (suc n) same =
    ap (λ (x : Option ℕ × Option ℕ). cond (is_number x.0 p || is_number x.1 p) (Some n)
    (child_before parents p n)) (same n (omega arith))
    ∙ ap (λ (o : Option ℕ). cond (is_number (others n).0 p || is_number (others n).1 p) (Some n) o)
    (before_same parents others p n (λ r low. same r (omega (arith, low))))
