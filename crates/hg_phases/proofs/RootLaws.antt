-- The roots of a phase tell which rows are of at least that phase.
use Rattle.std.proofs.Common.{◌≡◌, ◌↔◌, ℕ, zero, suc, ◌+◌, ◌<◌, ◌≤◌, Bool, true, false, ◌&&◌, cond, leb, List}
use Rattle.std.proofs.Common.{◌∷◌, length, Option, None, Some, Contains, refl, sym, ap, ◌∙◌, subst, inl, inr}
use Rattle.std.proofs.Common.{◌⊎◌, arith, filter}
use Rattle.std.specs.List.{range_with_len}
use Rattle.std.proofs.lemmas.Bool.{cases_lt, cases_eq, cond_both, and_from, lt-ltb, le-leb, leb-true}
use Rattle.hg_types.specs.declared.phase.Phase.{Phase}
use Rattle.hg_types.specs.Phase.{number_of}
use Rattle.hg_log.specs.Parents.{IsParentIn, AreOrdered}
use Rattle.hg_log.specs.Parents.Leads.{itself, of_parent}
use Rattle.hg_phases.specs.Order.{greater, phase_at, phase_of, phase_above}
use Rattle.hg_phases.specs.Roots.{is_root, roots_from, roots, HasRoot}
use Rattle.hg_phases.specs.Phases.{AreLawful}
use Rattle.hg_phases.proofs.Rising.{rises}

-- ---- what a test keeps of a range

kept_in : (p : ℕ → Bool) (a n r : ℕ) → a ≤ r → r < a + n → p r ≡ true
    → Contains (filter p (range_with_len a n)) r
kept_in p a zero r low high is = absurd (omega arith)
kept_in p a (suc n) r low high is =
    let rest : List ℕ = filter p (range_with_len (a + 1) n) in
    elim (cases_eq r a) [
      | inl e ↦ subst (λ b. Contains (cond b (a ∷ rest) rest) r) (sym (ap p (sym e) ∙ is))
          (0, omega arith, sym e)
      | inr ne ↦
          let later = kept_in p (a + 1) n r (omega (arith, ne)) (omega arith) is in
          cond_both (p a) (a ∷ rest) rest (λ ks. Contains ks r)
          (λ h. (suc later.0, omega (arith, later.1), later.2)) (λ h. later)
    ]

in_rest : (x r : ℕ) (xs : List ℕ) → Contains (x ∷ xs) r → (x ≡ r) ⊎ Contains xs r
in_rest x r xs (zero, low, is) = inl is
in_rest x r xs (suc k, low, is) = inr (k, omega (arith, low), is)

-- and what it keeps is of the range, and passes
pub kept_passes : (p : ℕ → Bool) (a n r : ℕ) → Contains (filter p (range_with_len a n)) r → (r < a + n)
    × (p r ≡ true)
kept_passes p a zero r = λ c. absurd (omega (arith, c.1))
kept_passes p a (suc n) r =
    let rest : List ℕ = filter p (range_with_len (a + 1) n) in
    let later : Contains rest r → (r < a + suc n) × (p r ≡ true) = λ c. let f = kept_passes p (a + 1) n r c in
    (omega (arith, f.0), f.1) in
    cond_both (p a) (a ∷ rest) rest (λ ks. Contains ks r → (r < a + suc n) × (p r ≡ true))
    (λ h c. elim (in_rest a r rest c) [
      | inl e ↦ (omega (arith, e), ap p (sym e) ∙ h)
      | inr more ↦ later more
    ])
    (λ h c. later c)

and_second : (x y : Bool) → (x && y) ≡ true → y ≡ true
and_second true y is = is
and_second false y is = absurd cc

-- ---- roots and phases

greater_of_two : (a b : Phase) (n : ℕ) → n ≤ number_of (greater a b) → (n ≤ number_of a) ⊎ (n ≤ number_of b)
greater_of_two a b n = cond_both (leb (number_of a) (number_of b)) b a (λ x. n ≤ number_of x
    → (n ≤ number_of a) ⊎ (n ≤ number_of b)) (λ e low. inr low) (λ e low. inl low)

of_some : (phases : List Phase) (o : Option ℕ) (n : ℕ) → 0 < n → n ≤ number_of (phase_of phases o) → (p : ℕ)
    × (o ≡ Some p) × (n ≤ number_of (phase_at phases p))
of_some phases None n some low = absurd (omega (arith, some, low))
of_some phases (Some p) n some low = (p, refl, low)

module _ (parents : ℕ → Option ℕ × Option ℕ) (early : AreOrdered parents) where
  parent_high : (phases : List Phase) (r n : ℕ) → 0 < n → n ≤ number_of (phase_above parents phases r)
      → (p : ℕ) × IsParentIn parents p r × (n ≤ number_of (phase_at phases p))
  parent_high phases r n some low = elim (greater_of_two _ _ n low) [
    | inl first ↦ let f = of_some phases (parents r).0 n some first in (f.0, inl f.1, f.2)
    | inr second ↦ let f = of_some phases (parents r).1 n some second in (f.0, inr f.1, f.2)
  ]

  module _ (phases : List Phase) (target : Phase) (some : 0 < number_of target) where
    -- up to that many steps down
    root_below : (n r : ℕ) → r < n → r < length phases → number_of target ≤ number_of (phase_at phases r)
        → HasRoot parents (roots parents phases target) r
    unfolding roots_from
    root_below zero r less within high = absurd (omega (arith, less))
    root_below (suc n) r less within high =
        elim (cases_lt (number_of (phase_above parents phases r)) (number_of target)) [
          | inl lower ↦ record {
            root = r;
            is_one = kept_in (is_root parents phases target) 0 (length phases) r (omega arith)
                (omega (arith, within)) (and_from _ _ (lt-ltb _ _ lower) (le-leb _ _ high));
            leads = itself;
          }
          | inr above ↦
              let up = parent_high phases r (number_of target) some above in
              let before : up.0 < r = early up.0 r up.1 in
              let found = root_below n up.0 (omega (arith, before, less)) (omega (arith, before, within)) up.2 in
              record { root = found.root; is_one = found.is_one; leads = of_parent up.0 r up.1 found.leads }
        ]

    root_high : AreLawful parents phases → (r : ℕ) → r < length phases
        → HasRoot parents (roots parents phases target) r → number_of target ≤ number_of (phase_at phases r)
    unfolding roots_from
    root_high lawful r within has =
        let kept = kept_passes (is_root parents phases target) 0 (length phases) has.root has.is_one in
        let high : number_of target ≤ number_of (phase_at phases has.root) = leb-true _ _
        (and_second _ _ kept.1) in
        omega (arith, high, rises parents early phases lawful has.root r within has.leads)

    pub root_tells : AreLawful parents phases → (r : ℕ) → r < length phases
        → (number_of target ≤ number_of (phase_at phases r)) ↔ HasRoot parents (roots parents phases target) r
    root_tells lawful r within = (root_below (suc r) r (omega arith) within, root_high lawful r within)
