-- What the standings of rows tell: their phases, and the roots among them.
use Rattle.std.proofs.Common.{◌≡◌, ℕ, zero, suc, ◌+◌, ◌<◌, ◌≤◌, Bool, cond, List, [], ◌∷◌}
use Rattle.std.proofs.Common.{◌++◌, length, map, refl, sym, ap, ◌∙◌}
use Rattle.std.proofs.Common.{arith, filter}
use Rattle.std.specs.List.{range_with_len}
use Rattle.std.proofs.lemmas.Bool.{cond_both}
use Rattle.hg_types.specs.declared.phase.Phase.{Phase}
use Rattle.hg_types.specs.declared.phase.Phase.TheVariants.{Public, Draft, Secret}
use Rattle.hg_phases.specs.declared.standing.Standing.{Standing}
use Rattle.hg_phases.specs.Roots.{begins}
use Rattle.hg_phases.specs.Standing.{standing_of, phase_told, is_told, told_from}
use Rattle.hg_phases.proofs.Ranges.{AreWithin, first_within}

-- the phase that went in comes out
pub phase_of_standing : (phase above : Phase) → phase_told (standing_of phase above) ≡ phase
phase_of_standing Public above = refl
phase_of_standing Draft Public = refl
phase_of_standing Draft Draft = refl
phase_of_standing Draft Secret = refl
phase_of_standing Secret Public = refl
phase_of_standing Secret Draft = refl
phase_of_standing Secret Secret = refl

-- a row is told as a root where it begins the phase
pub told_begins : (target phase above : Phase)
    → is_told target (standing_of phase above) ≡ begins target above phase
told_begins Public Public Public = refl
told_begins Public Public Draft = refl
told_begins Public Public Secret = refl
told_begins Public Draft Public = refl
told_begins Public Draft Draft = refl
told_begins Public Draft Secret = refl
told_begins Public Secret Public = refl
told_begins Public Secret Draft = refl
told_begins Public Secret Secret = refl
told_begins Draft Public Public = refl
told_begins Draft Public Draft = refl
told_begins Draft Public Secret = refl
told_begins Draft Draft Public = refl
told_begins Draft Draft Draft = refl
told_begins Draft Draft Secret = refl
told_begins Draft Secret Public = refl
told_begins Draft Secret Draft = refl
told_begins Draft Secret Secret = refl
told_begins Secret Public Public = refl
told_begins Secret Public Draft = refl
told_begins Secret Public Secret = refl
told_begins Secret Draft Public = refl
told_begins Secret Draft Draft = refl
told_begins Secret Draft Secret = refl
told_begins Secret Secret Public = refl
told_begins Secret Secret Draft = refl
told_begins Secret Secret Secret = refl

pub told_none : (t : Phase) (n : ℕ) → told_from t n [] ≡ []
unfolding told_from
told_none t n = refl

pub told_append : (t : Phase) (n : ℕ) (xs ys : List Standing) → told_from t n (xs ++ ys) ≡ told_from t n xs
    ++ told_from t (n + length xs) ys
unfolding told_from
told_append t n [] ys = let here : n + 0 ≡ n = omega arith in ap (λ (k : ℕ). told_from t k ys) (sym here)
told_append t n (x ∷ xs) ys =
    let next : (n + 1) + length xs ≡ n + suc (length xs) = omega arith in
    let rest : told_from t (n + 1) (xs ++ ys) ≡ told_from t (n + 1) xs
    ++ told_from t (n + suc (length xs)) ys = told_append t (n + 1) xs ys
    ∙ ap (λ (k : ℕ). told_from t (n + 1) xs ++ told_from t k ys) next in
    both (is_told t x) n (told_from t (n + 1) (xs ++ ys)) (told_from t (n + 1) xs)
    (told_from t (n + suc (length xs)) ys) rest
  where
    both : (b : Bool) (k : ℕ) (zs us vs : List ℕ) → zs ≡ us ++ vs → cond b (k ∷ zs) zs ≡ cond b (k ∷ us) us
        ++ vs
    both b k zs us vs is = cond_both b (k ∷ zs) zs (λ ws. ws ≡ cond b (k ∷ us) us ++ vs)
        (λ e. ap (λ (ws : List ℕ). k ∷ ws) is ∙ ap (λ c. cond c (k ∷ us) us ++ vs) (sym e)) (λ e. is
        ∙ ap (λ c. cond c (k ∷ us) us ++ vs) (sym e))

-- one row more
pub told_push : (t : Phase) (n : ℕ) (xs : List Standing) (x : Standing)
    → told_from t n (xs ++ x ∷ []) ≡ told_from t n xs ++ cond (is_told t x) ((n + length xs) ∷ []) []
unfolding told_from
told_push t n xs x = told_append t n xs (x ∷ [])

-- each root is a row
pub told_within : (t : Phase) (n : ℕ) (xs : List Standing) → AreWithin n (n + length xs) (told_from t n xs)
unfolding told_from
told_within t n [] = λ k at. absurd (omega (arith, at))
told_within t n (x ∷ xs) =
    let rest : AreWithin (n + 1) ((n + 1) + length xs) (told_from t (n + 1) xs) = told_within t (n + 1) xs in
    let wider : AreWithin n (n + suc (length xs)) (told_from t (n + 1) xs) = λ k at. let w = rest k at in
    (omega (arith, w.0), omega (arith, w.1)) in
    cond_both (is_told t x) (n ∷ told_from t (n + 1) xs) (told_from t (n + 1) xs)
    (AreWithin n (n + suc (length xs)))
    (λ is. first_within n (n + suc (length xs)) (told_from t (n + 1) xs) (omega arith) wider)
    (λ is. wider)

-- standings that a function gives to rows in turn, and what they tell
pub told_range : (t : Phase) (f : ℕ → Standing) (p : ℕ → Bool) (low n : ℕ)
    → ((r : ℕ) → low ≤ r → r < low + n → is_told t (f r) ≡ p r)
    → told_from t low (map f (range_with_len low n)) ≡ filter p (range_with_len low n)
unfolding told_from
told_range t f p low zero same = refl
told_range t f p low (suc n) same =
    let first : is_told t (f low) ≡ p low = same low (omega arith) (omega arith) in
    let rest : told_from t (low + 1) (map f (range_with_len (low + 1) n)) ≡ filter p
    (range_with_len (low + 1) n) = told_range t f p (low + 1) n
    (λ r from below. same r (omega arith) (omega arith)) in
    ap (λ b. cond b (low ∷ told_from t (low + 1) (map f (range_with_len (low + 1) n)))
    (told_from t (low + 1) (map f (range_with_len (low + 1) n)))) first
    ∙ ap (λ (ks : List ℕ). cond (p low) (low ∷ ks) ks) rest
