-- The roots that are told and the standings of rows: each says the other.
use Rattle.std.proofs.Common.{◌≡◌, ℕ, zero, suc, ◌+◌, ◌<◌, Bool, true, false, cond, List, [], ◌∷◌, length}
use Rattle.std.proofs.Common.{drop, map, get_or, filter, Option, refl, sym, ap, ◌∙◌, arith}
use Rattle.std.specs.List.{range_with_len}
use Rattle.std.proofs.lemmas.List.{get_or-map, length-map, ext_get_or}
use Rattle.std.proofs.lemmas.List.FromFn.{length-map-range_with_len, get_or-map-range_with_len}
use Rattle.hg_types.specs.declared.phase.Phase.{Phase}
use Rattle.hg_types.specs.declared.phase.Phase.TheVariants.{Public, Draft, Secret}
use Rattle.hg_phases.specs.declared.standing.Standing.{Standing}
use Rattle.hg_phases.specs.declared.standing.Standing.TheVariants.{PublicOnPublic, DraftOnPublic}
use Rattle.hg_phases.specs.declared.standing.Standing.TheVariants.{DraftOnDraft, SecretOnPublic}
use Rattle.hg_phases.specs.declared.standing.Standing.TheVariants.{SecretOnDraft, SecretOnSecret}
use Rattle.hg_phases.specs.Order.{phase_at, phase_above}
use Rattle.hg_phases.specs.Roots.{begins, is_root, roots, roots_from}
use Rattle.hg_phases.specs.Standing.{standing_of, standing_at, phase_told, phases_told, is_told, told}
use Rattle.hg_phases.specs.Standing.{told_from}
use Rattle.hg_phases.specs.code.Walk.{standing_in, AreStanding}
use Rattle.hg_phases.proofs.Ranges.{AreWithin, kept_within}
use Rattle.hg_phases.proofs.Told.{told_begins, told_range, told_within}

pub phase_at_told : (rows : List Standing) (r : ℕ) → r < length rows
    → phase_at (phases_told rows) r ≡ phase_told (standing_at rows r)
phase_at_told rows r within = get_or-map phase_told rows r PublicOnPublic Public within

-- two lists that may begin with a number below all others
begin_same : (a b : Bool) (n high : ℕ) (ts fs : List ℕ) → AreWithin (n + 1) high ts
    → AreWithin (n + 1) high fs → cond a (n ∷ ts) ts ≡ cond b (n ∷ fs) fs → (a ≡ b) × (ts ≡ fs)
begin_same true true n high ts fs t f e = (refl, ap (λ (ks : List ℕ). drop 1 ks) e)
begin_same false false n high ts fs t f e = (refl, e)
begin_same true false n high ts fs t f e =
    let first = f 0 (omega (arith, ap (λ (ks : List ℕ). length ks) e)) in
    absurd (omega (arith, first.0, ap (λ (ks : List ℕ). get_or ks 0 0) e))
begin_same false true n high ts fs t f e =
    let first = t 0 (omega (arith, ap (λ (ks : List ℕ). length ks) e)) in
    absurd (omega (arith, first.0, ap (λ (ks : List ℕ). get_or ks 0 0) e))

-- where the roots that are told are those of a test, each row is told as the test says
told_each : (t : Phase) (q : ℕ → Bool) (n : ℕ) (rows : List Standing)
    → told_from t n rows ≡ filter q (range_with_len n (length rows))
    → (r : ℕ) → r < length rows → is_told t (standing_at rows r) ≡ q (n + r)
unfolding told_from
told_each t q n [] same r within = absurd (omega (arith, within))
told_each t q n (row ∷ rows) same zero within =
    let both = begin_same (is_told t row) (q n) n ((n + 1) + length rows) (told_from t (n + 1) rows)
    (filter q (range_with_len (n + 1) (length rows))) (told_within t (n + 1) rows)
    (kept_within q (n + 1) (length rows)) same in
    let here : n + 0 ≡ n = omega arith in
    both.0 ∙ ap q (sym here)
told_each t q n (row ∷ rows) same (suc k) within =
    let both = begin_same (is_told t row) (q n) n ((n + 1) + length rows) (told_from t (n + 1) rows)
    (filter q (range_with_len (n + 1) (length rows))) (told_within t (n + 1) rows)
    (kept_within q (n + 1) (length rows)) same in
    let next : (n + 1) + k ≡ n + suc k = omega arith in
    told_each t q (n + 1) rows both.1 k (omega (arith, within)) ∙ ap q next

-- the phase of a row, and of which phases it is a root, make its standing
standing_from : (row : Standing) (above : Phase) → is_told Draft row ≡ begins Draft above (phase_told row)
    → is_told Secret row ≡ begins Secret above (phase_told row) → row ≡ standing_of (phase_told row) above
standing_from PublicOnPublic above draft secret = refl
standing_from DraftOnPublic Public draft secret = refl
standing_from DraftOnPublic Draft draft secret = absurd (let e : true ≡ false = draft in cc)
standing_from DraftOnPublic Secret draft secret = absurd (let e : true ≡ false = draft in cc)
standing_from DraftOnDraft Public draft secret = absurd (let e : false ≡ true = draft in cc)
standing_from DraftOnDraft Draft draft secret = refl
standing_from DraftOnDraft Secret draft secret = refl
standing_from SecretOnPublic Public draft secret = refl
standing_from SecretOnPublic Draft draft secret = absurd (let e : true ≡ false = draft in cc)
standing_from SecretOnPublic Secret draft secret = absurd (let e : true ≡ false = draft in cc)
standing_from SecretOnDraft Public draft secret = absurd (let e : false ≡ true = draft in cc)
standing_from SecretOnDraft Draft draft secret = refl
standing_from SecretOnDraft Secret draft secret = absurd (let e : true ≡ false = secret in cc)
standing_from SecretOnSecret Public draft secret = absurd (let e : false ≡ true = draft in cc)
standing_from SecretOnSecret Draft draft secret = absurd (let e : false ≡ true = secret in cc)
standing_from SecretOnSecret Secret draft secret = refl

module _ (parents : ℕ → Option ℕ × Option ℕ) (rows : List Standing) where
  size : length (phases_told rows) ≡ length rows
  size = length-map rows phase_told

  root_each : (t : Phase) → told t rows ≡ roots parents (phases_told rows) t → (r : ℕ) → r < length rows
      → is_told t (standing_at rows r) ≡ begins t (phase_above parents (phases_told rows) r)
      (phase_told (standing_at rows r))
  unfolding roots_from
  root_each t same r within =
      let here : 0 + r ≡ r = omega arith in
      told_each t (is_root parents (phases_told rows) t) 0 rows
      (same ∙ ap (λ (n : ℕ). filter (is_root parents (phases_told rows) t) (range_with_len 0 n)) size)
      r within
      ∙ ap (is_root parents (phases_told rows) t) here
      ∙ ap (begins t (phase_above parents (phases_told rows) r)) (phase_at_told rows r within)

  -- rows that tell their roots stand as their phases make it
  pub standing_told : told Draft rows ≡ roots parents (phases_told rows) Draft
      → told Secret rows ≡ roots parents (phases_told rows) Secret → AreStanding parents rows
  standing_told draft secret r within =
      standing_from (standing_at rows r) (phase_above parents (phases_told rows) r)
      (root_each Draft draft r within) (root_each Secret secret r within)
      ∙ ap (λ (x : Phase). standing_of x (phase_above parents (phases_told rows) r))
      (sym (phase_at_told rows r within))

  -- and the other way round
  pub told_standing : AreStanding parents rows → (t : Phase)
      → told t rows ≡ roots parents (phases_told rows) t
  unfolding roots_from
  told_standing standing t =
      ap (told t) all
      ∙ told_range t (standing_in parents (phases_told rows)) (is_root parents (phases_told rows) t) 0
      (length rows) (λ r from below. told_begins t (phase_at (phases_told rows) r)
      (phase_above parents (phases_told rows) r))
      ∙ ap (λ (n : ℕ). filter (is_root parents (phases_told rows) t) (range_with_len 0 n)) (sym size)
    where
      all : rows ≡ map (standing_in parents (phases_told rows)) (range_with_len 0 (length rows))
      all = ext_get_or PublicOnPublic rows
          (map (standing_in parents (phases_told rows)) (range_with_len 0 (length rows)))
          (sym (length-map-range_with_len (standing_in parents (phases_told rows)) 0 (length rows)))
          (λ r within. standing r within
          ∙ sym (get_or-map-range_with_len (standing_in parents (phases_told rows)) 0 (length rows) r r
          PublicOnPublic within (omega arith)))
