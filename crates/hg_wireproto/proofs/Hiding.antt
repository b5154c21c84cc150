-- Which changesets are hidden, by the sets of those that are kept.
use Rattle.std.proofs.Common.{◌≡◌, ◌↔◌, ℕ, zero, suc, ◌+◌, ◌<◌, Bool, true, false, List, [], ◌∷◌}
use Rattle.std.proofs.Common.{◌++◌}
use Rattle.std.proofs.Common.{length, get_or, refl, sym, ap, ◌∙◌, subst, arith, eqb-true, eq-eqb, inl, inr}
use Rattle.std.specs.Prelude.{nat_eq}
use Rattle.std.specs.Int.{bit_at}
use Rattle.std.specs.Int.RustNames.{bit_or, bit_and}
use Rattle.std.proofs.lemmas.Bool.{cases_eq}
use Rattle.std.proofs.lemmas.List.{get_or_default}
use Rattle.std.proofs.lemmas.Nat.Bits.{and_pow, bit_at_or, bit_at-lt}
use Rattle.hg_types.specs.declared.node.Node.{Node}
use Rattle.hg_types.specs.declared.phase.Phase.{Phase}
use Rattle.hg_log.specs.Ancestors.IsAncestor.{itself as same_row}
use Rattle.hg_log.specs.Changeset.{Changeset}
use Rattle.hg_log.specs.HeadCount.{id_at}
use Rattle.hg_log.specs.Rows.{HasNode}
use Rattle.hg_phases.specs.Order.{phase_at}
use Rattle.hg_obs.specs.declared.marker.Marker.{Marker}
use Rattle.hg_obs.specs.Markers.{IsPredecessor}
use Rattle.hg_wireproto.specs.Hidden.{IsHidden, IsObsolete, is_public}
use Rattle.hg_wireproto.specs.code.Behind.{AreBehind}
use Rattle.hg_wireproto.specs.code.Hiding.{TellsKept}
use Rattle.hg_wireproto.proofs.Gathering.{ancestor_within}
use Rattle.hg_wireproto.proofs.Lines.{has_id}

-- ---- a list that grows at its end

pub pushed_before : {X : Type 0} (xs : List X) (y d : X) (r : ℕ) → r < length xs
    → get_or (xs ++ y ∷ []) r d ≡ get_or xs r d
pushed_before [] y d r low = absurd (omega (arith, low))
pushed_before (x ∷ xs) y d zero low = refl
pushed_before (x ∷ xs) y d (suc r) low = pushed_before xs y d r (omega (arith, low))

pub pushed_here : {X : Type 0} (xs : List X) (y d : X) → get_or (xs ++ y ∷ []) (length xs) d ≡ y
pushed_here [] y d = refl
pushed_here (x ∷ xs) y d = pushed_here xs y d

-- what holds of each place holds with one place more
pub each_more : {X : Type 0} (P : ℕ → X → Type 0) (xs next : List X) (y d : X) (n : ℕ) → length xs ≡ n
    → next ≡ xs ++ y ∷ [] → ((r : ℕ) → r < n → P r (get_or xs r d)) → P n y
    → (r : ℕ) → r < n + 1 → P r (get_or next r d)
each_more {X} P xs next y d n long same each here r low = elim (cases_eq r n) [
  | inl e ↦ subst (λ k. P k (get_or next k d)) (sym e)
      (subst (P n) (sym (ap (λ (zs : List X). get_or zs n d) same
      ∙ ap (λ k. get_or (xs ++ y ∷ []) k d) (sym long) ∙ pushed_here xs y d)) here)
  | inr ne ↦
      let before : r < n = omega (arith, low, ne) in
      subst (P r) (sym (ap (λ (zs : List X). get_or zs r d) same
      ∙ pushed_before xs y d r (omega (arith, before, long)))) (each r before)
]

-- ---- one changeset

zero_one : bit_at 1 0 ≡ 0 → ⊥
zero_one e = omega (arith, e)

pub obsolete_tells : {A : Type 0} (rows : List Changeset) (markers : List (Marker A)) (phases : List Phase)
    (r : ℕ) (node : Node)
    → HasNode rows r node.0 → IsPredecessor markers node → is_public (phase_at phases r) ≡ false
    → TellsKept rows markers phases r 0
obsolete_tells rows markers phases r node has is not_public =
    let id = λ (id : List ℕ). let made : Node = record { 0 = id } in made in
    let same : node ≡ id (id_at rows r) = ap id (sym (has_id rows r node.0 has)) in
    record {
      obsolete = λ z. record { marked = subst (IsPredecessor markers) same is; not_public = not_public };
      kept = λ e. absurd (omega (arith, e));
    }

pub kept_tells : {A : Type 0} (rows : List Changeset) (markers : List (Marker A)) (phases : List Phase)
    (r : ℕ) (node : Node)
    → HasNode rows r node.0 → (IsPredecessor markers node → is_public (phase_at phases r) ≡ false → ⊥)
    → TellsKept rows markers phases r 1
kept_tells rows markers phases r node has none =
    let id = λ (id : List ℕ). let made : Node = record { 0 = id } in made in
    let same : id (id_at rows r) ≡ node = ap id (has_id rows r node.0 has) in
    record {
      obsolete = λ z. absurd (omega (arith, z));
      kept = λ e is. none (subst (IsPredecessor markers) same is.marked) is.not_public;
    }

-- the lowest bit is read
pub one_kept : (set : ℕ) → nat_eq (bit_and set 1) 1 ≡ true → bit_at set 0 ≡ 1
one_kept set is = omega (arith, and_pow set 0, eqb-true (bit_and set 1) 1 is)

pub neither : (kept behind : ℕ) (b : Bool) → b ≡ nat_eq (bit_and (bit_or kept behind) 1) 0
    → (b ≡ true) ↔ ((bit_at kept 0 ≡ 0) × (bit_at behind 0 ≡ 0))
neither kept behind b same =
    let low = and_pow (bit_or kept behind) 0 in
    let whole = bit_at_or kept behind 0 in (
      λ is. let none = eqb-true _ _ (sym same ∙ is) in (
        omega (arith, low, whole, none, bit_at-lt kept 0, bit_at-lt behind 0),
        omega (arith, low, whole, none, bit_at-lt kept 0, bit_at-lt behind 0),
      ),
      λ both. same ∙ eq-eqb _ _ (omega (arith, low, whole, both.0, both.1)),
    )

module _ {A : Type 0} (rows : List Changeset) (markers : List (Marker A)) (phases : List Phase) (kept behind : List ℕ)
    (told : (r : ℕ) → r < length rows → TellsKept rows markers phases r (get_or kept r 0))
    (are : AreBehind rows kept behind) where
  pub hidden_by : (r : ℕ) → r < length rows
      → ((bit_at (get_or kept r 0) 0 ≡ 0) × (bit_at (get_or behind r 0) 0 ≡ 0)) ↔ IsHidden rows markers phases r
  hidden_by r within = (
    λ none d is. elim (cases_eq d r) [
      | inl e ↦ subst (IsObsolete rows markers phases) (sym e) ((told r within).obsolete none.0)
      | inr ne ↦ elim (cases_eq (bit_at (get_or kept d 0) 0) 1) [
        | inl one ↦ absurd (let f = (are.each r 0 within).1 (record {
          other = d;
          descends = is;
          proper = ne;
          is_in = one;
        }) in omega (arith, f, none.1))
        | inr not_one ↦ (told d (ancestor_within rows r d is)).obsolete
            (omega (arith, not_one, bit_at-lt (get_or kept d 0) 0))
      ]
    ],
    λ hidden. (
      elim (cases_eq (bit_at (get_or kept r 0) 0) 1) [
        | inl one ↦ absurd ((told r within).kept one (hidden r (same_row within)))
        | inr not_one ↦ omega (arith, not_one, bit_at-lt (get_or kept r 0) 0)
      ],
      elim (cases_eq (bit_at (get_or behind r 0) 0) 1) [
        | inl one ↦ absurd (let f = (are.each r 0 within).0 one in
            (told f.other (ancestor_within rows r f.other f.descends)).kept f.is_in (hidden f.other f.descends))
        | inr not_one ↦ omega (arith, not_one, bit_at-lt (get_or behind r 0) 0)
      ],
    ),
  )

-- one is true exactly where the other is
pub both_ways : {P Q R : Type 0} → P ↔ Q → Q ↔ R → P ↔ R
both_ways first second = (λ p. second.0 (first.0 p), λ r. first.1 (second.1 r))

-- whether a changeset is hidden, by the numbers that were read of it
pub hidden_here : {A : Type 0} (rows : List Changeset) (markers : List (Marker A)) (phases : List Phase)
    (kept own behind : List ℕ)
    → ((r : ℕ) → r < length rows → TellsKept rows markers phases r (get_or own r 0)) → length own ≡ length rows
    → kept ≡ own → AreBehind rows kept behind → (r k b : ℕ) (hidden : Bool) → r < length rows
    → k ≡ get_or own r k → b ≡ get_or behind r b
    → (hidden ≡ true) ↔ ((bit_at k 0 ≡ 0) × (bit_at b 0 ≡ 0)) → (hidden ≡ true) ↔ IsHidden rows markers phases r
hidden_here rows markers phases kept own behind told long same are r k b hidden within k_read b_read here =
    let k_is = sym (k_read ∙ get_or_default own r k 0 (omega (arith, within, long))) in
    let b_is = sym (b_read ∙ get_or_default behind r b 0 (omega (arith, within, are.as_long))) in
    let hides = IsHidden rows markers phases r in
    both_ways here
    (subst (λ x. ((bit_at k 0 ≡ 0) × (bit_at x 0 ≡ 0)) ↔ hides) b_is
    (subst (λ x. ((bit_at x 0 ≡ 0) × (bit_at (get_or behind r 0) 0 ≡ 0)) ↔ hides) k_is
    (hidden_by rows markers phases own behind told (subst (λ s. AreBehind rows s behind) same are) r within)))
