-- Two lists of ids that ascend and have each id as often are equal.
use Rattle.std.proofs.Common.{ℕ, ◌≡◌, ◌<◌, ◌≤◌, ◌+◌, suc, Bool, true, false, true≢false, cond, List, []}
use Rattle.std.proofs.Common.{◌∷◌, length, get_or, refl, sym, ap, ◌∙◌, arith, count_by, subst, IsSorted}
use Rattle.std.proofs.Common.{bytes_eq}
use Rattle.std.specs.List.{AllByRecursion}
use Rattle.std.specs.Ordering.{nat_cmp, is_lt, is_eq, ordering_reverse}
use Rattle.std.specs.Cmp.Lexicographic.{slice_cmp}
use Rattle.std.specs.declared.cmp.Ordering.{Ordering}
use Rattle.std.specs.declared.cmp.Ordering.TheVariants.{Less, Equal, Greater}
use Rattle.std.proofs.lemmas.Cmp.{nat_list_cmp_total, tied_itself}
use Rattle.std.proofs.lemmas.List.Elements.{recursion_from_All}
use Rattle.std.proofs.lemmas.List.Sums.{sum_by-cons}
use Rattle.std.proofs.lemmas.List.Sorted.{sorted_far, ranks_by}
use Rattle.std.proofs.lemmas.Map.Text.{is_eq-slice_cmp}
use Rattle.std.proofs.lemmas.Slice.Eq.{bytes_eq-Decides}
use Rattle.hg_log.specs.HeadCount.{AreSameIds}

abbrev is_less : List ℕ → List ℕ → Bool
is_less a b = is_lt (slice_cmp nat_cmp a b)

-- no id is less than one before it
abbrev Ascends : List (List ℕ) → Type 0
Ascends [] = Unit {0}
Ascends (id ∷ ids) = AllByRecursion (λ other. is_less other id ≡ false) ids × Ascends ids

ascends_far : (ids : List (List ℕ))
    → ((i j : ℕ) (d : List ℕ) → i ≤ j → j < length ids → is_less (get_or ids j d) (get_or ids i d) ≡ false)
    → Ascends ids
ascends_far [] far = tt
ascends_far (id ∷ ids) far = (
  recursion_from_All (λ other. is_less other id ≡ false) ids
      (λ k d within. far 0 (suc k) d (omega arith) (omega arith)),
  ascends_far ids (λ i j d below within. far (suc i) (suc j) d (omega arith) (omega arith)),
)

ascends_sorted : (ids : List (List ℕ)) → IsSorted (slice_cmp nat_cmp) ids → Ascends ids
ascends_sorted ids sorted =
    ascends_far ids (sorted_far is_less (ranks_by nat_list_cmp_total (λ (id : List ℕ). id)) ids sorted)

-- what neither is less than is equal
neither_less : (r s : Ordering) → r ≡ ordering_reverse s → is_lt r ≡ false → is_lt s ≡ false → r ≡ Equal
neither_less r Less turned r_not s_not = absurd (true≢false s_not)
neither_less r Equal turned r_not s_not = turned
neither_less r Greater turned r_not s_not = absurd (true≢false (sym (ap is_lt turned) ∙ r_not))

abbrev times : List ℕ → List (List ℕ) → ℕ
times id ids = count_by (λ other. bytes_eq other id) ids

abbrev one_if : List ℕ → List ℕ → ℕ
one_if id other = cond (bytes_eq other id) 1 0

times-cons : (id other : List ℕ) (ids : List (List ℕ))
    → times id (other ∷ ids) ≡ one_if id other + times id ids
times-cons id other ids = sum_by-cons (λ x. cond (bytes_eq x id) 1 0) other ids

-- an id that is counted has what holds of each
counted : (P : List ℕ → Type 0) (ids : List (List ℕ)) (id : List ℕ) → 0 < times id ids → AllByRecursion P ids
    → P id
counted P [] id some each = absurd (omega (arith, some))
counted P (other ∷ ids) id some each =
    elim (bytes_eq other id) as (λ b. bytes_eq other id ≡ b → 0 < cond b 1 0 + times id ids → P id) [
      | true ↦ λ here more. subst P ((bytes_eq-Decides other id).0 here) each.0
      | false ↦ λ here more. counted P ids id (omega (arith, more)) each.1
    ] refl (subst (λ (n : ℕ). 0 < n) (times-cons id other ids) some)

times_itself : (id : List ℕ) (ids : List (List ℕ)) → 0 < times id (id ∷ ids)
times_itself id ids =
    let one : one_if id id ≡ 1 = ap (λ b. cond b 1 0) ((bytes_eq-Decides id id).1 refl) in
    omega (arith, one, times-cons id id ids)

both_ascend : (ids others : List (List ℕ)) → Ascends ids → Ascends others → AreSameIds ids others
    → ids ≡ others
both_ascend [] [] up up' same = refl
both_ascend [] (other ∷ others) up up' same = absurd (omega (arith, times_itself other others, same other))
both_ascend (id ∷ ids) [] up up' same = absurd (omega (arith, times_itself id ids, same id))
both_ascend (id ∷ ids) (other ∷ others) up up' same =
    let at_itself : (x : List ℕ) → is_less x x ≡ false = λ x. ap is_lt (tied_itself nat_list_cmp_total x) in
    let id_in : 0 < times id (other ∷ others) = subst (λ (n : ℕ). 0 < n) (same id) (times_itself id ids) in
    let other_in : 0 < times other (id ∷ ids) = subst (λ (n : ℕ). 0 < n) (sym (same other))
    (times_itself other others) in
    let id_not : is_less id other ≡ false = counted (λ x. is_less x other ≡ false) (other ∷ others) id id_in
    (at_itself other, up'.0) in
    let other_not : is_less other id ≡ false = counted (λ x. is_less x id ≡ false) (id ∷ ids) other other_in
    (at_itself id, up.0) in
    let equal : slice_cmp nat_cmp id other ≡ Equal =
    neither_less (slice_cmp nat_cmp id other) (slice_cmp nat_cmp other id)
    (nat_list_cmp_total.antisymm id other) id_not other_not in
    let first : id ≡ other = (bytes_eq-Decides id other).0 (sym (is_eq-slice_cmp id other)
    ∙ ap is_eq equal) in
    let rest : AreSameIds ids others =
    λ x. omega (arith, same x, times-cons x id ids, times-cons x other others, ap (one_if x) first) in
    ap (λ x. x ∷ ids) first ∙ ap (λ xs. other ∷ xs) (both_ascend ids others up.1 up'.1 rest)

pub same_ascending : (ids others : List (List ℕ)) → IsSorted (slice_cmp nat_cmp) ids
    → IsSorted (slice_cmp nat_cmp) others → AreSameIds ids others → ids ≡ others
same_ascending ids others sorted sorted_too same =
    both_ascend ids others (ascends_sorted ids sorted) (ascends_sorted others sorted_too) same
