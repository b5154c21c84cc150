-- The test whether ids are as often in one list as in another.
use Rattle.std.proofs.Common.{◌≡◌, ◌==◌, ◌+◌, ◌<◌, ℕ, Bool, true, false, cond, List, [], ◌∷◌, ◌++◌, get_or}
use Rattle.std.proofs.Common.{refl, subst, inl, inr, arith, bytes_eq, eqb-true, eq-eqb}
use Rattle.std.specs.List.{AllByRecursion}
use Rattle.std.proofs.lemmas.Bool.{cases_lt}
use Rattle.std.proofs.lemmas.List.Elements.{recursion_from_All}
use Rattle.std.proofs.lemmas.List.Sums.{sum_by-append, sum_by-cons, AllPass-from_list_all}
use Rattle.std.proofs.lemmas.List.Sums.{list_all-from_AllPass}
use Rattle.std.proofs.lemmas.Slice.Eq.{bytes_eq-Decides}
use Rattle.hg_log.specs.HeadCount.{AreSameIds}
use Rattle.hg_checks.specs.Checks.{occurrences, are_same_ids}

abbrev one_if : List ℕ → List ℕ → ℕ
one_if id other = cond (bytes_eq other id) 1 0

times-cons : (id other : List ℕ) (ids : List (List ℕ))
    → occurrences id (other ∷ ids) ≡ one_if id other + occurrences id ids
times-cons id other ids = sum_by-cons (λ x. cond (bytes_eq x id) 1 0) other ids

-- an id that is counted has what holds of each
counted : (P : List ℕ → Type 0) (ids : List (List ℕ)) (id : List ℕ) → 0 < occurrences id ids
    → AllByRecursion P ids
    → P id
counted P [] id some each = absurd (omega (arith, some))
counted P (other ∷ ids) id some each =
    elim (bytes_eq other id) as (λ b. bytes_eq other id ≡ b → 0 < cond b 1 0 + occurrences id ids → P id) [
      | true ↦ λ here more. subst P ((bytes_eq-Decides other id).0 here) each.0
      | false ↦ λ here more. counted P ids id (omega (arith, more)) each.1
    ] refl (subst (λ (n : ℕ). 0 < n) (times-cons id other ids) some)

-- where the test holds of each item of the two lists, it holds of every id
pub as_often : (ids others : List (List ℕ)) → are_same_ids ids others ≡ true → AreSameIds ids others
as_often ids others same id =
    let is_as_often : List ℕ → Bool = λ id. occurrences id ids == occurrences id others in
    let each : AllByRecursion (λ id. is_as_often id ≡ true) (ids ++ others) =
    recursion_from_All (λ id. is_as_often id ≡ true) (ids ++ others)
    (AllPass-from_list_all is_as_often (ids ++ others) same) in
    let joined : occurrences id (ids ++ others) ≡ occurrences id ids + occurrences id others = sum_by-append
    (λ other. cond (bytes_eq other id) 1 0) ids others in
    elim (cases_lt 0 (occurrences id (ids ++ others))) [
      | inl some ↦ eqb-true _ _ (counted (λ id. is_as_often id ≡ true) (ids ++ others) id some each)
      | inr none ↦ omega (arith, none, joined)
    ]

pub from_as_often : (ids others : List (List ℕ)) → AreSameIds ids others → are_same_ids ids others ≡ true
from_as_often ids others same =
    list_all-from_AllPass (λ id. occurrences id ids == occurrences id others) (ids ++ others)
    (λ k d within. eq-eqb _ _ (same (get_or (ids ++ others) k d)))
