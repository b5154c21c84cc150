-- Whether an id stands twice in a list, seen from the list sorted.
use Rattle.std.proofs.Common.{◌≡◌, ◌≢◌, ◌↔◌, ◌+◌, ◌<◌, ℕ, Bool, true, false, not, cond, true≢false, List, []}
use Rattle.std.proofs.Common.{length, get_or, refl, sym, ap, ◌∙◌, arith, AllPairs, IsPermutation, IsSorted}
use Rattle.std.proofs.Common.{IsTrue, bytes_eq}
use Rattle.std.specs.List.{IsAllAdjacentAnswer}
use Rattle.std.specs.Ordering.{nat_cmp, is_lt, is_eq, ordering_reverse}
use Rattle.std.specs.Cmp.Lexicographic.{slice_cmp}
use Rattle.std.specs.declared.cmp.Ordering.{Ordering}
use Rattle.std.specs.declared.cmp.Ordering.TheVariants.{Less, Equal, Greater}
use Rattle.std.proofs.lemmas.Cmp.{nat_list_cmp_total}
use Rattle.std.proofs.lemmas.List.MinMax.{ranks_by}
use Rattle.std.proofs.lemmas.List.Sorted.{sorted_far, sum_by-IsPermutation}
use Rattle.std.proofs.lemmas.Map.Text.{is_eq-slice_cmp}
use Rattle.std.proofs.lemmas.Slice.Eq.{bytes_eq-Decides}
use Rattle.hg_log.specs.HeadCount.{AreSameIds}
use Rattle.hg_log.proofs.CallerLemmas.{same_distinct}

abbrev is_less : List ℕ → List ℕ → Bool
is_less a b = is_lt (slice_cmp nat_cmp a b)

-- what neither is less than is equal
neither_less : (r s : Ordering) → r ≡ ordering_reverse s → is_lt r ≡ false → is_lt s ≡ false → r ≡ Equal
neither_less r Less turned r_not s_not = absurd (true≢false s_not)
neither_less r Equal turned r_not s_not = turned
neither_less r Greater turned r_not s_not = absurd (true≢false (sym (ap is_lt turned) ∙ r_not))

equal_ids : (a b : List ℕ) → is_less a b ≡ false → is_less b a ≡ false → a ≡ b
equal_ids a b a_not b_not =
    let equal : slice_cmp nat_cmp a b ≡ Equal = neither_less (slice_cmp nat_cmp a b) (slice_cmp nat_cmp b a)
    (nat_list_cmp_total.antisymm a b) a_not b_not in
    (bytes_eq-Decides a b).0 (sym (is_eq-slice_cmp a b) ∙ ap is_eq equal)

-- the test of each id against the next
abbrev pub differ : List ℕ → List ℕ → Bool
differ a b = not (bytes_eq a b)

they_differ : (a b : List ℕ) → differ a b ≡ true → a ≢ b
they_differ a b is same = absurd (true≢false (sym is ∙ ap not ((bytes_eq-Decides a b).1 same)))

are_equal : (a b : List ℕ) → differ a b ≡ false → a ≡ b
are_equal a b is = by (bytes_eq a b) refl is
  where
    by : (v : Bool) → bytes_eq a b ≡ v → not v ≡ false → a ≡ b
    by true here is_not = (bytes_eq-Decides a b).0 here
    by false here is_not = absurd (true≢false is_not)

-- in a list that ascends, what is equal stands side by side
apart : (ids : List (List ℕ)) → IsSorted (slice_cmp nat_cmp) ids
    → ((k : ℕ) (d : List ℕ) → k + 1 < length ids → get_or ids k d ≢ get_or ids (k + 1) d)
    → AllPairs (λ a b. a ≢ b) ids
apart ids sorted each i j d less within same =
    let far = sorted_far is_less (ranks_by nat_list_cmp_total (λ (id : List ℕ). id)) ids sorted in
    let next_not : is_less (get_or ids (i + 1) d) (get_or ids i d) ≡ false = far i (i + 1) d (omega arith)
    (omega arith) in
    let last_not : is_less (get_or ids j d) (get_or ids (i + 1) d) ≡ false = far (i + 1) j d
    (omega arith) within in
    let here_not : is_less (get_or ids i d) (get_or ids (i + 1) d) ≡ false =
    ap (λ id. is_less id (get_or ids (i + 1) d)) same ∙ last_not in
    each i d (omega arith) (equal_ids (get_or ids i d) (get_or ids (i + 1) d) here_not next_not)

as_often : (ids sorted : List (List ℕ)) → IsPermutation ids sorted → AreSameIds ids sorted
as_often ids sorted permutation id =
    sym (sum_by-IsPermutation (λ other. cond (bytes_eq other id) 1 0) ids sorted permutation)

-- no id stands twice where, in the list sorted, none is equal to the next
pub adjacent : (ids sorted : List (List ℕ)) (r : Bool) → IsPermutation ids sorted
    → IsSorted (slice_cmp nat_cmp) sorted
    → IsAllAdjacentAnswer (λ x y b. b ≡ differ x y) sorted r → IsTrue r ↔ AllPairs (λ a b. a ≢ b) ids
adjacent ids sorted true permutation ascends each = (
  (λ is. same_distinct ids sorted (as_often ids sorted permutation)
      (apart sorted ascends (λ k d within. they_differ (get_or sorted k d) (get_or sorted (k + 1) d)
      (sym (each k d within))))),
  λ distinct. refl,
)
adjacent ids sorted false permutation ascends some = (
  (λ is. absurd (true≢false (sym is))),
  λ distinct.
      let d = get_or sorted 0 [] in
      let all = same_distinct sorted ids (λ id. sym (as_often ids sorted permutation id)) distinct in
      absurd (all some.0 (some.0 + 1) d (omega arith) some.1
      (are_equal (get_or sorted some.0 d) (get_or sorted (some.0 + 1) d) (sym (some.2 d)))),
)
