-- Lists that have each id as often: distinct ids with the same members do, and such lists have the same
-- members.
use Rattle.std.proofs.Common.{◌≡◌, ◌≢◌, ℕ, ◌+◌, ◌<◌, ◌≤◌, Bool, true, false, cond, ◌||◌, List, [], ◌∷◌}
use Rattle.std.proofs.Common.{refl, sym, ap, ◌∙◌, subst, inl, inr, arith, AllPairs, Contains, bytes_eq}
use Rattle.std.proofs.Common.{count_by}
use Rattle.std.proofs.lemmas.Bool.{or_cases}
use Rattle.std.specs.List.{AllByRecursion, IsDistinct}
use Rattle.std.specs.Set.{is_member}
use Rattle.std.specs.Cmp.{both_ways}
use Rattle.std.proofs.lemmas.List.Sums.{sum_by-cons}
use Rattle.std.proofs.lemmas.Map.Made.{is_member-Decides, IsDistinct-from_AllPairs, AllPairs-from_IsDistinct}
use Rattle.std.proofs.lemmas.Slice.Eq.{bytes_eq-Decides}
use Rattle.hg_log.specs.HeadCount.{AreSameIds}

abbrev times : List ℕ → List (List ℕ) → ℕ
times id ids = count_by (λ other. bytes_eq other id) ids

abbrev one_if : List ℕ → List ℕ → ℕ
one_if id other = cond (bytes_eq other id) 1 0

times-cons : (id other : List ℕ) (ids : List (List ℕ))
    → times id (other ∷ ids) ≡ one_if id other + times id ids
times-cons id other ids = sum_by-cons (λ x. cond (bytes_eq x id) 1 0) other ids

turned : (a b : List ℕ) → bytes_eq a b ≡ bytes_eq b a
turned a b = both_ways (bytes_eq a b) (bytes_eq b a)
    (λ is. (bytes_eq-Decides b a).1 (sym ((bytes_eq-Decides a b).0 is)))
    (λ is. (bytes_eq-Decides a b).1 (sym ((bytes_eq-Decides b a).0 is)))

no_times : (id : List ℕ) (ids : List (List ℕ)) → AllByRecursion (λ other. bytes_eq id other ≡ false) ids
    → times id ids ≡ 0
no_times id [] none = refl
no_times id (other ∷ ids) none =
    let not : one_if id other ≡ 0 = ap (λ b. cond b 1 0) (turned other id ∙ none.0) in
    omega (arith, times-cons id other ids, not, no_times id ids none.1)

times_more : (id other : List ℕ) (ids : List (List ℕ)) (v : Bool) → bytes_eq id other ≡ v
    → AllByRecursion (λ later. bytes_eq other later ≡ false) ids
    → times id ids ≡ cond (is_member bytes_eq ids id) 1 0
    → times id (other ∷ ids) ≡ cond (v || is_member bytes_eq ids id) 1 0
times_more id other ids true is distinct times_is =
    let same : other ≡ id = sym ((bytes_eq-Decides id other).0 is) in
    let one : one_if id other ≡ 1 = ap (λ b. cond b 1 0) (turned other id ∙ is) in
    let none : times id ids ≡ 0 = subst (λ x. times x ids ≡ 0) same (no_times other ids distinct) in
    omega (arith, times-cons id other ids, one, none)
times_more id other ids false is distinct times_is =
    let not : one_if id other ≡ 0 = ap (λ b. cond b 1 0) (turned other id ∙ is) in
    let kept : times id (other ∷ ids) ≡ times id ids = omega (arith, times-cons id other ids, not) in
    kept ∙ times_is

times_is : (id : List ℕ) (ids : List (List ℕ)) → IsDistinct bytes_eq ids
    → times id ids ≡ cond (is_member bytes_eq ids id) 1 0
unfolding IsDistinct
times_is id [] distinct = refl
times_is id (other ∷ ids) distinct =
    times_more id other ids (bytes_eq id other) refl distinct.0 (times_is id ids distinct.1)

pub same_ids : (ids others : List (List ℕ)) → AllPairs (λ a b. a ≢ b) ids → AllPairs (λ a b. a ≢ b) others
    → ((id : List ℕ) → Contains ids id → Contains others id)
    → ((id : List ℕ) → Contains others id → Contains ids id) → AreSameIds ids others
same_ids ids others distinct distinct_too there here id =
    let same : is_member bytes_eq ids id ≡ is_member bytes_eq others id = both_ways
    (is_member bytes_eq ids id) (is_member bytes_eq others id)
    (λ is. (is_member-Decides bytes_eq-Decides others id).1
    (there id ((is_member-Decides bytes_eq-Decides ids id).0 is)))
    (λ is. (is_member-Decides bytes_eq-Decides ids id).1
    (here id ((is_member-Decides bytes_eq-Decides others id).0 is))) in
    times_is id ids (IsDistinct-from_AllPairs bytes_eq-Decides ids distinct) ∙ ap (λ b. cond b 1 0) same
    ∙ sym (times_is id others (IsDistinct-from_AllPairs bytes_eq-Decides others distinct_too))

-- ---- what lists that have each id as often have in common

member_counted : (id : List ℕ) (ids : List (List ℕ)) → is_member bytes_eq ids id ≡ true → 0 < times id ids
member_counted id [] is = absurd cc
member_counted id (other ∷ ids) is = elim (or_cases (bytes_eq id other) _ is) [
  | inl e ↦ let one : one_if id other ≡ 1 = ap (λ b. cond b 1 0) (turned other id ∙ e) in
      omega (arith, times-cons id other ids, one)
  | inr e ↦ let some : 0 < times id ids = member_counted id ids e in omega (arith, times-cons id other ids)
]

counted_more : (id other : List ℕ) (ids : List (List ℕ)) (v : Bool) → bytes_eq id other ≡ v
    → (0 < times id ids → is_member bytes_eq ids id ≡ true) → 0 < times id (other ∷ ids)
    → (v || is_member bytes_eq ids id) ≡ true
counted_more id other ids true is rest some = refl
counted_more id other ids false is rest some =
    let not : one_if id other ≡ 0 = ap (λ b. cond b 1 0) (turned other id ∙ is) in
    rest (omega (arith, times-cons id other ids, not))

counted_member : (id : List ℕ) (ids : List (List ℕ)) → 0 < times id ids → is_member bytes_eq ids id ≡ true
counted_member id [] some = absurd (omega (arith, some))
counted_member id (other ∷ ids) some =
    counted_more id other ids (bytes_eq id other) refl (counted_member id ids) some

pub same_members : (ids others : List (List ℕ)) → AreSameIds ids others → (id : List ℕ) → Contains ids id
    → Contains others id
same_members ids others same id found =
    let some : 0 < times id ids = member_counted id ids
    ((is_member-Decides bytes_eq-Decides ids id).1 found) in
    (is_member-Decides bytes_eq-Decides others id).0
    (counted_member id others (subst (λ (n : ℕ). 0 < n) (same id) some))

-- where no id is there twice, all differ
at_most_one : (b : Bool) → cond b 1 0 ≤ 1
at_most_one true = omega arith
at_most_one false = omega arith

not-true-false : (b : Bool) → (b ≡ true → ⊥) → b ≡ false
not-true-false true other = absurd (other refl)
not-true-false false other = refl

all_apart : (id : List ℕ) (ids : List (List ℕ)) → times id ids ≡ 0
    → AllByRecursion (λ other. bytes_eq id other ≡ false) ids
all_apart id [] none = tt
all_apart id (other ∷ ids) none = (
  not-true-false (bytes_eq id other)
      (λ is. let one : one_if id other ≡ 1 = ap (λ b. cond b 1 0) (turned other id ∙ is) in
      absurd (omega (arith, none, times-cons id other ids, one))),
  all_apart id ids (omega (arith, none, times-cons id other ids)),
)

once : (ids : List (List ℕ)) → ((id : List ℕ) → times id ids ≤ 1) → IsDistinct bytes_eq ids
unfolding IsDistinct
once [] few = tt
once (id ∷ ids) few =
    let one : one_if id id ≡ 1 = ap (λ b. cond b 1 0) ((bytes_eq-Decides id id).1 refl) in (
      all_apart id ids (omega (arith, few id, times-cons id id ids, one)),
      once ids (λ other. omega (arith, few other, times-cons other id ids)),
    )

pub same_distinct : (ids others : List (List ℕ)) → AreSameIds ids others → AllPairs (λ a b. a ≢ b) others
    → AllPairs (λ a b. a ≢ b) ids
same_distinct ids others same distinct =
    AllPairs-from_IsDistinct bytes_eq-Decides ids
    (once ids (λ id. let few = at_most_one (is_member bytes_eq others id) in
    omega (
      arith,
      same id,
      times_is id others
          (IsDistinct-from_AllPairs bytes_eq-Decides others distinct),
    )))
