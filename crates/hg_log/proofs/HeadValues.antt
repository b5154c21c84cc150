-- A list meets the relation of heads just where it ascends and has each id as often as the value of the
-- heads.
use Rattle.std.proofs.Common.{◌≡◌, ◌≢◌, ℕ, ◌-◌, ◌<◌, ◌↔◌, List, [], ◌∷◌, length, map, slice_index, refl}
use Rattle.std.proofs.Common.{sym, ap, ◌∙◌, subst, arith, AllPairs, Contains, IsSorted, count_by, bytes_eq}
use Rattle.std.proofs.Common.{cond}
use Rattle.std.specs.Prelude.{◌==◌}
use Rattle.std.specs.Ordering.{nat_cmp}
use Rattle.std.specs.Cmp.Lexicographic.{slice_cmp}
use Rattle.std.proofs.lemmas.Bool.{cond-false, ne_eqb}
use Rattle.std.proofs.lemmas.List.{length-map, get_or-map}
use Rattle.std.proofs.lemmas.List.Elements.{Contains-get_or}
use Rattle.std.proofs.lemmas.Option.{slice_get_within}
use Rattle.hg_types.specs.NullId.{null_id}
use Rattle.hg_log.specs.Changeset.{Changeset}
use Rattle.hg_log.specs.Rows.{HasNode, AreLawful}
use Rattle.hg_log.specs.Ancestors.{IsParent}
use Rattle.hg_log.specs.Heads.{IsHead, AreHeadsOf, AreHeads}
use Rattle.hg_log.specs.HeadCount.{head_revs, head_count, head_ids, id_of, id_at, or_null, AreSameIds}
use Rattle.hg_log.proofs.Lists.{slice_get_in}
use Rattle.hg_log.proofs.RowLemmas.{has_within, same_rev, unnamed, no_parent}
use Rattle.hg_log.proofs.ParentLemmas.{is_parent, ordered}
use Rattle.hg_log.proofs.HeadCounts.{free, freed, from_heads, to_heads, heads_distinct}
use Rattle.hg_log.proofs.SameIds.{same_ids, same_members, same_distinct}
use Rattle.hg_log.proofs.Ascending.{same_ascending}

has_at : (rows : List Changeset) (r : ℕ) → r < length rows → HasNode rows r (id_at rows r)
has_at rows r low = let found = slice_get_in rows r low in
    record { row = found.0; row_at = found.1; node_is = sym (ap id_of found.1) }

-- the ids of the value are those of the heads, each once
module _ (rows : List Changeset) (lawful : AreLawful rows) where
  is_head : (r : ℕ) → Contains (head_revs rows) r → IsHead rows (id_at rows r)
  is_head r found =
      let is = from_heads rows lawful r found in
      let has = has_at rows r is.0 in
      record { rev = r; has = has; childless = unnamed rows r (id_at rows r) has (free rows lawful r is.1) }

  head_in : (node : List ℕ) (head : IsHead rows node) → Contains (head_revs rows) head.rev
  head_in node head = to_heads rows lawful head.rev (has_within rows head.rev node head.has)
      (freed rows lawful head.rev (no_parent rows head.rev node head.has head.childless))

  pub id_head : (node : List ℕ) → Contains (map (id_at rows) (head_revs rows)) node → IsHead rows node
  id_head node found =
      let k_in : found.0 < length (head_revs rows) = omega
      (arith, found.1, length-map (head_revs rows) (id_at rows)) in
      let id : id_at rows (slice_index (head_revs rows) found.0) ≡ node = sym
      (get_or-map (id_at rows) (head_revs rows) found.0 0 node k_in) ∙ found.2 in
      subst (IsHead rows) id (is_head (slice_index (head_revs rows) found.0)
      (Contains-get_or (head_revs rows) found.0 0 k_in))

  pub head_id : (node : List ℕ) → IsHead rows node → Contains (map (id_at rows) (head_revs rows)) node
  head_id node head =
      let found = head_in node head in
      let id : id_at rows head.rev ≡ node = ap id_of head.has.row_at ∙ head.has.node_is in (
        found.0,
        omega (arith, found.1, length-map (head_revs rows) (id_at rows)),
        get_or-map (id_at rows) (head_revs rows) found.0 head.rev node found.1 ∙ ap (id_at rows) found.2
            ∙ id,
      )

  pub ids_distinct : AllPairs (λ a b. a ≢ b) (map (id_at rows) (head_revs rows))
  ids_distinct i j d less j_in same =
      let revs = head_revs rows in
      let j_low : j < length revs = omega (arith, length-map revs (id_at rows)) in
      let one = from_heads rows lawful (slice_index revs i) (Contains-get_or revs i 0 (omega arith)) in
      let two = from_heads rows lawful (slice_index revs j) (Contains-get_or revs j 0 j_low) in
      let ids : id_at rows (slice_index revs i) ≡ id_at rows (slice_index revs j) =
      sym (get_or-map (id_at rows) revs i 0 d (omega arith)) ∙ same
      ∙ get_or-map (id_at rows) revs j 0 d j_low in
      heads_distinct rows lawful i j 0 less j_low
      (same_rev rows (slice_index revs i) (slice_index revs j) (id_at rows (slice_index revs j)) lawful
      (subst (HasNode rows (slice_index revs i)) ids (has_at rows (slice_index revs i) one.0))
      (has_at rows (slice_index revs j) two.0))

  -- where there are rows, the last is a head
  some_head : 0 < length rows → 0 < length (head_revs rows)
  some_head some =
      let none = λ (child : ℕ) (is : IsParent rows (length rows - 1) child).
      let after : length rows - 1 < child = ordered rows lawful (length rows - 1) child
      (is_parent rows (length rows - 1) child lawful is) in
      let within : child < length rows = slice_get_within rows child is.child is.child_at in
      let never : ⊥ = absurd (omega arith) in never in
      let found = to_heads rows lawful (length rows - 1) (omega arith)
      (freed rows lawful (length rows - 1) none) in
      omega (arith, found.1)

or_null_some : (ids : List (List ℕ)) → 0 < length ids → or_null ids ≡ ids
or_null_some [] some = absurd (omega (arith, some))
or_null_some (id ∷ ids) some = refl

pub ids_shown : (rows : List Changeset) → AreLawful rows → 0 < length rows
    → head_ids rows ≡ map (id_at rows) (head_revs rows)
unfolding head_ids
ids_shown rows lawful some =
    or_null_some (map (id_at rows) (head_revs rows))
    (omega (arith, length-map (head_revs rows) (id_at rows), some_head rows lawful some))

-- where there are rows
value_of : (rows : List Changeset) → AreLawful rows → 0 < length rows → (heads : List (List ℕ))
    → AreHeadsOf rows heads → AreSameIds heads (head_ids rows)
value_of rows lawful some heads are =
    subst (AreSameIds heads) (sym (ids_shown rows lawful some))
    (same_ids heads (map (id_at rows) (head_revs rows)) are.distinct (ids_distinct rows lawful)
    (λ id found. head_id rows lawful id ((are.each id).0 found))
    (λ id found. (are.each id).1 (id_head rows lawful id found)))

heads_from : (rows : List Changeset) → AreLawful rows → 0 < length rows → (heads : List (List ℕ))
    → AreSameIds heads (head_ids rows) → IsSorted (slice_cmp nat_cmp) heads → AreHeadsOf rows heads
heads_from rows lawful some heads same sorted =
    let ids = map (id_at rows) (head_revs rows) in
    let as_often : AreSameIds heads (map (id_at rows) (head_revs rows)) = subst (AreSameIds heads)
    (ids_shown rows lawful some) same in
    record {
      each = λ node. (
        (λ found. id_head rows lawful node (same_members heads ids as_often node found)),
        (λ head. same_members ids heads (λ id. sym (as_often id)) node (head_id rows lawful node head)),
      );
      distinct = same_distinct heads ids as_often (ids_distinct rows lawful);
      ascending = sorted;
    }

-- where there are none, the null id alone ascends
one_sorted : (id : List ℕ) → IsSorted (slice_cmp nat_cmp) (id ∷ [])
one_sorted id k d low high = absurd (omega (arith, high))

pub heads_value : (rows : List Changeset) → AreLawful rows → (heads : List (List ℕ)) → AreHeads rows heads
    → AreSameIds heads (head_ids rows)
unfolding head_ids head_revs
heads_value [] lawful heads are id = ap (λ (xs : List (List ℕ)). count_by (λ other. bytes_eq other id) xs) are
heads_value (row ∷ rows) lawful heads are id = value_of (row ∷ rows) lawful (omega arith) heads are id

heads_sorted : (rows : List Changeset) (heads : List (List ℕ)) → AreHeads rows heads
    → IsSorted (slice_cmp nat_cmp) heads
heads_sorted [] heads are = subst (IsSorted (slice_cmp nat_cmp)) (sym are) (one_sorted null_id)
heads_sorted (row ∷ rows) heads are = are.ascending

are_heads : (rows : List Changeset) (heads : List (List ℕ)) → AreLawful rows
    → AreSameIds heads (head_ids rows) → IsSorted (slice_cmp nat_cmp) heads → AreHeads rows heads
unfolding head_ids head_revs
are_heads [] heads lawful same sorted = same_ascending heads (null_id ∷ []) sorted (one_sorted null_id) same
are_heads (row ∷ rows) heads lawful same sorted =
    heads_from (row ∷ rows) lawful (omega arith) heads same sorted

-- the law
pub heads_by_value : (rows : List Changeset) (heads : List (List ℕ)) → AreLawful rows
    → AreHeads rows heads ↔ (AreSameIds heads (head_ids rows) × IsSorted (slice_cmp nat_cmp) heads)
heads_by_value rows heads lawful = (
  λ are. (heads_value rows lawful heads are, heads_sorted rows heads are),
  λ both. are_heads rows heads lawful both.0 both.1,
)

count_shown : (rows : List Changeset) (revs : List ℕ)
    → cond (length revs == 0) 1 (length revs) ≡ length (or_null (map (id_at rows) revs))
count_shown rows [] = refl
count_shown rows (r ∷ revs) =
    cond-false (length (r ∷ revs) == 0) 1 (length (r ∷ revs))
    (ne_eqb (length (r ∷ revs)) 0 (λ e. omega arith)) ∙ sym (length-map (r ∷ revs) (id_at rows))

pub count_value : (rows : List Changeset) → head_count rows ≡ length (head_ids rows)
unfolding head_count head_ids
count_value rows = count_shown rows (head_revs rows)
