-- Which ids are known: the null id, and those of rows.
use Rattle.std.proofs.Common.{◌≡◌, ◌≢◌, ◌↔◌, ℕ, ◌<◌, Bool, true, false, cond, List, [], ◌∷◌, length, get_or}
use Rattle.std.proofs.Common.{slice_get, Option, Some, None, refl, sym, ap, ◌∙◌, inl, inr, arith}
use Rattle.std.specs.Prelude.{bytes_eq, nat_lt, is_some, option_map, not}
use Rattle.std.specs.List.{position_or_len, All}
use Rattle.std.proofs.lemmas.Bool.{lt-ltb, cond-true, cases_lt, or_cases, or_left, or_right}
use Rattle.std.proofs.lemmas.Bool.{false_from_ne_true, not_from_true}
use Rattle.std.proofs.lemmas.List.Folds.{find_at}
use Rattle.std.proofs.lemmas.List.Quantifiers.{position-Some}
use Rattle.std.proofs.lemmas.List.Sums.{position_or_len_is, prefix_len_passes, prefix_len_stops}
use Rattle.std.proofs.lemmas.Option.{slice_get_within, get_or_from_slice_get, slice_get-get_or}
use Rattle.std.proofs.lemmas.Slice.Eq.{bytes_eq-Decides}
use Rattle.hg_types.specs.NullId.{null_id}
use Rattle.hg_types.specs.declared.node.Node.{Node}
use Rattle.hg_log.specs.Answer.{row_by_id, text_by_id, is_known as is_known_to_log}
use Rattle.hg_log.specs.Changeset.{Changeset}
use Rattle.hg_log.specs.Parents.{rev_of}
use Rattle.hg_log.specs.Rows.{AreLawful, HasNode, IsKnown}
use Rattle.hg_keys.specs.Bookmarks.{Pairs}
use Rattle.hg_keys.specs.Known.{AreOnKnown, is_known as is_known_to_keys}

-- ---- the place of the first row with an id

place : List Changeset → List ℕ → ℕ
place rows node = position_or_len (λ row. bytes_eq row.node node) rows

row_here : (rows : List Changeset) (r : ℕ) (node : List ℕ) (has : HasNode rows r node)
    → bytes_eq (get_or rows r has.row).node node ≡ true
row_here rows r node has =
    (bytes_eq-Decides (get_or rows r has.row).node node).1
    (ap (λ (x : Changeset). x.node) (get_or_from_slice_get rows r has.row has.row has.row_at) ∙ has.node_is)

-- a row of the id stands no earlier than the first, which is there
place_within : (rows : List Changeset) (r : ℕ) (node : List ℕ) → HasNode rows r node
    → place rows node < length rows
unfolding place
place_within rows r node has =
    let within : r < length rows = slice_get_within rows r has.row has.row_at in
    elim (cases_lt (position_or_len (λ row. bytes_eq row.node node) rows) (length rows)) [
      | inl less ↦ less
      | inr more ↦
          let fails : not (bytes_eq (get_or rows r has.row).node node) ≡ true =
          prefix_len_passes (λ (row : Changeset). not (bytes_eq row.node node)) rows r has.row (omega arith) in
          let passes : not (bytes_eq (get_or rows r has.row).node node) ≡ false =
          not_from_true (bytes_eq (get_or rows r has.row).node node) (row_here rows r node has) in
          absurd cc
    ]

from_not : (b : Bool) → not b ≡ false → b ≡ true
from_not true is = refl
from_not false is = absurd cc

place_has : (rows : List Changeset) (node : List ℕ) → place rows node < length rows
    → HasNode rows (place rows node) node
unfolding place
place_has [] node within = absurd (omega arith)
place_has (first ∷ rows) node within =
    let all : List Changeset = first ∷ rows in
    let at : ℕ = position_or_len (λ row. bytes_eq row.node node) all in
    let passes : bytes_eq (get_or all at first).node node ≡ true =
    from_not _ (prefix_len_stops (λ (row : Changeset). not (bytes_eq row.node node)) all first within) in
    record {
      row = get_or all at first;
      row_at = slice_get-get_or all at first within;
      node_is = (bytes_eq-Decides (get_or all at first).node node).0 passes;
    }

-- ---- the number of an id

-- what has a number is the id of the row
found_row : (rows : List Changeset) (r : ℕ) (node : List ℕ) → rev_of rows node ≡ Some r → HasNode rows r node
unfolding rev_of
found_row [] r node is = absurd cc
found_row (first ∷ rows) r node is =
    let at = position-Some (λ (row : Changeset). bytes_eq row.node node) (first ∷ rows) r first is in
    record {
      row = get_or (first ∷ rows) r first;
      row_at = slice_get-get_or (first ∷ rows) r first at.0;
      node_is = (bytes_eq-Decides (get_or (first ∷ rows) r first).node node).0 at.1;
    }

differ : (a b : List ℕ) → a ≢ b → bytes_eq a b ≡ false
differ a b other = false_from_ne_true (bytes_eq a b) (λ is. other ((bytes_eq-Decides a b).0 is))

-- the id of a row has its number, since no other row has that id
row_number : (rows : List Changeset) (r : ℕ) (node : List ℕ) → AreLawful rows → HasNode rows r node
    → rev_of rows node ≡ Some r
unfolding rev_of
row_number rows r node lawful has =
    let within : r < length rows = slice_get_within rows r has.row has.row_at in
    let here : (get_or rows r has.row).node ≡ node =
    (bytes_eq-Decides (get_or rows r has.row).node node).0 (row_here rows r node has) in
    let before : (k : ℕ) → k < r → bytes_eq (get_or rows k has.row).node node ≡ false =
    λ k low. differ (get_or rows k has.row).node node
    (λ same. lawful.distinct k r has.row low within (same ∙ sym here)) in
    let found : position_or_len (λ row. bytes_eq row.node node) rows ≡ r =
    position_or_len_is (λ row. bytes_eq row.node node) rows r has.row (omega arith) before
    (λ _. row_here rows r node has) in
    ap (λ n. cond (nat_lt n (length rows)) (Some n) None) found
    ∙ cond-true (nat_lt r (length rows)) (Some r) None (lt-ltb r (length rows) within)

pub number_is : (rows : List Changeset) (node : List ℕ) (r : ℕ) → AreLawful rows
    → (rev_of rows node ≡ Some r) ↔ HasNode rows r node
number_is rows node r lawful = (λ is. found_row rows r node is, λ has. row_number rows r node lawful has)

some_number : (rows : List Changeset) (node : List ℕ) → place rows node < length rows
    → is_some (rev_of rows node) ≡ true
unfolding place rev_of
some_number rows node within =
    let at : ℕ = position_or_len (λ row. bytes_eq row.node node) rows in
    ap is_some (cond-true (nat_lt at (length rows)) (Some at) None (lt-ltb at (length rows) within))

of_number : (rows : List Changeset) (node : List ℕ) → is_some (rev_of rows node) ≡ true → IsKnown rows node
of_number rows node is = by (rev_of rows node) refl is
  where
    by : (o : Option ℕ) → rev_of rows node ≡ o → is_some o ≡ true → IsKnown rows node
    by None at is = absurd cc
    by (Some r) at is = inr (r, found_row rows r node at)

-- ---- known to keys

pub known_to_keys : (rows : List Changeset) (node : Node)
    → (is_known_to_keys rows node ≡ true) ↔ IsKnown rows node.0
known_to_keys rows node = (
  λ is. elim (or_cases (bytes_eq node.0 null_id) (is_some (rev_of rows node.0)) is) [
    | inl null ↦ inl ((bytes_eq-Decides node.0 null_id).0 null)
    | inr some ↦ of_number rows node.0 some
  ],
  λ known. elim known [
    | inl null ↦ or_left (bytes_eq node.0 null_id) (is_some (rev_of rows node.0))
        ((bytes_eq-Decides node.0 null_id).1 null)
    | inr row ↦ or_right (bytes_eq node.0 null_id) (is_some (rev_of rows node.0))
        (some_number rows node.0 (place_within rows row.0 node.0 row.1))
  ],
)

pub bookmarks_are_on_known : (rows : List Changeset) (pairs : Pairs)
    → AreOnKnown rows pairs ↔ All (λ pair. IsKnown rows pair.1.0) pairs
bookmarks_are_on_known rows pairs = (
  λ on k d low. (known_to_keys rows (get_or pairs k d).1).0 (on k d low),
  λ known k d low. (known_to_keys rows (get_or pairs k d).1).1 (known k d low),
)

-- ---- known to the changelog

by_place : (rows : List Changeset) (node : List ℕ) → row_by_id rows node ≡ slice_get rows (place rows node)
unfolding place
by_place rows node = find_at (λ (row : Changeset). bytes_eq row.node node) rows

-- a row of the id is found from the front
row_found : (rows : List Changeset) (r : ℕ) (node : List ℕ) → HasNode rows r node
    → (row : Changeset) × (row_by_id rows node ≡ Some row)
row_found rows r node has =
    let within = place_within rows r node has in
    let first = place_has rows node within in
    (first.row, by_place rows node ∙ first.row_at)

found_is : (rows : List Changeset) (node : List ℕ) (row : Changeset) → row_by_id rows node ≡ Some row
    → (r : ℕ) × HasNode rows r node
found_is rows node row is =
    let at : slice_get rows (place rows node) ≡ Some row = sym (by_place rows node) ∙ is in
    (place rows node, place_has rows node (slice_get_within rows (place rows node) row at))

pub known_to_log : (rows : List Changeset) (node : List ℕ)
    → (is_known_to_log rows node ≡ true) ↔ IsKnown rows node
unfolding text_by_id
known_to_log rows node = (λ is. to (bytes_eq node null_id) refl is, λ known. from (bytes_eq node null_id) refl known)
  where
    to : (b : Bool) → bytes_eq node null_id ≡ b
        → is_some (cond b (Some []) (option_map (λ (row : Changeset). row.text) (row_by_id rows node))) ≡ true
        → IsKnown rows node
    to true null is = inl ((bytes_eq-Decides node null_id).0 null)
    to false null is = by (row_by_id rows node) refl is
      where
        by : (o : Option Changeset) → row_by_id rows node ≡ o
            → is_some (option_map (λ (row : Changeset). row.text) o) ≡ true → IsKnown rows node
        by None at is = absurd cc
        by (Some row) at is = inr (found_is rows node row at)

    from : (b : Bool) → bytes_eq node null_id ≡ b → IsKnown rows node
        → is_some (cond b (Some []) (option_map (λ (row : Changeset). row.text) (row_by_id rows node))) ≡ true
    from true null known = refl
    from false null (inl is) = let yes = (bytes_eq-Decides node null_id).1 is in absurd cc
    from false null (inr row) =
        let found = row_found rows row.0 node row.1 in
        ap (λ (o : Option Changeset). is_some (option_map (λ (row : Changeset). row.text) o)) found.1
