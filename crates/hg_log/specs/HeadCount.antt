-- The heads and their number as values, in the order of the rows.
use Rattle.std.specs.Prelude.{◌≡◌, ℕ, ◌==◌, Bool, false, not, ◌&&◌, ◌||◌, nat_lt, if◌then◌else◌, Option, None}
use Rattle.std.specs.Prelude.{Some}
use Rattle.std.specs.Prelude.{List, [], ◌∷◌, ◌++◌, length, map, filter, count_by, bytes_eq, slice_get}
use Rattle.std.specs.List.{list_any, range_with_len}
use Rattle.hg_types.specs.NullId.{null_id}
use Rattle.hg_log.specs.Changeset.{Changeset}
use Rattle.hg_log.specs.Parents.{rev_of, parents_of}

-- there is a row, and it has this number
abbrev pub is_number : Option ℕ → ℕ → Bool
is_number None r = false
is_number (Some p) r = p == r

-- row r is a parent of that row
abbrev pub names : List Changeset → ℕ → ℕ → Bool
names rows r child = is_number (parents_of rows child).0 r || is_number (parents_of rows child).1 r

-- no row has it as a parent
abbrev pub is_childless : List Changeset → ℕ → Bool
is_childless rows r = not (list_any (names rows r) (range_with_len 0 (length rows)))

-- the row of that number is nobody's parent; a number that no row has is no head
abbrev pub is_head : List Changeset → ℕ → Bool
is_head rows r = nat_lt r (length rows) && is_childless rows r

-- the numbers of the rows that are nobody's parent
unfoldable pub head_revs : List Changeset → List ℕ
head_revs rows = filter (is_childless rows) (range_with_len 0 (length rows))

-- the number of heads: one, the null id, where there are no rows
unfoldable pub head_count : List Changeset → ℕ
head_count rows = if length (head_revs rows) == 0 then 1 else length (head_revs rows)

-- the id of the row of that number
abbrev pub id_of : Option Changeset → List ℕ
id_of None = null_id
id_of (Some row) = row.node

-- the id of the row of that number
abbrev pub id_at : List Changeset → ℕ → List ℕ
id_at rows r = id_of (slice_get rows r)

-- the null id in the place of no ids
abbrev pub or_null : List (List ℕ) → List (List ℕ)
or_null [] = null_id ∷ []
or_null (id ∷ ids) = id ∷ ids

-- the ids of the heads, in the order of their rows; the null id alone where there are no rows
unfoldable pub head_ids : List Changeset → List (List ℕ)
head_ids rows = or_null (map (id_at rows) (head_revs rows))

-- the id is that of a head, by the number of its row; where there are no rows, it is null
abbrev pub is_head_at : List Changeset → Option ℕ → Bool
is_head_at rows None = false
is_head_at rows (Some r) = is_head rows r

-- the id is that of a row without children; where there are no rows, it is null
abbrev pub is_head_id : List Changeset → List ℕ → Bool
is_head_id [] id = bytes_eq id null_id
is_head_id (row ∷ rows) id = is_head_at (row ∷ rows) (rev_of (row ∷ rows) id)

-- the heads once a row is added: those that it does not name as a parent, and itself
abbrev pub heads_with : List Changeset → Changeset → List ℕ
heads_with rows row =
    filter (λ r. not (names (rows ++ row ∷ []) r (length rows))) (head_revs rows) ++ length rows ∷ []

-- each id is in both as often: sorted, the two are equal
abbrev pub AreSameIds : List (List ℕ) → List (List ℕ) → Type 0
AreSameIds ids others =
    (id : List ℕ) → count_by (λ other. bytes_eq other id) ids ≡ count_by (λ other. bytes_eq other id) others
