-- What a key names: a changeset, or nothing, and what is printed of it.
use Rattle.std.specs.Prelude.{ℕ, ◌==◌, nat_eq, nat_le, nat_lt, Bool, ◌&&◌, ◌||◌, not, List, [], ◌∷◌, ◌++◌, length, map}
use Rattle.std.specs.Prelude.{filter, Option, Some, None, is_some, codes, bytes_eq, if◌then◌else◌}
use Rattle.std.specs.List.{list_all, starts_with}
use Rattle.hex.specs.Hex.{encode_lower}
use Rattle.hg_types.specs.declared.node.Node.{Node}
use Rattle.hg_types.specs.NullId.{null_id}
use Rattle.hg_log.specs.Changeset.{Changeset}
use Rattle.hg_log.specs.HeadCount.{id_at}
use Rattle.hg_keys.specs.Bookmarks.{Pairs, node_of}
use Rattle.hg_keys.specs.PushKey.{node_in_hex}
use Rattle.hg_wireproto.specs.declared.lookup.Resolved.{Resolved}
use Rattle.hg_wireproto.specs.declared.lookup.Resolved.TheVariants.{Id, Ambiguous, Unknown}
use Rattle.hg_keys.specs.Known.{is_known}

-- the last changeset; of no changesets the null id
abbrev pub tip_of : List Changeset → Node
tip_of [] = record { 0 = null_id }
tip_of (row ∷ rows) = record { 0 = id_at (row ∷ rows) (length rows) }

-- the key begins the digits of the changeset
abbrev pub is_begun : List ℕ → Changeset → Bool
is_begun key row = starts_with nat_eq (encode_lower row.node) key

-- one changeset is named, of several none is
abbrev pub one_of : List Changeset → Resolved
one_of [] = Unknown
one_of (row ∷ []) = Id (record { 0 = row.node })
one_of (row ∷ other ∷ rows) = Ambiguous

-- a lower-case hexadecimal digit
abbrev pub is_lower_digit : ℕ → Bool
is_lower_digit b = (nat_le 48 b && nat_le b 57) || (nat_le 97 b && nat_le b 102)

-- a beginning of digits: some of them, and not all 40
unfoldable pub is_beginning : List ℕ → Bool
is_beginning key = nat_lt 0 (length key) && nat_lt (length key) 40 && list_all is_lower_digit key

-- the changeset that a key begins
abbrev pub begun_by : List Changeset → List ℕ → Resolved
begun_by rows key = if is_beginning key then one_of (filter (is_begun key) rows) else Unknown

-- the id that 40 digits are, where it is null or that of a changeset
abbrev pub known_of : List Changeset → Option Node → Option Node
known_of rows None = None
known_of rows (Some node) = if is_known rows node then Some node else None

-- the id, or else what is named otherwise
abbrev pub id_or : Option Node → Resolved → Resolved
id_or None other = other
id_or (Some node) other = Id node

-- what a key names, in this order: the last changeset, the null id, an id, a bookmark, a beginning
unfoldable pub named_by : List Changeset → Pairs → List ℕ → Resolved
named_by rows pairs key =
    if bytes_eq key (codes "tip") || bytes_eq key (codes ".") then Id (tip_of rows)
    else if bytes_eq key (codes "null") then Id (record { 0 = null_id })
    else id_or (known_of rows (node_in_hex key)) (id_or (node_of pairs key) (begun_by rows key))

-- a line feed in a key is reported as a space
abbrev pub without_line_feed : ℕ → ℕ
without_line_feed b = if b == 10 then 32 else b

-- the line that says it: 1 and an id, or 0 and why there is none
unfoldable pub lookup_line : List ℕ → Resolved → List ℕ
lookup_line key (Id node) = codes "1 " ++ (encode_lower node.0 ++ 10 ∷ [])
lookup_line key Ambiguous = codes "0 ambiguous identifier" ++ 10 ∷ []
lookup_line key Unknown =
    codes "0 unknown revision '" ++ (map without_line_feed key ++ (codes "'" ++ 10 ∷ []))

-- only the ids say what a key names: it is a beginning, and no bookmark
abbrev pub is_left_to_ids : Pairs → List ℕ → Bool
is_left_to_ids pairs key = is_beginning key && not (is_some (node_of pairs key))

-- what a client gets for such a key
unfoldable pub begun_text : List Changeset → List ℕ → List ℕ
begun_text rows key = lookup_line key (begun_by rows key)

-- what a client gets for a key
unfoldable pub lookup_text : List Changeset → Pairs → List ℕ → List ℕ
lookup_text rows pairs key = lookup_line key (named_by rows pairs key)
