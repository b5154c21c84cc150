-- What is reported of the keys of a namespace: a line for each key, with a tab and its value.
use Rattle.std.specs.Prelude.{ℕ, ◌==◌, Bool, false, true, not, ◌&&◌, ◌||◌, List, [], ◌∷◌, ◌++◌, length, map}
use Rattle.std.specs.Prelude.{filter, codes, bytes_eq, if◌then◌else◌}
use Rattle.std.specs.List.{join_with_byte, list_any, range_with_len}
use Rattle.hex.specs.Hex.{encode_lower}
use Rattle.hg_types.specs.declared.node.Node.{Node}
use Rattle.hg_types.specs.declared.phase.Phase.{Phase}
use Rattle.hg_types.specs.declared.phase.Phase.TheVariants.{Public, Draft, Secret}
use Rattle.hg_log.specs.Changeset.{Changeset}
use Rattle.hg_log.specs.HeadCount.{id_at}
use Rattle.hg_log.specs.Parents.{parents_of}
use Rattle.hg_phases.specs.Order.{phase_at, phase_of}
use Rattle.hg_keys.specs.Bookmarks.{Pairs}
use Rattle.hg_keys.specs.Known.{is_null}

-- a key, a tab, and its value
abbrev pub key_line : List ℕ → List ℕ → List ℕ
key_line key value = key ++ 9 ∷ value

-- ---- phases

-- a draft changeset
abbrev pub is_draft : Phase → Bool
is_draft Public = false
is_draft Draft = true
is_draft Secret = false

-- the changeset is draft, and none of its parents is
unfoldable pub is_draft_root : List Changeset → List Phase → ℕ → Bool
is_draft_root rows phases r = is_draft (phase_at phases r)
    && not (is_draft (phase_of phases (parents_of rows r).0))
    && not (is_draft (phase_of phases (parents_of rows r).1))

-- a changeset with the number of the phase draft
abbrev pub draft_line : List Changeset → ℕ → List ℕ
draft_line rows r = key_line (encode_lower (id_at rows r)) (codes "1")

-- each draft changeset of which no parent is draft, in the order of the changelog
abbrev pub draft_lines : List Changeset → List Phase → List (List ℕ)
draft_lines rows phases =
    map (draft_line rows) (filter (is_draft_root rows phases) (range_with_len 0 (length rows)))

-- and last, where the server publishes, that it does
abbrev pub publishing_lines : Bool → List (List ℕ)
publishing_lines publishing = if publishing then key_line (codes "publishing") (codes "True") ∷ [] else []

-- ---- bookmarks

-- a tab, a line feed and a carriage return would break a line
abbrev pub breaks_lines : ℕ → Bool
breaks_lines b = b == 9 || b == 10 || b == 13

-- a bookmark is reported unless it is on the null id, or its name would break the line
abbrev pub is_told : List ℕ × Node → Bool
is_told pair = not (is_null pair.1) && not (list_any breaks_lines pair.0)

-- the line of a bookmark: its name and the digits of its id
abbrev pub bookmark_line : List ℕ × Node → List ℕ
bookmark_line pair = key_line pair.0 (encode_lower pair.1.0)

-- the bookmarks that are reported, in ascending order of their names
abbrev pub bookmark_lines : Pairs → List (List ℕ)
bookmark_lines pairs = map bookmark_line (filter is_told pairs)

-- ---- namespaces

-- the lines of all namespaces, each with an empty value
abbrev pub namespace_lines : List (List ℕ)
namespace_lines = map (λ name. key_line name [])
    (codes "bookmarks" ∷ codes "namespaces" ∷ codes "obsolete" ∷ codes "phases" ∷ [])

-- the lines of a namespace; one that is not known has none
unfoldable pub listkeys_lines : List Changeset → List Phase → Pairs → Bool → List ℕ → List (List ℕ)
listkeys_lines rows phases pairs publishing namespace =
    if bytes_eq namespace (codes "phases") then draft_lines rows phases ++ publishing_lines publishing
    else if bytes_eq namespace (codes "bookmarks") then bookmark_lines pairs
    else if bytes_eq namespace (codes "namespaces") then namespace_lines else []

-- its text: the lines with a line feed between
unfoldable pub listkeys_text : List Changeset → List Phase → Pairs → Bool → List ℕ → List ℕ
listkeys_text rows phases pairs publishing namespace =
    join_with_byte 10 (listkeys_lines rows phases pairs publishing namespace)
