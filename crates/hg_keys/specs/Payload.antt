-- The payload of the parts `bookmarks` and `check:bookmarks`: its entries, read from left to right.
use Rattle.std.specs.Prelude.{◌≡◌, ◌≢◌, ◌↔◌, ◌<◌, ◌^◌, ℕ, zero, suc, List, [], ◌∷◌, ◌++◌, length, take, drop}
use Rattle.std.specs.Prelude.{replicate, Option, Some, None, Result, Ok, Err, nat_lt, bytes_eq, if◌then◌else◌}
use Rattle.std.specs.List.{flat_map, AllByRecursion}
use Rattle.std.specs.Int.{w16, to_be_bytes, from_be_bytes}
use Rattle.hg_types.specs.Bytes.{IsBytes}
use Rattle.hg_types.specs.declared.node.Node.{Node}
use Rattle.hg_keys.specs.declared.fault.BookmarkFault.{BookmarkFault}
use Rattle.hg_keys.specs.declared.fault.BookmarkFault.TheVariants.{Short, NoMemory}

-- a name, after the changeset that it is on, or none
abbrev pub Entry : Type 0
Entry = Option Node × List ℕ

-- the id that stands for none
abbrev pub no_node : List ℕ
no_node = replicate 20 255

-- the 20 bytes for what a bookmark is on; those of none where it is deleted
abbrev pub target_bytes : Option Node → List ℕ
target_bytes None = no_node
target_bytes (Some node) = node.0

-- the id in 20 bytes, the size of the name in two, the most significant first, and the name
abbrev pub entry_bytes : Entry → List ℕ
entry_bytes entry = target_bytes entry.0 ++ (to_be_bytes w16 (length entry.1) ++ entry.1)

-- the bytes are those of these entries, joined
abbrev pub AreEntries : List ℕ → List Entry → Type 0
AreEntries bytes entries = bytes ≡ flat_map entry_bytes entries

-- what an entry may be: an id of 20 bytes that is not the one of none, and a name whose size two bytes hold
abbrev pub IsTarget : Option Node → Type 0
IsTarget None = Unit {0}
IsTarget (Some node) = (length node.0 ≡ 20) × (node.0 ≢ no_node)

-- an entry that can be written: an id, and a name whose size fits two bytes
pub record IsEntry (entry : Entry) : Type 0 where
  pub id : IsTarget entry.0
  pub name : length entry.1 < 2 ^ 16

-- what 20 bytes say that a bookmark is on
abbrev pub target_in : List ℕ → Option Node
target_in id = if bytes_eq id no_node then None else Some (record { 0 = id })

-- a name of that size at the front, and the bytes after it
unfoldable pub name_at : Option Node → ℕ → List ℕ → Option (Entry × List ℕ)
name_at target size bytes = if nat_lt (length bytes) size then None
    else Some ((target, take size bytes), drop size bytes)

-- the size of a name, and the name
unfoldable pub sized_at : Option Node → List ℕ → Option (Entry × List ℕ)
sized_at target bytes = if nat_lt (length bytes) 2 then None
    else name_at target (from_be_bytes w16 (take 2 bytes)) (drop 2 bytes)

-- the first entry, and the bytes after it, unless the bytes end inside it
unfoldable pub entry_at : List ℕ → Option (Entry × List ℕ)
entry_at bytes = if nat_lt (length bytes) 20 then None
    else sized_at (target_in (take 20 bytes)) (drop 20 bytes)

-- entries before others
abbrev pub with_front : List Entry → Option (List Entry) → Option (List Entry)
with_front front None = None
with_front front (Some entries) = Some (front ++ entries)

-- the entry, and the others after it, where all can be read
abbrev pub and_then : Option (Entry × List ℕ) → (List ℕ → Option (List Entry)) → Option (List Entry)
and_then None others = None
and_then (Some (entry, rest)) others = with_front (entry ∷ []) (others rest)

-- at most so many entries, up to the end of the bytes
unfoldable pub entries_within : ℕ → List ℕ → Option (List Entry)
entries_within zero bytes = Some []
entries_within (suc most) [] = Some []
entries_within (suc most) (byte ∷ bytes) = and_then (entry_at (byte ∷ bytes)) (entries_within most)

-- the entries of a payload, unless it ends inside one; none is empty, so there are no more of them than bytes
unfoldable pub entries_of : List ℕ → Option (List Entry)
entries_of bytes = entries_within (length bytes) bytes

-- reading gives a list of entries just where the payload is their bytes, joined, and each may be one
abbrev pub ReadingIsGrammar : Type 0
ReadingIsGrammar =
    (bytes : List ℕ) (entries : List Entry) → IsBytes bytes → (entries_of bytes ≡ Some entries) ↔
    (AreEntries bytes entries × AllByRecursion IsEntry entries)

-- what a function returned is what reading gives, unless memory was refused
abbrev pub PayloadGives : Result (List Entry) BookmarkFault → Option (List Entry) → Type 0
PayloadGives (Ok entries) read = read ≡ Some entries
PayloadGives (Err Short) read = read ≡ None
PayloadGives (Err NoMemory) read = Unit {0}
