-- A changegroup, read from left to right: its entries, or its first fault.
use Rattle.std.specs.Prelude.{ℕ, zero, suc, ℤ, pos, negsuc, ◌-◌, List, [], ◌∷◌, length, take, drop, Option}
use Rattle.std.specs.Prelude.{Some, None, unwrap_or, Result, Ok, Err, nat_lt, nat_le, ◌==◌, if◌then◌else◌}
use Rattle.std.specs.Int.{w32, from_be_bytes, cast_signed}
use Rattle.std.specs.Str.{bytes_eq}
use Rattle.hg_types.specs.declared.node.Node.{Node}
use Rattle.hg_types.specs.declared.entry.Entry.{Entry}
use Rattle.hg_cgroup.specs.declared.fault.GroupFault.{GroupFault}
use Rattle.hg_cgroup.specs.declared.fault.GroupFault.TheVariants.{UnknownVersion, BadLength, ShortHeader}
use Rattle.hg_cgroup.specs.declared.fault.GroupFault.TheVariants.{Truncated, Leftover}
use Rattle.hg_cgroup.specs.declared.version.Version.{Version}
use Rattle.hg_cgroup.specs.declared.version.Version.TheVariants.{V01, V02}
use Rattle.hg_cgroup.specs.Changeset.{name_of, header_size}

infixl 10 ◌>>=◌
abbrev pub ◌>>=◌ : {X Y : Type 0} → Result X GroupFault → (X → Result Y GroupFault) → Result Y GroupFault
(Ok x) >>= f = f x
(Err fault) >>= f = Err fault

-- A chunk is its content, where it has one, and the bytes after it.
abbrev pub ReadChunk : Type 0
ReadChunk = Option (List ℕ) × List ℕ

-- a content of that size, which is to have at least so many bytes
unfoldable pub content_at : ℕ → ℕ → List ℕ → Result ReadChunk GroupFault
content_at least size bytes = if nat_lt size least then Err ShortHeader
    else (if nat_lt (length bytes) size then Err Truncated else Ok (Some (take size bytes), drop size bytes))

-- what is after that length
unfoldable pub sized_at : ℕ → ℤ → List ℕ → Result ReadChunk GroupFault
sized_at least (pos size) bytes = if size == 0 then Ok (None, bytes)
    else (if nat_le size 4 then Err BadLength else content_at least (size - 4) bytes)
sized_at least (negsuc below) bytes = Err BadLength

-- the first chunk of the bytes and what is after it, or the first fault
unfoldable pub chunk_at : ℕ → List ℕ → Result ReadChunk GroupFault
chunk_at least bytes = if nat_lt (length bytes) 4 then Err Truncated
    else sized_at least (cast_signed w32 (from_be_bytes w32 (take 4 bytes))) (drop 4 bytes)

-- A group is the contents of its chunks, and the bytes after the empty one.
abbrev pub ReadGroup : Type 0
ReadGroup = List (List ℕ) × List ℕ

-- a group of which one chunk was read, and which goes on so where that has a content
abbrev pub after_chunk : ReadChunk → Result ReadGroup GroupFault → Result ReadGroup GroupFault
after_chunk (None, rest) others = Ok ([], rest)
after_chunk (Some content, rest) others = others >>= λ group. Ok (content ∷ group.0, group.1)

-- of at most so many chunks
unfoldable pub group_within : ℕ → ℕ → List ℕ → Result ReadGroup GroupFault
group_within zero least bytes = Err Truncated
group_within (suc most) least bytes =
    chunk_at least bytes >>= λ chunk. after_chunk chunk (group_within most least chunk.1)

-- no chunk has fewer than four bytes, so there are no more of them than bytes
unfoldable pub group_at : ℕ → List ℕ → Result ReadGroup GroupFault
group_at least bytes = group_within (length bytes) least bytes

-- files of which a name was read, or the closing chunk
abbrev pub after_name : ReadChunk → Result (List ℕ) GroupFault → Result (List ℕ) GroupFault
after_name (None, rest) others = Ok rest
after_name (Some name, rest) others = others

-- the bytes after at most so many files and the closing chunk
unfoldable pub files_within : ℕ → List ℕ → Result (List ℕ) GroupFault
files_within zero bytes = Err Truncated
files_within (suc most) bytes =
    chunk_at 1 bytes >>= λ name. after_name name (group_at 1 name.1 >>= λ group. files_within most group.1)

-- the bytes after the files and the chunk that closes them, or the first fault
unfoldable pub files_at : List ℕ → Result (List ℕ) GroupFault
files_at bytes = files_within (length bytes) bytes

-- the id that stands there
abbrev pub id_at : ℕ → List ℕ → Node
id_at start content = record { 0 = take 20 (drop start content) }

-- 01: the node of the changeset before, else the first parent. 02: the fourth id.
abbrev pub base_of : Version → Option Node → List ℕ → Node
base_of V01 before content = unwrap_or before (id_at 20 content)
base_of V02 before content = id_at 60 content

-- the entry of a changeset's content, after one with that node where there is one
abbrev pub entry_of : {A : Type 0} → Version → Option Node → List ℕ → Entry A
entry_of version before content = record {
  node = id_at 0 content;
  p1 = id_at 20 content;
  p2 = id_at 40 content;
  base = base_of version before content;
  delta = drop (header_size version) content;
}

-- the entries of these contents, in order
abbrev pub entries_behind : {A : Type 0} → Version → Option Node → List (List ℕ) → List (Entry A)
entries_behind version before [] = []
entries_behind version before (content ∷ contents) =
    entry_of version before content ∷ entries_behind version (Some (id_at 0 content)) contents

-- the value, where the bytes have ended
abbrev pub ended : {X : Type 0} → List ℕ → X → Result X GroupFault
ended [] x = Ok x
ended (byte ∷ bytes) x = Err Leftover

-- the changesets, the manifests, the files and the closing chunk, and nothing after it
unfoldable pub entries_at : {A : Type 0} → Version → List ℕ → Result (List (Entry A)) GroupFault
entries_at version payload = do
  changesets ← group_at (header_size version) payload
  manifests ← group_at 1 changesets.1
  rest ← files_at manifests.1
  ended rest (entries_behind version None changesets.0)

-- the version of that name
unfoldable pub version_at : List ℕ → Result Version GroupFault
version_at name = if bytes_eq name (name_of V01) then Ok V01
    else (if bytes_eq name (name_of V02) then Ok V02 else Err UnknownVersion)

-- the entries of a changegroup, or its first fault
unfoldable pub outcome_of : {A : Type 0} → List ℕ → List ℕ → Result (List (Entry A)) GroupFault
outcome_of name payload = version_at name >>= λ version. entries_at version payload
