-- Marker data, read from left to right: its markers, or its first fault.
use Rattle.std.specs.Prelude.{◌≡◌, ◌*◌, ℕ, zero, suc, List, [], ◌∷◌, ◌++◌, length, take, drop, map, Result}
use Rattle.std.specs.Prelude.{Ok, Err, nat_lt, ◌==◌, if◌then◌else◌}
use Rattle.std.specs.List.{list_any}
use Rattle.std.specs.Int.{w32, from_be_bytes}
use Rattle.std.specs.Simd.{first_chunks}
use Rattle.hg_types.specs.declared.node.Node.{Node}
use Rattle.hg_types.specs.NullId.{null_node}
use Rattle.hg_obs.specs.declared.marker.Marker.{Marker}
use Rattle.hg_obs.specs.declared.fault.MarkerFault.{MarkerFault}
use Rattle.hg_obs.specs.declared.fault.MarkerFault.TheVariants.{BadVersion, Short, BadMetadata, NullSuccessor}
use Rattle.hg_obs.specs.declared.fault.MarkerFault.TheVariants.{NoMemory}
use Rattle.hg_obs.specs.Marker.{is_metadata}
use Rattle.hg_obs.specs.Same.{same_node}

infixl 10 ◌>>=◌
abbrev pub ◌>>=◌ : {X Y : Type 0} → Result X MarkerFault → (X → Result Y MarkerFault) → Result Y MarkerFault
(Ok x) >>= f = f x
(Err fault) >>= f = Err fault

-- what a function answered, unless memory was refused
abbrev pub MarkerFails : {Y : Type 0} → MarkerFault → Result Y MarkerFault → Type 0
MarkerFails BadVersion read = read ≡ Err BadVersion
MarkerFails Short read = read ≡ Err Short
MarkerFails BadMetadata read = read ≡ Err BadMetadata
MarkerFails NullSuccessor read = read ≡ Err NullSuccessor
MarkerFails NoMemory read = Unit {0}

-- What a function returned, seen by view, is what reading gives, unless memory was refused.
abbrev pub MarkerGives : {X Y : Type 0} → (X → Y) → Result X MarkerFault → Result Y MarkerFault → Type 0
MarkerGives view (Ok x) read = read ≡ Ok (view x)
MarkerGives view (Err fault) read = MarkerFails fault read

-- A field is a value, and the bytes after it.
unfoldable pub byte_at : List ℕ → Result (ℕ × List ℕ) MarkerFault
byte_at [] = Err Short
byte_at (byte ∷ rest) = Ok (byte, rest)

-- a number of four bytes at the front, the high byte first, and what is after it
unfoldable pub number_at : List ℕ → Result (ℕ × List ℕ) MarkerFault
number_at bytes = if nat_lt (length bytes) 4 then Err Short
    else Ok (from_be_bytes w32 (take 4 bytes), drop 4 bytes)

-- so many bytes at the front, and what is after them
unfoldable pub bytes_at : ℕ → List ℕ → Result (List ℕ × List ℕ) MarkerFault
bytes_at count bytes = if nat_lt (length bytes) count then Err Short
    else Ok (take count bytes, drop count bytes)

-- an id of these bytes
abbrev pub node_of : List ℕ → Node
node_of id = record { 0 = id }

-- an id at the front, and what is after it
unfoldable pub node_at : List ℕ → Result (Node × List ℕ) MarkerFault
node_at bytes = if nat_lt (length bytes) 20 then Err Short else Ok (node_of (take 20 bytes), drop 20 bytes)

-- so many ids at the front, and what is after them
unfoldable pub nodes_at : ℕ → List ℕ → Result (List Node × List ℕ) MarkerFault
nodes_at count bytes = do
  ids ← bytes_at (count * 20) bytes
  Ok (map node_of (first_chunks 20 count ids.0), ids.1)

-- what a marker is made of
pub record Fields : Type 0 where
  pub successors : List Node
  pub flags : ℕ
  pub predecessor : Node
  pub meta : List ℕ

-- the marker of these fields
abbrev pub kept_of : {A : Type 0} → Fields → Marker A
kept_of f = record { successors = f.successors; flags = f.flags; predecessor = f.predecessor; meta = f.meta }

-- the fields of a marker, good or not
unfoldable pub fields_at : List ℕ → Result (Fields × List ℕ) MarkerFault
fields_at bytes = do
  count ← byte_at bytes
  size ← number_at count.1
  flags ← byte_at size.1
  predecessor ← node_at flags.1
  successors ← nodes_at count.0 predecessor.1
  meta ← bytes_at size.0 successors.1
  Ok (
    record {
      successors = successors.0;
      flags = flags.0;
      predecessor = predecessor.0;
      meta = meta.0;
    },
    meta.1,
  )

-- the marker that the fields give, where its metadata has a form and no successor is null
unfoldable pub checked : {A : Type 0} → Fields × List ℕ → Result (Marker A × List ℕ) MarkerFault
checked x = if is_metadata x.0.meta then (if list_any (same_node null_node) x.0.successors
    then Err NullSuccessor else Ok (kept_of x.0, x.1)) else Err BadMetadata

-- the first marker, and what is after it
unfoldable pub marker_at : {A : Type 0} → List ℕ → Result (Marker A × List ℕ) MarkerFault
marker_at bytes = fields_at bytes >>= checked

-- markers before others
abbrev pub with_front : {A : Type 0} → List (Marker A) → Result (List (Marker A)) MarkerFault →
    Result (List (Marker A)) MarkerFault
with_front front read = read >>= λ markers. Ok (front ++ markers)

-- at most so many markers, up to the end of the bytes
unfoldable pub markers_within : {A : Type 0} → ℕ → List ℕ → Result (List (Marker A)) MarkerFault
markers_within zero bytes = Ok []
markers_within (suc most) [] = Ok []
markers_within (suc most) (byte ∷ bytes) =
    marker_at (byte ∷ bytes) >>= λ x. with_front (x.0 ∷ []) (markers_within most x.1)

-- no marker is empty, so there are no more of them than bytes
unfoldable pub markers_at : {A : Type 0} → List ℕ → Result (List (Marker A)) MarkerFault
markers_at bytes = markers_within (length bytes) bytes

-- the markers of marker data, or its first fault
unfoldable pub markers_of : {A : Type 0} → List ℕ → Result (List (Marker A)) MarkerFault
markers_of [] = Err Short
markers_of (version ∷ bytes) = if version == 0 then markers_at bytes else Err BadVersion
