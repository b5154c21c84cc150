-- What a reader of a payload has taken.
use Rattle.std.specs.Prelude.{◌≡◌, ℕ, ◌+◌, ◌<◌, ◌≤◌, ◌^◌, pos, List, [], ◌++◌, length}
use Rattle.std.specs.List.{flat_map, AllByRecursion}
use Rattle.hg_chunks.specs.declared.fault.ChunkFault.{ChunkFault}
use Rattle.hg_chunks.specs.declared.fault.ChunkFault.TheVariants.{BadSize, TooLarge, NoMemory}
use Rattle.hg_chunks.specs.declared.fault.Step.{Step}
use Rattle.hg_chunks.specs.declared.fault.Step.TheVariants.{More, Interrupt, Done}
use Rattle.hg_chunks.specs.declared.payload.Stage.{Stage}
use Rattle.hg_chunks.specs.declared.payload.Stage.TheVariants as stage
use Rattle.hg_chunks.specs.declared.payload.PayloadIn.{PayloadIn}
use Rattle.hg_chunks.specs.Size.{size_bytes}
use Rattle.hg_chunks.specs.Payload.{Item, item_bytes, item_data, IsItem, chunk_bytes, IsChunk, interruption}
use Rattle.hg_chunks.specs.Payload.{closing, IsOpen, IsBadSize, IsTooLarge}

-- inside a chunk of which `left` bytes are still to come
pub record IsInside (limit : ℕ) (got whole rest : List ℕ) (left : ℕ) : Type 0 where
  pub part : List ℕ
  pub size : ℕ
  pub left_positive : 0 < left
  pub sum : length part + left ≡ size
  pub small : size < 2 ^ 31
  pub allowed : length whole + size ≤ limit
  pub spelled : rest ≡ size_bytes (pos size) ++ part
  pub got_is : got ≡ whole ++ part

-- what stands at the end of the bytes where that fault is reported; where memory is refused, the payload might
-- have gone on
abbrev pub IsFault : ChunkFault → ℕ → List ℕ → List ℕ → Type 0
IsFault BadSize limit whole rest = IsBadSize rest
IsFault TooLarge limit whole rest = IsTooLarge limit whole rest
IsFault NoMemory limit whole rest = IsOpen limit whole rest

-- where the reader is in the bytes, with the data got and the bytes of a size so far
abbrev pub IsAt : Stage → ℕ → List ℕ → List ℕ → List ℕ → List ℕ → Type 0
IsAt stage.Size limit got size whole rest = (got ≡ whole) × (rest ≡ size)
IsAt (stage.Chunk left) limit got size whole rest = (size ≡ []) × IsInside limit got whole rest left.bytes
IsAt stage.Done limit got size whole rest = (got ≡ whole) × (rest ≡ closing)
IsAt stage.Handed limit got size whole rest = rest ≡ closing
IsAt (stage.Failed fault) limit got size whole rest = IsFault fault limit whole rest

-- the greatest number of bytes that the payload may have
abbrev pub limit_of : {A : Type 0} → PayloadIn A → ℕ
limit_of p = p.limit

-- the reader has taken items with the data `whole`, and then `rest`, which begins with no whole item
abbrev pub HasTakenItems : {A : Type 0} → PayloadIn A → List ℕ → List ℕ → Type 0
HasTakenItems p whole rest = (length whole ≤ limit_of p) × (length p.size < 4)
    × IsAt p.stage (limit_of p) p.«data».items p.size whole rest

-- the bytes that the reader has taken in all: whole items, and then a rest that begins with no whole item
pub record HasRead {A : Type 0} (p : PayloadIn A) (bytes : List ℕ) : Type 0 where
  pub items : List Item
  pub rest : List ℕ
  pub each : AllByRecursion IsItem items
  pub spelled : bytes ≡ flat_map item_bytes items ++ rest
  pub holds : HasTakenItems p (flat_map item_data items) rest

-- how far a reader is
pub data Phase : Type 0 where
  Reading : Phase
  Ended : Phase
  HandedOut : Phase
  Broken : ChunkFault → Phase

-- how far a reader is that stands at this stage
abbrev pub phase_of_stage : Stage → Phase
phase_of_stage stage.Size = Reading
phase_of_stage (stage.Chunk left) = Reading
phase_of_stage stage.Done = Ended
phase_of_stage stage.Handed = HandedOut
phase_of_stage (stage.Failed fault) = Broken fault

-- how far the reader is
abbrev pub phase_of : {A : Type 0} → PayloadIn A → Phase
phase_of p = phase_of_stage p.stage

-- how far a reader is that read on and stopped there
abbrev pub phase_after : Step → Phase
phase_after More = Reading
phase_after Interrupt = Reading
phase_after Done = Ended

-- what stands after the chunks where a call stopped, and the rest there
abbrev pub StopsAt : Step → ℕ → List ℕ → List ℕ → List ℕ → Type 0
StopsAt More limit whole tail rest = (tail ≡ []) × IsOpen limit whole rest
StopsAt Interrupt limit whole tail rest = (tail ≡ interruption) × (rest ≡ [])
StopsAt Done limit whole tail rest = (tail ≡ []) × (rest ≡ closing)

-- From items with the data `whole` and then `rest` and `bytes`, the reader took these chunks and `tail`, and
-- is left so.
pub record TakesChunks {A : Type 0} (p : PayloadIn A) (whole rest bytes tail after : List ℕ)
    (chunks : List (List ℕ)) : Type 0 where
  pub spelled : rest ++ bytes ≡ flat_map chunk_bytes chunks ++ (tail ++ after)
  pub each : AllByRecursion IsChunk chunks
  pub holds : HasTakenItems p (whole ++ flat_map (λ chunk. chunk) chunks) after

-- the same, and it stopped there
abbrev pub StopsWithin : {A : Type 0} → Step → PayloadIn A → List ℕ → List ℕ → List ℕ → Type 0
StopsWithin step p whole rest bytes = (chunks : List (List ℕ)) × (tail : List ℕ) × (after : List ℕ)
    × TakesChunks p whole rest bytes tail after chunks
    × StopsAt step (limit_of p) (whole ++ flat_map (λ chunk. chunk) chunks) tail after

-- the same, and it met a fault there
abbrev pub FailsWithin : {A : Type 0} → ChunkFault → PayloadIn A → List ℕ → List ℕ → List ℕ → Type 0
FailsWithin fault p whole rest bytes = (chunks : List (List ℕ)) × (after : List ℕ)
    × TakesChunks p whole rest bytes [] after chunks
    × IsFault fault (limit_of p) (whole ++ flat_map (λ chunk. chunk) chunks) after
