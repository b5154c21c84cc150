-- Where a stream may stand: before a block, before a chunk, and what it may have of them.
use Rattle.std.specs.Prelude.{◌≡◌, ℕ, ◌<◌, ◌≤◌, nat_lt, List, [], ◌++◌, length, if◌then◌else◌}
use Rattle.std.specs.List.{flat_map, AllByRecursion}
use Rattle.hg_types.specs.declared.limits.Limits.{Limits}
use Rattle.hg_types.specs.declared.part.Part.{Part}
use Rattle.hg_chunks.specs.Payload.{chunk_bytes, IsChunk, IsOpen, interruption}
use Rattle.hg_params.specs.declared.head.Head.{Head}
use Rattle.hg_stream.specs.declared.interrupting.Verdict.TheVariants.{Dropped}
use Rattle.hg_stream.specs.Block.{sized, IsPartialBlock}
use Rattle.hg_stream.specs.Interrupting.{verdict_of}
use Rattle.hg_stream.specs.Frames.{magic, max_header, Piece, piece_bytes, piece_data, IsPiece, joined}
use Rattle.hg_stream.specs.Frames.{HasHead, HasParts}

-- in the payload of a part with that head, after whole pieces with that data
pub record IsInPayload {A : Type 0} (limits : Limits) (bytes : List ℕ) (parts : List (Part A)) (head : Head A)
    (payload : List ℕ) : Type 0 where
  pub front : List ℕ
  pub has : HasParts limits front parts
  pub few : length parts < limits.parts
  pub header : List ℕ
  pub reads : HasHead header head
  pub pieces : List Piece
  pub each : AllByRecursion (IsPiece A limits) pieces
  pub payload_is : payload ≡ flat_map piece_data pieces
  pub fits : length payload ≤ limits.payload
  pub spelled : bytes ≡ front ++ (sized header ++ flat_map piece_bytes pieces)

-- after a size of -1
pub record IsInterrupted {A : Type 0} (limits : Limits) (bytes : List ℕ) (parts : List (Part A))
    (head : Head A) (payload : List ℕ) : Type 0 where
  pub front : List ℕ
  pub inside : IsInPayload limits front parts head payload
  pub spelled : bytes ≡ front ++ interruption

-- in the payload of an interrupting part, after whole chunks with that data
pub record IsInInner {A : Type 0} (limits : Limits) (bytes : List ℕ) (parts : List (Part A)) (head : Head A)
    (payload inner : List ℕ) : Type 0 where
  pub front : List ℕ
  pub interrupted : IsInterrupted limits front parts head payload
  pub header : List ℕ
  pub inner_head : Head A
  pub reads : HasHead header inner_head
  pub dropped : verdict_of inner_head ≡ Dropped
  pub chunks : List (List ℕ)
  pub each : AllByRecursion IsChunk chunks
  pub inner_is : inner ≡ joined chunks
  pub fits : length inner ≤ limits.payload
  pub spelled : bytes ≡ front ++ (sized header ++ flat_map chunk_bytes chunks)

-- the greatest header that may come next: none where all allowed parts are there
abbrev pub header_room : {A : Type 0} → Limits → List (Part A) → ℕ
header_room limits parts = if nat_lt (length parts) limits.parts then max_header else 0

-- a header comes next, of at most so many bytes: that of a part, or that of an interrupting part
pub data IsBeforeHeader {A : Type 0} (limits : Limits) (front : List ℕ) (parts : List (Part A))
    (most : ℕ) : Type 0 where
  of_part : HasParts limits front parts → most ≡ header_room limits parts →
      IsBeforeHeader limits front parts most
  of_interrupting : (head : Head A) (payload : List ℕ) → IsInterrupted limits front parts head payload →
      most ≡ max_header → IsBeforeHeader limits front parts most

-- a block comes next, of at most so many bytes: the stream parameters, or a header
pub data IsBeforeBlock {A : Type 0} (limits : Limits) (front : List ℕ) (parts : List (Part A))
    (most : ℕ) : Type 0 where
  params : front ≡ magic → parts ≡ [] → most ≡ limits.params → IsBeforeBlock limits front parts most
  header : IsBeforeHeader limits front parts most → IsBeforeBlock limits front parts most

-- a chunk comes next, after that data: of a part, or of an interrupting part
pub data IsBeforeChunk {A : Type 0} (limits : Limits) (front : List ℕ) (parts : List (Part A))
    (whole : List ℕ) : Type 0 where
  of_part : (head : Head A) → IsInPayload limits front parts head whole →
      IsBeforeChunk limits front parts whole
  of_interrupting : (head : Head A) (payload : List ℕ) → IsInInner limits front parts head payload whole →
      IsBeforeChunk limits front parts whole

-- The bytes hold no fault and no end yet. The parts are those of their whole frames.
pub data IsReading {A : Type 0} (limits : Limits) (bytes : List ℕ) (parts : List (Part A)) : Type 0 where
  at_magic : length bytes < 4 → parts ≡ [] → IsReading limits bytes parts
  at_block : (front rest : List ℕ) (most : ℕ) → IsBeforeBlock limits front parts most →
      IsPartialBlock most rest → bytes ≡ front ++ rest → IsReading limits bytes parts
  at_chunk : (front rest whole : List ℕ) → IsBeforeChunk limits front parts whole →
      IsOpen limits.payload whole rest → bytes ≡ front ++ rest → IsReading limits bytes parts
