-- The grammar of a bundle: the magic, the stream parameters, frames and the end mark, joined
-- (`internals.bundle2`, "Stream Format").
use Rattle.std.specs.Prelude.{◌≡◌, ℕ, ◌<◌, ◌≤◌, ◌^◌, List, [], ◌∷◌, ◌++◌, length}
use Rattle.std.specs.List.{flat_map, AllByRecursion}
use Rattle.hg_types.specs.declared.limits.Limits.{Limits}
use Rattle.hg_types.specs.declared.part.Part.{Part}
use Rattle.hg_chunks.specs.Payload.{chunk_bytes, IsChunk, interruption, closing}
use Rattle.hg_params.specs.declared.head.Head.{Head}
use Rattle.hg_params.specs.declared.stream_params.StreamParam.{StreamParam}
use Rattle.hg_params.specs.Header.{IsHeader}
use Rattle.hg_params.specs.StreamParams.{AreStreamParams}
use Rattle.hg_stream.specs.Block.{sized}
use Rattle.hg_stream.specs.declared.interrupting.Verdict.TheVariants.{Dropped}
use Rattle.hg_stream.specs.Interrupting.{verdict_of}

-- `HG20`
abbrev pub magic : List ℕ
magic = 72 ∷ 71 ∷ 50 ∷ 48 ∷ []

-- the size of the greatest well-formed header
abbrev pub max_header : ℕ
max_header = 261382

-- ---- what a payload is made of

-- an interrupting part: its header, and the chunks of its payload
pub record Inner : Type 0 where
  pub header : List ℕ
  pub chunks : List (List ℕ)

-- a chunk, an interruption without a part, or one with a part
pub data Piece : Type 0 where
  Chunk : List ℕ → Piece
  Pause : Piece
  Break : Inner → Piece

-- the chunks, joined
abbrev pub joined : List (List ℕ) → List ℕ
joined chunks = flat_map (λ chunk. chunk) chunks

-- the bytes of a part that interrupts a payload: its header with its size, its chunks, and the closing size
abbrev pub inner_bytes : Inner → List ℕ
inner_bytes inner = sized inner.header ++ (flat_map chunk_bytes inner.chunks ++ closing)

-- the bytes of a piece: a chunk, an interruption without a part, or one with a part
abbrev pub piece_bytes : Piece → List ℕ
piece_bytes (Chunk chunk) = chunk_bytes chunk
piece_bytes Pause = interruption ++ closing
piece_bytes (Break inner) = interruption ++ inner_bytes inner

-- the data of a payload is that of its chunks
abbrev pub piece_data : Piece → List ℕ
piece_data (Chunk chunk) = chunk
piece_data Pause = []
piece_data (Break inner) = []

-- a header that is allowed, and what it says
pub record HasHead {A : Type 0} (header : List ℕ) (head : Head A) : Type 0 where
  pub some : 0 < length header
  pub small : length header ≤ max_header
  pub reads : IsHeader header head

-- an interrupting part that is read and dropped
pub record IsInner (A : Type 0) (limits : Limits) (inner : Inner) : Type 0 where
  pub head : Head A
  pub header : HasHead inner.header head
  pub dropped : verdict_of head ≡ Dropped
  pub each : AllByRecursion IsChunk inner.chunks
  pub fits : length (joined inner.chunks) ≤ limits.payload

-- a piece that can be written
abbrev pub IsPiece : (A : Type 0) → Limits → Piece → Type 0
IsPiece A limits (Chunk chunk) = IsChunk chunk
IsPiece A limits Pause = Unit {0}
IsPiece A limits (Break inner) = IsInner A limits inner

-- ---- frames

-- a part as a bundle carries it: its header, and the pieces of its payload
pub record Frame : Type 0 where
  pub header : List ℕ
  pub pieces : List Piece

-- the bytes of a part: its header with its size, the pieces of its payload, and the closing size
abbrev pub frame_bytes : Frame → List ℕ
frame_bytes frame = sized frame.header ++ (flat_map piece_bytes frame.pieces ++ closing)

-- the part of a head and a payload
abbrev pub part_of : {A : Type 0} → Head A → List ℕ → Part A
part_of head payload = record { kind = head.kind; id = head.id; params = head.params; payload = payload }

-- the frame carries that part
pub record IsFrame {A : Type 0} (limits : Limits) (frame : Frame) (part : Part A) : Type 0 where
  pub head : Head A
  pub header : HasHead frame.header head
  pub each : AllByRecursion (IsPiece A limits) frame.pieces
  pub part_is : part ≡ part_of head (flat_map piece_data frame.pieces)
  pub fits : length part.payload ≤ limits.payload

-- one part for each frame, in order
abbrev pub AreFrames : {A : Type 0} → Limits → List Frame → List (Part A) → Type 0
AreFrames limits [] [] = Unit {0}
AreFrames limits [] (part ∷ parts) = ⊥
AreFrames limits (frame ∷ frames) [] = ⊥
AreFrames limits (frame ∷ frames) (part ∷ parts) = IsFrame limits frame part × AreFrames limits frames parts

-- ---- bundles

-- the magic, the stream parameters and whole frames, with these parts
pub record HasParts {A : Type 0} (limits : Limits) (bytes : List ℕ) (parts : List (Part A)) : Type 0 where
  pub block : List ℕ
  pub params : List (StreamParam A)
  pub frames : List Frame
  pub block_fits : length block ≤ limits.params
  pub block_small : length block < 2 ^ 31
  pub block_read : AreStreamParams block params
  pub are : AreFrames limits frames parts
  pub few : length parts ≤ limits.parts
  pub spelled : bytes ≡ (magic ++ sized block) ++ flat_map frame_bytes frames

-- the same, and the end mark
pub record IsWhole {A : Type 0} (limits : Limits) (bytes : List ℕ) (parts : List (Part A)) : Type 0 where
  pub front : List ℕ
  pub has : HasParts limits front parts
  pub spelled : bytes ≡ front ++ closing

-- a bundle with these parts, within the limit on its bytes
abbrev pub IsBundle : {A : Type 0} → Limits → List ℕ → List (Part A) → Type 0
IsBundle limits bytes parts = IsWhole limits bytes parts × (length bytes ≤ limits.stream)
