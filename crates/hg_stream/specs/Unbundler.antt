-- What a reader of bundles has taken.
use Rattle.std.specs.Prelude.{◌≡◌, ℕ, ◌+◌, ◌≤◌, List, [], ◌++◌, length}
use Rattle.hg_types.specs.declared.limits.Limits.{Limits}
use Rattle.hg_types.specs.declared.part.Part.{Part}
use Rattle.hg_chunks.specs.declared.payload.PayloadIn.{PayloadIn}
use Rattle.hg_chunks.specs.PayloadIn as chunks
use Rattle.hg_params.specs.declared.head.Head.{Head}
use Rattle.hg_stream.specs.declared.state.State.{State}
use Rattle.hg_stream.specs.declared.state.State.TheVariants.{Reading, Ended, Failed}
use Rattle.hg_stream.specs.declared.block.BlockIn.{BlockIn}
use Rattle.hg_stream.specs.declared.payloads.Level.{Level}
use Rattle.hg_stream.specs.declared.payloads.Level.TheVariants as level
use Rattle.hg_stream.specs.declared.payloads.Payloads.{Payloads}
use Rattle.hg_stream.specs.declared.unbundler.Stage.{Stage}
use Rattle.hg_stream.specs.declared.unbundler.Stage.TheVariants as stage
use Rattle.hg_stream.specs.declared.unbundler.Unbundler.{Unbundler}
use Rattle.hg_stream.specs.Block.{HoldsBlock}
use Rattle.hg_stream.specs.Frames.{magic, max_header, HasParts, IsWhole}
use Rattle.hg_stream.specs.Payloads.{reader_at}
use Rattle.hg_stream.specs.Places.{IsInPayload, IsInterrupted, IsInInner, header_room}
use Rattle.hg_stream.specs.Faults.{StateTells}

-- the state of a reader that stands at this stage
abbrev pub state_at : Stage → State
state_at stage.Magic = Reading
state_at stage.Params = Reading
state_at (stage.Header l) = Reading
state_at (stage.Payload l) = Reading
state_at stage.Ended = Ended
state_at (stage.Failed fault) = Failed fault

-- how far the reader is
abbrev pub state_of : {A : Type 0} → Unbundler A → State
state_of u = state_at u.stage

-- the limits of the reader
abbrev pub limits_of : {A : Type 0} → Unbundler A → Limits
limits_of u = u.limits

-- the finished parts that it has still to give
abbrev pub ready_of : {A : Type 0} → Unbundler A → List (Part A)
ready_of u = u.ready.items

-- a payload's reader that goes on, at the limit on payloads
pub record TakesPayload {A : Type 0} (limits : Limits) (p : PayloadIn A) (whole rest : List ℕ) : Type 0 where
  pub holds : chunks.HasTakenItems p whole rest
  pub limit : chunks.limit_of p ≡ limits.payload
  pub reading : chunks.phase_of p ≡ chunks.Reading

-- it waits for a block, of at most so many bytes
pub record Waits {A : Type 0} (b : BlockIn A) (most : ℕ) (rest : List ℕ) : Type 0 where
  pub holds : HoldsBlock b rest
  pub most_is : b.most ≡ most

-- what a reader holds besides its stage and the parts that it finished
pub record Fields (A : Type 0) : Type 0 where
  pub limits : Limits
  pub magic : List ℕ
  pub block : BlockIn A
  pub head : Head A
  pub payloads : Payloads A

-- what the reader holds, except its stage and the parts that are ready
abbrev pub fields_of : {A : Type 0} → Unbundler A → Fields A
fields_of u = record {
  limits = u.limits;
  magic = u.magic;
  block = u.block;
  head = u.head;
  payloads = u.payloads;
}

-- in the stream parameters, after the magic
pub record AtParams {A : Type 0} (u : Fields A) (bytes : List ℕ) (parts : List (Part A)) : Type 0 where
  pub rest : List ℕ
  pub waits : Waits u.block u.limits.params rest
  pub none : parts ≡ []
  pub spelled : bytes ≡ magic ++ rest

-- a payload that waits after whole pieces, while a part interrupts it
pub record IsPaused {A : Type 0} (limits : Limits) (head : Head A) (payload : PayloadIn A)
    (front : List ℕ) (parts : List (Part A)) : Type 0 where
  pub whole : List ℕ
  pub interrupted : IsInterrupted limits front parts head whole
  pub goes_on : TakesPayload limits payload whole []

-- in the payload of the part that interrupts it, after whole chunks with that data
pub record IsAside {A : Type 0} (limits : Limits) (head : Head A) (payload : PayloadIn A)
    (front : List ℕ) (parts : List (Part A)) (data_whole : List ℕ) : Type 0 where
  pub whole : List ℕ
  pub inside : IsInInner limits front parts head whole data_whole
  pub goes_on : TakesPayload limits payload whole []

-- a header comes next: that of a part, after whole frames, or that of a part that interrupts a payload
abbrev pub IsBeforeHeaderAt : {A : Type 0} → Level → Limits → Head A → PayloadIn A → List ℕ → List (Part A)
    → Type 0
IsBeforeHeaderAt level.Part limits head payload front parts = HasParts limits front parts
IsBeforeHeaderAt level.Interrupting limits head payload front parts =
    IsPaused limits head payload front parts

-- the greatest header that may come next
abbrev pub room_at : {A : Type 0} → Level → Limits → List (Part A) → ℕ
room_at level.Part limits parts = header_room limits parts
room_at level.Interrupting limits parts = max_header

-- in the payload of such a part, after whole pieces or chunks with that data
abbrev pub IsInsideAt : {A : Type 0} → Level → Limits → Head A → PayloadIn A → List ℕ → List (Part A)
    → List ℕ → Type 0
IsInsideAt level.Part limits head payload front parts whole = IsInPayload limits front parts head whole
IsInsideAt level.Interrupting limits head payload front parts whole =
    IsAside limits head payload front parts whole

-- in a header size or a header
pub record AtHeader {A : Type 0} (l : Level) (u : Fields A) (bytes : List ℕ) (parts : List (Part A))
    : Type 0 where
  pub front : List ℕ
  pub rest : List ℕ
  pub before : IsBeforeHeaderAt l u.limits u.head u.payloads.part front parts
  pub waits : Waits u.block (room_at l u.limits parts) rest
  pub spelled : bytes ≡ front ++ rest

-- in a payload
pub record AtPayload {A : Type 0} (l : Level) (u : Fields A) (bytes : List ℕ) (parts : List (Part A))
    : Type 0 where
  pub front : List ℕ
  pub rest : List ℕ
  pub whole : List ℕ
  pub inside : IsInsideAt l u.limits u.head u.payloads.part front parts whole
  pub goes_on : TakesPayload u.limits (reader_at l u.payloads) whole rest
  pub spelled : bytes ≡ front ++ rest

-- in the magic
pub record AtMagic {A : Type 0} (u : Fields A) (bytes : List ℕ) (parts : List (Part A)) : Type 0 where
  pub taken : bytes ≡ u.magic
  pub short : length bytes ≤ 3
  pub waits : Waits u.block u.limits.params []
  pub none : parts ≡ []

-- what the fields of a reader hold at each stage, of the bytes that it took and the parts that it gave
abbrev pub IsAtStage : {A : Type 0} → Stage → Fields A → List ℕ → List (Part A) → Type 0
IsAtStage stage.Magic u bytes parts = AtMagic u bytes parts
IsAtStage stage.Params u bytes parts = AtParams u bytes parts
IsAtStage (stage.Header l) u bytes parts = AtHeader l u bytes parts
IsAtStage (stage.Payload l) u bytes parts = AtPayload l u bytes parts
IsAtStage stage.Ended u bytes parts = IsWhole u.limits bytes parts
IsAtStage (stage.Failed fault) u bytes parts = ⊥

-- These are all parts that the reader has finished, by its own count of those that may still come.
abbrev pub HasFinished : {A : Type 0} → Unbundler A → List (Part A) → Type 0
HasFinished u parts = u.parts_left + length parts ≡ u.limits.parts

-- The reader, which has not failed, took these bytes, whose whole frames have these parts.
pub record IsAt {A : Type 0} (u : Unbundler A) (bytes : List ℕ) (parts : List (Part A)) : Type 0 where
  pub left : HasFinished u parts
  pub place : IsAtStage u.stage (fields_of u) bytes parts

-- ---- the whole

-- a reader that goes on knows where it is, and how many bytes may still come; one that has ended or failed
-- has lost no part that it finished
abbrev pub KeepsFinished : {A : Type 0} → State → Unbundler A → List ℕ → List (Part A) → Type 0
KeepsFinished Reading u bytes parts = IsAt u bytes parts × (u.stream_left + length bytes ≡ u.limits.stream)
KeepsFinished Ended u bytes parts = HasFinished u parts
KeepsFinished (Failed fault) u bytes parts = HasFinished u parts

-- The reader took these bytes and gave these parts.
pub record HoldsBundle {A : Type 0} (u : Unbundler A) (given : List (Part A)) (bytes : List ℕ) : Type 0 where
  pub keeps : KeepsFinished (state_of u) u bytes (given ++ ready_of u)
  pub tells : StateTells (state_of u) (limits_of u) bytes (given ++ ready_of u)

-- a reader that took some bytes, gave some parts, and goes on
abbrev pub IsStillReading : {A : Type 0} → Unbundler A → Type 0
IsStillReading {A} u = (given : List (Part A)) × (bytes : List ℕ) × HoldsBundle u given bytes
    × (state_of u ≡ Reading)
