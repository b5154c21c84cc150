-- What one step of a reader of bundles makes of it.
use Rattle.std.specs.Prelude.{◌≡◌, ℕ, ◌+◌, ◌≤◌, ◌<◌, List, [], ◌∷◌, ◌++◌, length, take, Result, IfOk, IfErr}
use Rattle.std.specs.Prelude.{OnErr}
use Rattle.hg_types.specs.declared.limits.Limits.{Limits}
use Rattle.hg_types.specs.declared.part.Part.{Part}
use Rattle.hg_chunks.specs.Payload.{interruption, closing}
use Rattle.hg_stream.specs.declared.fault.StreamFault.{StreamFault}
use Rattle.hg_stream.specs.declared.fault.StreamFault.TheVariants.{NoMemory}
use Rattle.hg_stream.specs.declared.state.State.TheVariants.{Reading}
use Rattle.hg_stream.specs.declared.payloads.Level.{Level}
use Rattle.hg_stream.specs.declared.unbundler.Unbundler.{Unbundler}
use Rattle.hg_stream.specs.Block.{sized, IsBlock}
use Rattle.hg_stream.specs.Faults.{Decides, IsFault}
use Rattle.hg_stream.specs.Frames.{part_of}
use Rattle.hg_stream.specs.Payloads.{reader_at}
use Rattle.hg_stream.specs.Places.{IsInPayload, IsReading}
use Rattle.hg_stream.specs.Unbundler.{state_of, limits_of, ready_of, HasFinished, IsAt, HoldsBundle, TakesPayload}
use Rattle.hg_stream.specs.Unbundler.{IsBeforeHeaderAt, IsInsideAt, room_at}

-- it finished these parts
pub record Finishes {A : Type 0} (u v : Unbundler A) (bytes : List ℕ)
    (parts added : List (Part A)) : Type 0 where
  pub ready : ready_of v ≡ ready_of u ++ added
  pub at : IsAt v bytes (parts ++ added)

-- from u it came to v by these bytes
abbrev pub Moves : {A : Type 0} → Unbundler A → Unbundler A → List ℕ → Type 0
Moves {A} u v taken = (bytes : List ℕ) (parts : List (Part A)) → IsAt u bytes parts → (added : List (Part A))
    × Finishes u v (bytes ++ taken) parts added

-- it finished no part, and lost none
abbrev pub KeepsParts : {A : Type 0} → Unbundler A → Unbundler A → Type 0
KeepsParts u v = (ready_of v ≡ ready_of u) × (v.parts_left ≡ u.parts_left)

-- the last byte decides the fault by the grammar, or memory was refused
abbrev pub BreaksBundle : {A : Type 0} → StreamFault → Limits → List ℕ → List (Part A) → Type 0
BreaksBundle NoMemory limits bytes parts = IsReading limits bytes parts
BreaksBundle fault limits bytes parts = Decides fault limits bytes parts

-- from u it met that fault by these bytes
abbrev pub MeetsFault : {A : Type 0} → StreamFault → Unbundler A → List ℕ → Type 0
MeetsFault {A} fault u taken = (bytes : List ℕ) (parts : List (Part A)) → IsAt u bytes parts →
    BreaksBundle fault u.limits (bytes ++ taken) parts

-- One step, by its answer: how many bytes of a piece it took, some at least, and what it came to by them; or
-- the fault that it met in the piece, with no part finished or lost.
pub record Steps {A : Type 0} (u v : Unbundler A) (piece : List ℕ)
    (answer : Result ℕ StreamFault) : Type 0 where
  pub count : IfOk answer (λ n. n ≤ length piece)
  pub some : IfOk answer (λ n. 0 < n)
  pub ok : IfOk answer (λ n. Moves u v (take n piece))
  pub err : IfErr answer (λ fault. (place : ℕ) × (place ≤ length piece) × MeetsFault fault u (take place piece))
  pub kept : OnErr answer (KeepsParts u v)
  pub limits : limits_of v ≡ limits_of u
  pub stream_left : v.stream_left ≡ u.stream_left

-- from u it met that fault by these bytes, and may have finished some parts before, which it keeps
abbrev pub Halts : {A : Type 0} → StreamFault → Unbundler A → Unbundler A → List ℕ → Type 0
Halts {A} fault u v taken = (bytes : List ℕ) (parts : List (Part A)) → IsAt u bytes parts
    → (added : List (Part A)) × (ready_of v ≡ ready_of u ++ added) × HasFinished v (parts ++ added)
    × BreaksBundle fault u.limits (bytes ++ taken) (parts ++ added)

-- what a reader that is fed can meet: the fault that the last byte decides, or out of memory within the
-- limit on the stream
abbrev pub Meets : {A : Type 0} → StreamFault → Limits → List ℕ → List (Part A) → Type 0
Meets NoMemory limits bytes parts = IsReading limits bytes parts × (length bytes ≤ limits.stream)
Meets fault limits bytes parts = IsFault limits bytes parts fault

-- from u, which took as many bytes as the stream may have, it met that fault by these bytes, and finished
-- nothing
abbrev pub PassesBy : {A : Type 0} → StreamFault → Unbundler A → Unbundler A → List ℕ → Type 0
PassesBy {A} fault u v taken = (bytes : List ℕ) (parts : List (Part A)) → IsAt u bytes parts →
    state_of u ≡ Reading → length bytes ≡ u.limits.stream
    → (ready_of v ≡ ready_of u) × HasFinished v parts × Meets fault u.limits (bytes ++ taken) parts

-- from u, which went on, it came to v by these bytes
abbrev pub FeedsBundle : {A : Type 0} → Unbundler A → Unbundler A → List ℕ → Type 0
FeedsBundle {A} u v taken = (given : List (Part A)) (bytes : List ℕ) → state_of u ≡ Reading → HoldsBundle u given bytes →
    HoldsBundle v given (bytes ++ taken)

-- ---- parts of steps

-- a part was finished after whole pieces with that data, and the next header is waited for
abbrev pub Finished : {A : Type 0} → Unbundler A → Unbundler A → List ℕ → Type 0
Finished {A} u v payload = (front : List ℕ) (parts : List (Part A)) →
    IsInPayload u.limits front parts u.head payload → u.parts_left + length parts ≡ u.limits.parts
    → Finishes u v (front ++ closing) parts (part_of u.head payload ∷ [])

-- a whole block was read as a header, and the payload is next
abbrev pub Opened : {A : Type 0} → Level → Unbundler A → Unbundler A → Type 0
Opened {A} l u v = (front : List ℕ) (parts : List (Part A)) →
    IsBeforeHeaderAt l u.limits u.head u.payloads.part front parts
    → IsBlock (room_at l u.limits parts) u.block.block.items → HasFinished u parts
    → IsAt v (front ++ sized u.block.block.items) parts

-- an interruption was read, and the header of a part is next
abbrev pub Interrupted : {A : Type 0} → Level → Unbundler A → Unbundler A → Type 0
Interrupted {A} l u v = (front : List ℕ) (parts : List (Part A)) (whole : List ℕ) →
    IsInsideAt l u.limits u.head u.payloads.part front parts whole
    → TakesPayload u.limits (reader_at l u.payloads) whole [] → HasFinished u parts
    → IsAt v (front ++ interruption) parts

-- the payload with that data was closed
abbrev pub Closed : {A : Type 0} → Level → Unbundler A → Unbundler A → List ℕ → Type 0
Closed {A} l u v payload = (front : List ℕ) (parts : List (Part A)) →
    IsInsideAt l u.limits u.head u.payloads.part front parts payload → HasFinished u parts
    → (added : List (Part A)) × Finishes u v (front ++ closing) parts added
