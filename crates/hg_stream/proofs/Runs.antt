-- A stream read block by block and chunk by chunk: its places, where a whole block leads, and how a run of
-- them may end.
use Rattle.std.specs.Prelude.{◌≡◌, ℕ, ◌<◌, ◌≤◌, ◌^◌, List, [], ◌∷◌, ◌++◌, length, ◌⊎◌}
use Rattle.std.specs.List.{flat_map}
use Rattle.hg_types.specs.declared.limits.Limits.{Limits}
use Rattle.hg_types.specs.declared.part.Part.{Part}
use Rattle.hg_chunks.specs.declared.fault.ChunkFault.{ChunkFault}
use Rattle.hg_chunks.specs.Payload.{chunk_bytes, IsChunk, IsOpen, interruption, closing}
use Rattle.hg_params.specs.declared.head.Head.{Head}
use Rattle.hg_params.specs.declared.stream_params.StreamParam.{StreamParam}
use Rattle.hg_params.specs.declared.fault.ParamFault.{ParamFault}
use Rattle.hg_params.specs.Header.{IsHeaderFault}
use Rattle.hg_params.specs.StreamParams.{AreStreamParams, IsStreamParamsFault}
use Rattle.hg_stream.specs.declared.fault.StreamFault.{StreamFault}
use Rattle.hg_stream.specs.declared.fault.StreamFault.TheVariants.{NegativeSize, Params, Header, Chunk}
use Rattle.hg_stream.specs.declared.fault.StreamFault.TheVariants.{NestedInterrupt, ClientAbort, Unsupported}
use Rattle.hg_stream.specs.declared.fault.StreamFault.TheVariants.{TooLarge}
use Rattle.hg_stream.specs.declared.interrupting.Verdict.{Verdict}
use Rattle.hg_stream.specs.declared.interrupting.Verdict.TheVariants.{Dropped, Aborts, Refused}
use Rattle.hg_stream.specs.Block.{sized, IsBlock, IsPartialBlock, IsNegativeSize, IsOversize}
use Rattle.hg_stream.specs.Interrupting.{verdict_of}
use Rattle.hg_stream.specs.Frames.{magic, max_header, part_of, HasHead}
use Rattle.hg_stream.specs.Places.{header_room}
use Rattle.hg_stream.specs.Faults.{IsChunkFault}

-- ---- places

-- after the magic; after whole frames; in a payload, after chunks with that data; after a size of -1
-- there; and in the
-- payload of an interrupting part, after chunks with that data
pub data Place (A : Type 0) : Type 0 where
  AtParams : Place A
  AtHeader : List (Part A) → Place A
  AtChunk : List (Part A) → Head A → List ℕ → Place A
  AtInnerHeader : List (Part A) → Head A → List ℕ → Place A
  AtInnerChunk : List (Part A) → Head A → List ℕ → List ℕ → Place A

-- the parts of the whole frames before a place
abbrev pub parts_at : {A : Type 0} → Place A → List (Part A)
parts_at AtParams = []
parts_at (AtHeader parts) = parts
parts_at (AtChunk parts head payload) = parts
parts_at (AtInnerHeader parts head payload) = parts
parts_at (AtInnerChunk parts head payload inner) = parts

-- ---- where a whole block or chunk leads

pub record TakesParams {A : Type 0} (limits : Limits) (taken : List ℕ) (next : Place A) : Type 0 where
  pub block : List ℕ
  pub params : List (StreamParam A)
  pub fits : length block ≤ limits.params
  pub small : length block < 2 ^ 31
  pub reads : AreStreamParams block params
  pub spelled : taken ≡ sized block
  pub leads : next ≡ AtHeader []

pub record TakesHeader {A : Type 0} (limits : Limits) (parts : List (Part A)) (taken : List ℕ)
    (next : Place A) : Type 0 where
  pub few : length parts < limits.parts
  pub header : List ℕ
  pub head : Head A
  pub reads : HasHead header head
  pub spelled : taken ≡ sized header
  pub leads : next ≡ AtChunk parts head []

-- a chunk that is allowed after that data
pub record IsNextChunk (limits : Limits) (whole taken chunk : List ℕ) : Type 0 where
  pub is : IsChunk chunk
  pub fits : length (whole ++ chunk) ≤ limits.payload
  pub spelled : taken ≡ chunk_bytes chunk

-- an interrupting part's header, which is dropped
pub record TakesInnerHeader {A : Type 0} (parts : List (Part A)) (head : Head A) (payload taken : List ℕ)
    (next : Place A) : Type 0 where
  pub header : List ℕ
  pub inner_head : Head A
  pub reads : HasHead header inner_head
  pub dropped : verdict_of inner_head ≡ Dropped
  pub spelled : taken ≡ sized header
  pub leads : next ≡ AtInnerChunk parts head payload []

-- in a payload: a chunk, an interruption, the end of the payload
pub data TakesChunk {A : Type 0} (limits : Limits) (parts : List (Part A)) (head : Head A)
    (payload taken : List ℕ) (next : Place A) : Type 0 where
  next_chunk : (c : List ℕ) → IsNextChunk limits payload taken c → next ≡ AtChunk parts head (payload ++ c)
      → TakesChunk limits parts head payload taken next
  pause : taken ≡ interruption → next ≡ AtInnerHeader parts head payload
      → TakesChunk limits parts head payload taken next
  payload_end : taken ≡ closing → next ≡ AtHeader (parts ++ part_of head payload ∷ [])
      → TakesChunk limits parts head payload taken next

-- after an interruption: nothing comes between, or a part
pub data TakesInner {A : Type 0} (parts : List (Part A)) (head : Head A) (payload taken : List ℕ)
    (next : Place A) : Type 0 where
  no_part : taken ≡ closing → next ≡ AtChunk parts head payload → TakesInner parts head payload taken next
  a_part : TakesInnerHeader parts head payload taken next → TakesInner parts head payload taken next

-- in the payload of an interrupting part: a chunk, its end
pub data TakesInnerChunk {A : Type 0} (limits : Limits) (parts : List (Part A)) (head : Head A)
    (payload inner taken : List ℕ) (next : Place A) : Type 0 where
  inner_chunk : (c : List ℕ) → IsNextChunk limits inner taken c
      → next ≡ AtInnerChunk parts head payload (inner ++ c)
      → TakesInnerChunk limits parts head payload inner taken next
  inner_end : taken ≡ closing → next ≡ AtChunk parts head payload
      → TakesInnerChunk limits parts head payload inner taken next

-- these bytes, a whole block or chunk, lead from the place to the next
abbrev pub Leads : {A : Type 0} → Limits → Place A → List ℕ → Place A → Type 0
Leads limits AtParams taken next = TakesParams limits taken next
Leads limits (AtHeader parts) taken next = TakesHeader limits parts taken next
Leads limits (AtChunk parts head payload) taken next = TakesChunk limits parts head payload taken next
Leads limits (AtInnerHeader parts head payload) taken next = TakesInner parts head payload taken next
Leads limits (AtInnerChunk parts head payload inner) taken next =
    TakesInnerChunk limits parts head payload inner taken next

-- ---- runs

-- a whole block or chunk, and the place after it
pub record Step (A : Type 0) : Type 0 where
  pub taken : List ℕ
  pub place : Place A

-- the steps lead from one place to another
abbrev pub IsRun : {A : Type 0} → Limits → Place A → List (Step A) → Place A → Type 0
IsRun limits from [] to = from ≡ to
IsRun limits from (step ∷ steps) to = Leads limits from step.taken step.place
    × IsRun limits step.place steps to

abbrev pub run_bytes : {A : Type 0} → List (Step A) → List ℕ
run_bytes steps = flat_map (λ step. step.taken) steps

-- ---- how a run ends

-- less than a block or chunk, which may still become one
abbrev pub IsPartialAt : {A : Type 0} → Limits → Place A → List ℕ → Type 0
IsPartialAt limits AtParams rest = IsPartialBlock limits.params rest
IsPartialAt limits (AtHeader parts) rest = IsPartialBlock (header_room limits parts) rest
IsPartialAt limits (AtChunk parts head payload) rest = IsOpen limits.payload payload rest
IsPartialAt limits (AtInnerHeader parts head payload) rest = IsPartialBlock max_header rest
IsPartialAt limits (AtInnerChunk parts head payload inner) rest = IsOpen limits.payload inner rest

-- the end mark, or a fault
pub data Decision : Type 0 where
  Closed : Decision
  Faulty : StreamFault → Decision

-- a block's size is refused
pub data RefusesSize (most : ℕ) (rest : List ℕ) (fault : StreamFault) : Type 0 where
  negative : IsNegativeSize rest → fault ≡ NegativeSize → RefusesSize most rest fault
  oversize : IsOversize most rest → fault ≡ TooLarge → RefusesSize most rest fault

-- a whole header is refused
pub record RefusesHeader (most : ℕ) (rest : List ℕ) (fault : StreamFault) : Type 0 where
  pub block : List ℕ
  pub is : IsBlock most block
  pub wrong : ParamFault
  pub refused : IsHeaderFault block wrong
  pub spelled : rest ≡ sized block
  pub fault_is : fault ≡ Header wrong

-- the stream parameters are refused
pub record RefusesParams (most : ℕ) (rest : List ℕ) (fault : StreamFault) : Type 0 where
  pub block : List ℕ
  pub is : IsBlock most block
  pub wrong : ParamFault
  pub refused : IsStreamParamsFault block wrong
  pub spelled : rest ≡ sized block
  pub fault_is : fault ≡ Params wrong

-- the header of an interrupting part has that verdict
pub record RefusesInner (A : Type 0) (rest : List ℕ) (verdict : Verdict) : Type 0 where
  pub header : List ℕ
  pub inner_head : Head A
  pub reads : HasHead header inner_head
  pub decided : verdict_of inner_head ≡ verdict
  pub spelled : rest ≡ sized header

-- a chunk's size is refused after that data
pub record RefusesChunk (limit : ℕ) (whole rest : List ℕ) (fault : StreamFault) : Type 0 where
  pub wrong : ChunkFault
  pub refused : IsChunkFault wrong limit whole rest
  pub fault_is : fault ≡ Chunk wrong

pub data FailsInner (A : Type 0) (rest : List ℕ) (fault : StreamFault) : Type 0 where
  bad_size : RefusesSize max_header rest fault → FailsInner A rest fault
  bad_header : RefusesHeader max_header rest fault → FailsInner A rest fault
  aborts_push : RefusesInner A rest Aborts → fault ≡ ClientAbort → FailsInner A rest fault
  unsupported : RefusesInner A rest Refused → fault ≡ Unsupported → FailsInner A rest fault

-- these bytes decide that at the place
abbrev pub DecidesAt : {A : Type 0} → Decision → Limits → Place A → List ℕ → Type 0
DecidesAt (Faulty fault) limits AtParams rest = RefusesSize limits.params rest fault
    ⊎ RefusesParams limits.params rest fault
DecidesAt (Faulty fault) limits (AtHeader parts) rest = RefusesSize (header_room limits parts) rest fault
    ⊎ RefusesHeader (header_room limits parts) rest fault
DecidesAt (Faulty fault) limits (AtChunk parts head payload) rest =
    RefusesChunk limits.payload payload rest fault
DecidesAt {A} (Faulty fault) limits (AtInnerHeader parts head payload) rest = FailsInner A rest fault
DecidesAt (Faulty fault) limits (AtInnerChunk parts head payload inner) rest =
    RefusesChunk limits.payload inner rest fault ⊎ ((rest ≡ interruption) × (fault ≡ NestedInterrupt))
DecidesAt Closed limits (AtHeader parts) rest = rest ≡ closing
DecidesAt Closed limits place rest = ⊥

-- ---- whole streams

-- after the magic a run, and then less than a block or chunk
pub record ReadsOn {A : Type 0} (limits : Limits) (bytes : List ℕ) (parts : List (Part A)) : Type 0 where
  pub steps : List (Step A)
  pub place : Place A
  pub rest : List ℕ
  pub run : IsRun limits AtParams steps place
  pub partial : IsPartialAt limits place rest
  pub parts_are : parts_at place ≡ parts
  pub spelled : bytes ≡ magic ++ (run_bytes steps ++ rest)

-- after the magic a run, and then what decides
pub record Settles {A : Type 0} (decision : Decision) (limits : Limits) (bytes : List ℕ)
    (parts : List (Part A)) : Type 0 where
  pub steps : List (Step A)
  pub place : Place A
  pub rest : List ℕ
  pub run : IsRun limits AtParams steps place
  pub decides : DecidesAt decision limits place rest
  pub parts_are : parts_at place ≡ parts
  pub spelled : bytes ≡ magic ++ (run_bytes steps ++ rest)
