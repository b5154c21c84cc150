-- Which fault the last of some bytes decides.
use Rattle.std.specs.Prelude.{◌≡◌, ◌≢◌, ℕ, ◌+◌, ◌≤◌, List, [], ◌∷◌, ◌++◌, length, ◌⊎◌}
use Rattle.hg_types.specs.declared.limits.Limits.{Limits}
use Rattle.hg_types.specs.declared.part.Part.{Part}
use Rattle.hg_chunks.specs.declared.fault.ChunkFault.{ChunkFault}
use Rattle.hg_chunks.specs.declared.fault.ChunkFault.TheVariants as chunk_fault
use Rattle.hg_chunks.specs.Payload.{IsBadSize, IsTooLarge, interruption}
use Rattle.hg_params.specs.declared.head.Head.{Head}
use Rattle.hg_params.specs.Header.{IsHeaderFault}
use Rattle.hg_params.specs.StreamParams.{IsStreamParamsFault}
use Rattle.hg_stream.specs.declared.fault.StreamFault.{StreamFault}
use Rattle.hg_stream.specs.declared.fault.StreamFault.TheVariants.{BadMagic, NegativeSize, Params, Header}
use Rattle.hg_stream.specs.declared.fault.StreamFault.TheVariants.{Chunk, NestedInterrupt, ClientAbort}
use Rattle.hg_stream.specs.declared.fault.StreamFault.TheVariants.{Unsupported, TooLarge, Truncated, NoMemory}
use Rattle.hg_stream.specs.declared.state.State.{State}
use Rattle.hg_stream.specs.declared.state.State.TheVariants.{Reading, Ended, Failed}
use Rattle.hg_stream.specs.declared.interrupting.Verdict.{Verdict}
use Rattle.hg_stream.specs.declared.interrupting.Verdict.TheVariants.{Aborts, Refused}
use Rattle.hg_stream.specs.Block.{sized, IsBlock, IsNegativeSize, IsOversize}
use Rattle.hg_stream.specs.Interrupting.{verdict_of}
use Rattle.hg_stream.specs.Frames.{magic, HasHead, IsWhole, IsBundle}
use Rattle.hg_stream.specs.Places.{IsInterrupted, IsInInner, IsBeforeHeader, IsBeforeBlock, IsBeforeChunk}
use Rattle.hg_stream.specs.Places.{IsReading}

-- a chunk's size is a fault; out of memory is none of the bytes
abbrev pub IsChunkFault : ChunkFault → ℕ → List ℕ → List ℕ → Type 0
IsChunkFault chunk_fault.BadSize limit whole rest = IsBadSize rest
IsChunkFault chunk_fault.TooLarge limit whole rest = IsTooLarge limit whole rest
IsChunkFault chunk_fault.NoMemory limit whole rest = ⊥

-- the header of an interrupting part ends here, and this becomes of it
pub record EndsInnerHeader {A : Type 0} (limits : Limits) (bytes : List ℕ) (parts : List (Part A))
    (verdict : Verdict) : Type 0 where
  pub front : List ℕ
  pub head : Head A
  pub payload : List ℕ
  pub interrupted : IsInterrupted limits front parts head payload
  pub header : List ℕ
  pub inner_head : Head A
  pub reads : HasHead header inner_head
  pub decided : verdict_of inner_head ≡ verdict
  pub spelled : bytes ≡ front ++ sized header

-- The last byte decides this fault by the grammar. The parts are those of the whole frames before it.
abbrev pub Decides : {A : Type 0} → StreamFault → Limits → List ℕ → List (Part A) → Type 0
Decides BadMagic limits bytes parts = (length bytes ≡ 4) × (bytes ≢ magic) × (parts ≡ [])
Decides NegativeSize limits bytes parts =
    (front rest : List ℕ) × (most : ℕ) × IsBeforeBlock limits front parts most × IsNegativeSize rest
    × (bytes ≡ front ++ rest)
Decides (Params fault) limits bytes parts =
    (block : List ℕ) × IsBlock limits.params block × IsStreamParamsFault block fault
    × (bytes ≡ magic ++ sized block) × (parts ≡ [])
Decides (Header fault) limits bytes parts =
    (front block : List ℕ) × (most : ℕ) × IsBeforeHeader limits front parts most × IsBlock most block
    × IsHeaderFault block fault × (bytes ≡ front ++ sized block)
Decides (Chunk fault) limits bytes parts =
    (front rest whole : List ℕ) × IsBeforeChunk limits front parts whole
    × IsChunkFault fault limits.payload whole rest × (bytes ≡ front ++ rest)
Decides {A} NestedInterrupt limits bytes parts =
    (front payload inner : List ℕ) × (head : Head A) × IsInInner limits front parts head payload inner
    × (bytes ≡ front ++ interruption)
Decides ClientAbort limits bytes parts = EndsInnerHeader limits bytes parts Aborts
Decides Unsupported limits bytes parts = EndsInnerHeader limits bytes parts Refused
Decides TooLarge limits bytes parts = (front rest : List ℕ) × (most : ℕ)
    × IsBeforeBlock limits front parts most × IsOversize most rest × (bytes ≡ front ++ rest)
Decides Truncated limits bytes parts = ⊥
Decides NoMemory limits bytes parts = ⊥

-- The last byte decides this fault: by the grammar, or because it is the first past the limit on the stream
-- and the grammar reads on there, or ends.
pub data IsFault {A : Type 0} (limits : Limits) (bytes : List ℕ) (parts : List (Part A))
    (fault : StreamFault) : Type 0 where
  by_grammar : Decides fault limits bytes parts → length bytes ≤ limits.stream + 1 →
      IsFault limits bytes parts fault
  by_length : (front : List ℕ) (last : ℕ) (read : List (Part A)) → IsReading limits front parts →
      IsReading limits bytes read ⊎ IsWhole limits bytes read
      → bytes ≡ front ++ last ∷ [] → length bytes ≡ limits.stream + 1 → fault ≡ TooLarge →
      IsFault limits bytes parts fault

-- no fault of the bytes, which are still read within the limit on the stream: memory was refused, or the
-- input ended
abbrev pub StopsReading : {A : Type 0} → StreamFault → Limits → List ℕ → List (Part A) → Type 0
StopsReading Truncated limits bytes parts = IsReading limits bytes parts × (length bytes ≤ limits.stream)
StopsReading NoMemory limits bytes parts = IsReading limits bytes parts × (length bytes ≤ limits.stream)
StopsReading fault limits bytes parts = IsFault limits bytes parts fault

-- what a state says of the bytes consumed, and of their parts
abbrev pub StateTells : {A : Type 0} → State → Limits → List ℕ → List (Part A) → Type 0
StateTells Reading limits bytes parts = IsReading limits bytes parts × (length bytes ≤ limits.stream)
StateTells Ended limits bytes parts = IsBundle limits bytes parts
StateTells (Failed fault) limits bytes parts = StopsReading fault limits bytes parts
