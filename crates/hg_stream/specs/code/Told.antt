-- What the stream reports of a block, of parameters or of a chunk. Out of memory is the stream's own.
use Rattle.std.specs.Prelude.{◌≡◌, ℕ, nat_lt, if◌then◌else◌, List, ◌⊎◌}
use Rattle.hg_chunks.specs.declared.fault.ChunkFault.{ChunkFault}
use Rattle.hg_chunks.specs.declared.fault.ChunkFault.TheVariants as chunk_fault
use Rattle.hg_params.specs.declared.fault.ParamFault.{ParamFault}
use Rattle.hg_params.specs.declared.fault.ParamFault.TheVariants as param_fault
use Rattle.hg_params.specs.declared.stream_params.StreamParam.{StreamParam}
use Rattle.hg_params.specs.declared.head.Head.{Head}
use Rattle.hg_params.specs.Header.{IsHeader, IsHeaderFault}
use Rattle.hg_params.specs.StreamParams.{AreStreamParams, IsStreamParamsFault}
use Rattle.hg_stream.specs.Frames.{max_header}
use Rattle.hg_stream.specs.declared.block.BlockFault.{BlockFault}
use Rattle.hg_stream.specs.declared.block.BlockFault.TheVariants as block_fault
use Rattle.hg_stream.specs.declared.fault.StreamFault.{StreamFault}
use Rattle.hg_stream.specs.declared.fault.StreamFault.TheVariants.{NegativeSize, Params, Header, Chunk}
use Rattle.hg_stream.specs.declared.fault.StreamFault.TheVariants.{ClientAbort, Unsupported, TooLarge}
use Rattle.hg_stream.specs.declared.fault.StreamFault.TheVariants.{NoMemory}
use Rattle.hg_stream.specs.declared.payloads.Level.{Level}
use Rattle.hg_stream.specs.declared.payloads.Level.TheVariants as level
use Rattle.hg_stream.specs.declared.interrupting.Verdict.{Verdict}
use Rattle.hg_stream.specs.declared.interrupting.Verdict.TheVariants.{Dropped, Aborts, Refused}
use Rattle.hg_stream.specs.Interrupting.{verdict_of}

abbrev pub of_params : ParamFault → StreamFault
of_params param_fault.NoMemory = NoMemory
of_params fault = Params fault

abbrev pub of_header : ParamFault → StreamFault
of_header param_fault.NoMemory = NoMemory
of_header fault = Header fault

abbrev pub of_chunk : ChunkFault → StreamFault
of_chunk chunk_fault.NoMemory = NoMemory
of_chunk fault = Chunk fault

abbrev pub of_block : BlockFault → StreamFault
of_block block_fault.Negative = NegativeSize
of_block block_fault.TooLarge = TooLarge
of_block block_fault.NoMemory = NoMemory

-- the greatest header that may come next, where so many parts may
abbrev pub room_left : ℕ → ℕ
room_left parts_left = if nat_lt 0 parts_left then max_header else 0

-- a header's refusal, as the stream reports it
abbrev pub RefusesHeader : List ℕ → StreamFault → Type 0
RefusesHeader block fault = (fault ≡ NoMemory)
    ⊎ ((wrong : ParamFault) × (fault ≡ Header wrong) × IsHeaderFault block wrong)

abbrev pub RefusesParams : List ℕ → StreamFault → Type 0
RefusesParams block fault = (fault ≡ NoMemory)
    ⊎ ((wrong : ParamFault) × (fault ≡ Params wrong) × IsStreamParamsFault block wrong)

abbrev pub ReadsParams : Type 0 → List ℕ → Type 0
ReadsParams A block = (params : List (StreamParam A)) × AreStreamParams block params

-- the header of an interrupting part, and what becomes of it
abbrev pub JudgesHeader : Type 0 → List ℕ → Verdict → Type 0
JudgesHeader A block verdict = (head : Head A) × IsHeader block head × (verdict_of head ≡ verdict)

abbrev pub ReadsInterrupting : Type 0 → List ℕ → Type 0
ReadsInterrupting A block = JudgesHeader A block Dropped

abbrev pub RefusesInterrupting : Type 0 → List ℕ → StreamFault → Type 0
RefusesInterrupting A block fault = RefusesHeader block fault
    ⊎ (((fault ≡ ClientAbort) × JudgesHeader A block Aborts)
    ⊎ ((fault ≡ Unsupported) × JudgesHeader A block Refused))

-- the same of a header at that level
abbrev pub RefusesHeaderAt : Type 0 → Level → List ℕ → StreamFault → Type 0
RefusesHeaderAt A level.Part block fault = RefusesHeader block fault
RefusesHeaderAt A level.Interrupting block fault = RefusesInterrupting A block fault

-- a header was read: that of a part is kept, and that of an interrupting part leaves the one that is kept
abbrev pub ReadsHeaderAt : {A : Type 0} → Level → List ℕ → Head A → Head A → Type 0
ReadsHeaderAt level.Part block before after = IsHeader block after
ReadsHeaderAt {A} level.Interrupting block before after = (after ≡ before) × ReadsInterrupting A block
