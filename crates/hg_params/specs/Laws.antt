-- What holds of all headers and all stream parameters.
use Rattle.std.specs.Prelude.{◌≡◌, ◌⊎◌, ℕ, ◌<◌, ◌^◌, ◌≤◌, List, length}
use Rattle.hg_types.specs.declared.part.Param.{Param}
use Rattle.hg_params.specs.declared.head.Head.{Head}
use Rattle.hg_params.specs.declared.stream_params.StreamParam.{StreamParam}
use Rattle.hg_params.specs.declared.fault.ParamFault.{ParamFault}
use Rattle.hg_params.specs.Header.{IsHeader, IsHeaderFault}
use Rattle.hg_params.specs.Writing.{cased, header_bytes, written_head, CanStand}
use Rattle.hg_params.specs.StreamParams.{AreStreamParams, IsStreamParamsFault}

-- the bytes say at most one thing or have at most one fault, and not both
pub record HasOneReading (A : Type 0) (bytes : List ℕ) : Type 0 where
  pub one_value : (first second : Head A) → IsHeader bytes first → IsHeader bytes second → first ≡ second
  pub no_fault : (head : Head A) (fault : ParamFault) → IsHeader bytes head → IsHeaderFault bytes fault → ⊥
  pub one_fault : (first second : ParamFault) → IsHeaderFault bytes first → IsHeaderFault bytes second →
      first ≡ second

-- the bytes say something or have a fault
abbrev pub HasSomeReading : Type 0 → List ℕ → Type 0
HasSomeReading A bytes = ((head : Head A) × IsHeader bytes head)
    ⊎ ((fault : ParamFault) × IsHeaderFault bytes fault)

-- what is written of a type and parameters that can stand in a header is read as these, the type cased
abbrev pub IsReadBack : {A : Type 0} → List ℕ → ℕ → List (Param A) → Type 0
IsReadBack kind id params = id < 2 ^ 32 → CanStand kind params →
    IsHeader (header_bytes (cased kind) id params) (written_head kind id params)

-- and only what some header says can be written
abbrev pub IsAllThatIsWritten : {A : Type 0} → List ℕ → ℕ → List (Param A) → Type 0
IsAllThatIsWritten kind id params = (bytes : List ℕ) → IsHeader bytes (written_head kind id params) →
    CanStand kind params

-- a header has some bytes, and at most 1 + 255 + 4 + 2 + 1,020 + 260,100 of them
abbrev pub IsSmall : List ℕ → Type 0
IsSmall bytes = (0 < length bytes) × (length bytes ≤ 261382)

-- bytes give at most one list of stream parameters or have at most one fault, and not both
pub record HasOneParamsReading (A : Type 0) (bytes : List ℕ) : Type 0 where
  pub one_value : (first second : List (StreamParam A)) → AreStreamParams bytes first →
      AreStreamParams bytes second → first ≡ second
  pub no_fault : (params : List (StreamParam A)) (fault : ParamFault) → AreStreamParams bytes params →
      IsStreamParamsFault bytes fault → ⊥
  pub one_fault : (first second : ParamFault) → IsStreamParamsFault bytes first →
      IsStreamParamsFault bytes second → first ≡ second

-- bytes give a list of stream parameters or have a fault
abbrev pub HasSomeParamsReading : Type 0 → List ℕ → Type 0
HasSomeParamsReading A bytes = ((params : List (StreamParam A)) × AreStreamParams bytes params)
    ⊎ ((fault : ParamFault) × IsStreamParamsFault bytes fault)
