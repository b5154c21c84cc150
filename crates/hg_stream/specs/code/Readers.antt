-- What the calls to the readers of payloads say.
use Rattle.std.specs.Prelude.{◌≡◌, ℕ, ◌<◌, ◌≤◌, List, [], length, take, Result, IfOk, IfErr}
use Rattle.hg_chunks.specs.declared.fault.ChunkFault.{ChunkFault}
use Rattle.hg_chunks.specs.declared.fault.Step.{Step}
use Rattle.hg_chunks.specs.declared.payload.PayloadIn.{PayloadIn}
use Rattle.hg_chunks.specs.PayloadIn.{HasTakenItems, StopsWithin, FailsWithin, Reading, limit_of, phase_of, phase_after}
use Rattle.hg_stream.specs.declared.payloads.Level.{Level}
use Rattle.hg_stream.specs.declared.payloads.Level.TheVariants as level
use Rattle.hg_stream.specs.code.Going.{IsGoing}

-- the other level
abbrev pub other : Level → Level
other level.Part = level.Interrupting
other level.Interrupting = level.Part

-- a reader that has taken nothing
pub record HasTakenNothing {A : Type 0} (limit : ℕ) (p : PayloadIn A) : Type 0 where
  pub holds : HasTakenItems p [] []
  pub limit_is : limit_of p ≡ limit
  pub reading : phase_of p ≡ Reading

-- p was fed the piece and became q: how many bytes it took, and where it stopped or failed
pub record ReadsPayload {A : Type 0} (p q : PayloadIn A) (piece : List ℕ) (answer : Result (ℕ × Step) ChunkFault)
    : Type 0 where
  pub count : IfOk answer (λ r. r.0 ≤ length piece)
  pub some : IsGoing (phase_of p) → 0 < length piece → IfOk answer (λ r. 0 < r.0)
  pub ok : IfOk answer (λ r. (whole rest : List ℕ) → HasTakenItems p whole rest →
      StopsWithin r.1 q whole rest (take r.0 piece))
  pub err : IfErr answer (λ fault. (place : ℕ) × (place ≤ length piece)
      × ((whole rest : List ℕ) → HasTakenItems p whole rest → FailsWithin fault q whole rest (take place piece)))
  pub phase : IsGoing (phase_of p) → IfOk answer (λ r. phase_of q ≡ phase_after r.1)
  pub broken : IfErr answer (λ fault. IsGoing (phase_of q))
  pub limit : limit_of q ≡ limit_of p
