-- What the phase of a reader says of the bytes that it holds.
use Rattle.std.proofs.Common.{◌≡◌, ◌<◌, ℕ, List, [], length, inl}
use Rattle.std.proofs.lemmas.List.{append-nil}
use Rattle.hg_chunks.specs.declared.fault.ChunkFault.{ChunkFault}
use Rattle.hg_chunks.specs.declared.fault.Step.TheVariants.{More}
use Rattle.hg_chunks.specs.declared.payload.Stage.{Stage}
use Rattle.hg_chunks.specs.declared.payload.Stage.TheVariants as stage
use Rattle.hg_chunks.specs.declared.payload.PayloadIn.{PayloadIn}
use Rattle.hg_chunks.specs.Payload.{closing, IsOpen}
use Rattle.hg_chunks.specs.PayloadIn.{Reading, Ended, Broken, phase_of, phase_of_stage, limit_of, HasTakenItems, IsAt}
use Rattle.hg_chunks.specs.PayloadIn.{IsFault, StopsWithin}
use Rattle.hg_chunks.proofs.Steps.{waits, open_inside}

open_at : (s : Stage) (limit : ℕ) (got size whole rest : List ℕ) → phase_of_stage s ≡ Reading
    → length size < 4 → IsAt s limit got size whole rest → IsOpen limit whole rest
open_at stage.Size limit got size whole rest e short at = let short_rest : length rest < 4 = rw at.1 short in
    inl short_rest
open_at (stage.Chunk left) limit got size whole rest e short at =
    open_inside limit got whole rest left.bytes at.1
open_at stage.Done limit got size whole rest e short at = absurd cc
open_at stage.Handed limit got size whole rest e short at = absurd cc
open_at (stage.Failed fault) limit got size whole rest e short at = absurd cc

-- the payload may still go on
pub open_while_reading : {A : Type 0} → (p : PayloadIn A) (whole rest : List ℕ) → phase_of p ≡ Reading
    → HasTakenItems p whole rest → IsOpen (limit_of p) whole rest
open_while_reading p whole rest e holds =
    open_at p.stage p.limit p.«data».items p.size whole rest e holds.1 holds.2

-- a reader that reads on stops where it is when it is given nothing
pub starts : {A : Type 0} → (p : PayloadIn A) (whole rest : List ℕ) → phase_of p ≡ Reading
    → HasTakenItems p whole rest → StopsWithin More p whole rest []
starts p whole rest e holds =
    waits p whole rest [] (rw append-nil holds) (rw append-nil (open_while_reading p whole rest e holds))

closing_at : (s : Stage) (limit : ℕ) (got size whole rest : List ℕ) → phase_of_stage s ≡ Ended
    → IsAt s limit got size whole rest → rest ≡ closing
closing_at stage.Size limit got size whole rest e at = absurd cc
closing_at (stage.Chunk left) limit got size whole rest e at = absurd cc
closing_at stage.Done limit got size whole rest e at = at.1
closing_at stage.Handed limit got size whole rest e at = absurd cc
closing_at (stage.Failed fault) limit got size whole rest e at = absurd cc

-- the closing size stands at its end
pub closed_when_ended : {A : Type 0} → (p : PayloadIn A) (whole rest : List ℕ) → phase_of p ≡ Ended
    → HasTakenItems p whole rest → rest ≡ closing
closed_when_ended p whole rest e holds = closing_at p.stage p.limit p.«data».items p.size whole rest e holds.2

broken_is : (f : ChunkFault) (fault : ChunkFault) → Broken f ≡ Broken fault → f ≡ fault
broken_is f fault e = cc

fault_at : (s : Stage) (fault : ChunkFault) (limit : ℕ) (got size whole rest : List ℕ)
    → phase_of_stage s ≡ Broken fault → IsAt s limit got size whole rest → IsFault fault limit whole rest
fault_at stage.Size fault limit got size whole rest e at = absurd cc
fault_at (stage.Chunk left) fault limit got size whole rest e at = absurd cc
fault_at stage.Done fault limit got size whole rest e at = absurd cc
fault_at stage.Handed fault limit got size whole rest e at = absurd cc
fault_at (stage.Failed f) fault limit got size whole rest e at = rw (← broken_is f fault e) at
