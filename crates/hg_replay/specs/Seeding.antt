-- The repository that a bundle begins.
use Rattle.std.specs.Prelude.{◌≡◌, ◌≢◌, ⊤, List, Bool, Option, Some, None, Result, Ok, Err}
use Rattle.hg_types.specs.declared.part.Part.{Part}
use Rattle.hg_types.specs.Limits.{standard_limits}
use Rattle.hg_repo.specs.declared.done.Done.{Done}
use Rattle.hg_repo.specs.Run.{run_of}
use Rattle.hg_parts.specs.declared.refusal.Refusal.{Refusal}
use Rattle.hg_parts.specs.declared.refusal.Refusal.TheVariants.{NoMemory as without_memory}
use Rattle.hg_parts.specs.declared.source.Source.TheVariants.{Seed}
use Rattle.hg_parts.specs.Repository.{Repository}
use Rattle.hg_stream.specs.declared.fault.StreamFault.TheVariants.{NoMemory as stream_without_memory}
use Rattle.hg_connection.specs.Devices.{Input}
use Rattle.hg_connection.specs.declared.bundle_end.BundleEnd.{BundleEnd}
use Rattle.hg_connection.specs.declared.bundle_end.BundleEnd.TheVariants.{Whole, Fault, InputEnded, ReadFailed}
use Rattle.hg_replay.specs.declared.seed.SeedFault.{SeedFault}
use Rattle.hg_replay.specs.declared.seed.SeedFault.TheVariants.{Aborted, ReadFailed as read_failed, NoMemory}
use Rattle.hg_replay.specs.Receiving.{Received}
use Rattle.hg_replay.specs.Answering.{empty_repository}

-- why a bundle that ended so is no seed: it is not whole, a read failed, or memory was refused
abbrev pub ending_fault : BundleEnd → Option SeedFault
ending_fault Whole = None
ending_fault ReadFailed = Some read_failed
ending_fault (Fault stream_without_memory) = Some NoMemory
ending_fault (Fault fault) = Some Aborted
ending_fault InputEnded = Some Aborted

-- why a seed that was refused so is none: for lack of memory, or by its parts
abbrev pub IsRefused : {A : Type 0} → Refusal A → SeedFault → Type 0
IsRefused refusal Aborted = refusal ≢ without_memory
IsRefused refusal read_failed = ⊥
IsRefused refusal NoMemory = refusal ≡ without_memory

-- What a seed of these parts gives: the repository that its run leaves of the empty one; or it was refused,
-- or memory was.
abbrev pub Grows : {A : Type 0} → Bool → List (Part A) → Result (Repository A) SeedFault → Type 0
Grows {A} publishing parts (Ok repo) =
    (done : Done A) × (run_of Seed (empty_repository publishing) parts ≡ Ok (repo, done))
Grows {A} publishing parts (Err Aborted) =
    (refusal : Refusal A) × (run_of Seed (empty_repository publishing) parts ≡ Err refusal)
Grows publishing parts (Err read_failed) = ⊥
Grows publishing parts (Err NoMemory) = ⊤

-- What a seed gives that ended so: its parts are run where it is whole.
abbrev pub SeedGives : {A : Type 0} → Option SeedFault → Bool → List (Part A)
    → Result (Repository A) SeedFault → Type 0
SeedGives (Some fault) publishing parts result = result ≡ Err fault
SeedGives None publishing parts result = Grows publishing parts result

-- One bundle was read, as for a push, and gave that.
pub record Seeds {A : Type 0} (publishing : Bool) (input left : Input)
    (result : Result (Repository A) SeedFault) : Type 0 where
  pub ending : BundleEnd
  pub parts : List (Part A)
  pub received : Received standard_limits input left ending parts
  pub gives : SeedGives (ending_fault ending) publishing parts result
