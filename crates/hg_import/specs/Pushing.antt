-- A bundle at the front of some bytes that is run as a push.
use Rattle.std.specs.Prelude.{ℕ, ◌≡◌, ◌++◌, List, [], Err, ⊤}
use Rattle.hg_parts.specs.declared.item.CutReason.TheVariants.{Stream}
use Rattle.hg_types.specs.declared.limits.Limits.{Limits}
use Rattle.hg_types.specs.declared.part.Part.{Part}
use Rattle.hg_stream.specs.declared.fault.StreamFault.{StreamFault}
use Rattle.hg_stream.specs.declared.fault.StreamFault.TheVariants.{Truncated}
use Rattle.hg_stream.specs.declared.state.State.TheVariants.{Failed}
use Rattle.hg_stream.specs.Faults.{StateTells}
use Rattle.hg_stream.specs.Frames.{IsBundle}
use Rattle.hg_stream.specs.Number.{number_of}
use Rattle.hg_parts.specs.declared.refusal.Refusal.{Refusal}
use Rattle.hg_push.specs.declared.outcome.Reason.{Reason}
use Rattle.hg_push.specs.declared.outcome.Reason.TheVariants.{Cut, NoMemory, Refused}
use Rattle.hg_push.specs.Run.{RepositoryOf, run_push}

-- A front of the bytes shows that fault: all of them do, where it is that they end before an end mark.
pub record ShowsFault (A : Type 0) (fault : StreamFault) (limits : Limits) (bytes : List ℕ) : Type 0 where
  pub front : List ℕ
  pub behind : List ℕ
  pub parts : List (Part A)
  pub spelled : bytes ≡ front ++ behind
  pub tells : StateTells (Failed fault) limits front parts
  pub whole : fault ≡ Truncated → behind ≡ []

-- The bytes begin with a bundle of these parts.
pub record BeginsWith {A : Type 0} (limits : Limits) (bytes bundle : List ℕ) (parts : List (Part A)) : Type 0 where
  pub behind : List ℕ
  pub spelled : bytes ≡ bundle ++ behind
  pub is : IsBundle limits bundle parts

-- The bytes begin with a bundle whose push the repository refuses so.
pub record IsRefused {A : Type 0} (refusal : Refusal A) (limits : Limits) (repo : RepositoryOf A) (bytes : List ℕ) :
    Type 0 where
  pub bundle : List ℕ
  pub parts : List (Part A)
  pub begins : BeginsWith limits bytes bundle parts
  pub ran : run_push repo parts ≡ Err refusal

-- why the bundle at the front of some bytes is not done as a push on that repository; of memory nothing is said
abbrev pub IsUndone : {A : Type 0} → Reason (Refusal A) → Limits → RepositoryOf A → List ℕ → Type 0
IsUndone {A} (Cut (Stream number)) limits repo bytes =
    (fault : StreamFault) × (number ≡ number_of fault) × ShowsFault A fault limits bytes
IsUndone (Refused refusal) limits repo bytes = IsRefused refusal limits repo bytes
IsUndone NoMemory limits repo bytes = ⊤
IsUndone other limits repo bytes = ⊥
