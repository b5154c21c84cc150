-- A store that is opened, and the repository that its records lead to.
use Rattle.std.specs.Prelude.{ℕ, ◌≡◌, ◌⊎◌, Bool, List, ◌∷◌, length}
use Rattle.std.specs.List.{AllByRecursion}
use Rattle.hg_types.specs.Limits.{standard_limits}
use Rattle.hg_store.specs.Calls.{Event, missed}
use Rattle.hg_store.specs.Files.{stored}
use Rattle.hg_store.specs.Folders.{IsMadeAtMost, IsMadeWhereNone, IsMissedAtMost}
use Rattle.hg_store.specs.declared.head.Head.{Head}
use Rattle.hg_store.specs.declared.head.Setup.{Setup}
use Rattle.hg_store.specs.Entries.{Entry}
use Rattle.hg_store.specs.Head.{IsHead, head_for, setup_of}
use Rattle.hg_store.specs.Log.{IsSettled}
use Rattle.hg_store.specs.Records.{IsRecord}
use Rattle.hg_store.specs.declared.head.Version.TheVariants.{Second}
use Rattle.hg_recovery.specs.Replays.{Replays, StopsAt}
use Rattle.hg_recovery.specs.declared.restore.RestoreFault.{RestoreFault}
use Rattle.hg_parts.specs.Repository.{empty_with}
use Rattle.hg_push.specs.Run.{RepositoryOf}
use Rattle.hg_recovery.specs.declared.opening.IfMissing.{IfMissing}
use Rattle.hg_recovery.specs.declared.opening.IfMissing.TheVariants.{Create, Refuse}
use Rattle.hg_recovery.specs.declared.opening.Recovered.{Recovered}

-- how a server is set up that publishes, or does not
abbrev pub setup_for : Bool → Setup
setup_for publishing = record { publishing = publishing; limits = standard_limits }

-- the head of a store of that name of such a server
abbrev pub head_of : Bool → List ℕ → Head
head_of publishing identity = head_for (setup_for publishing) identity

-- the repository without changesets, of a server that is set up in this way
abbrev pub empty_repository : {A : Type 0} → Setup → RepositoryOf A
empty_repository setup =
    empty_with (record { publishing = setup.publishing; limits = setup.limits; first_push = 0 })

-- The records of a store of that head, run one by one on the empty repository, lead to this one.
pub record IsRecovered {A : Type 0} (publishing : Bool) (head : Head) (records : List Entry)
    (repo : RepositoryOf A) : Type 0 where
  pub setup_is : setup_of head ≡ setup_for publishing
  pub ran : Replays head.limits (empty_repository (setup_of head)) records repo

-- The store has the records that it was opened with, all of them on the device, and they lead to the repository.
pub record IsOpened {D : Type 0} (seen : D → List ℕ) (may_leave : D → List ℕ → Type 0) (opened : Recovered D) :
    Type 0 where
  pub settled : IsSettled seen may_leave (head_of opened.publishing opened.identity) opened.records.entries opened.log
  pub recovered : IsRecovered opened.publishing (head_of opened.publishing opened.identity) opened.records.entries
      opened.repo
  pub count : opened.stored ≡ length opened.records.entries

-- what is noted of the names in a folder: a store is made where there is none, or is missing
abbrev pub AreNamesIf : IfMissing → List Event → List Event → Type 0
AreNamesIf Create before now = IsMadeWhereNone before now
AreNamesIf Refuse before now = IsMissedAtMost before now

-- the records, run one by one on the empty repository, stop at one of them, for that reason
abbrev pub StopsOpening : Type 0 → Bool → List Entry → RestoreFault → Type 0
StopsOpening A publishing records fault =
    (last : RepositoryOf A) × StopsAt standard_limits (empty_repository (setup_for publishing)) records fault last

-- what was noted of the names in a folder where a store is begun: nothing, or that it is made where there is none
abbrev pub IsBegunIf : IfMissing → List Event → List Event → Type 0
IsBegunIf Create before now = (now ≡ before) ⊎ IsMadeAtMost (missed ∷ before) now
IsBegunIf Refuse before now = now ≡ before

-- The bytes that were read are the head of a store of such a server and these records. Run one by one on the empty
-- repository, they stop at one of them, for that reason.
pub record StopsRead (A : Type 0) (publishing : Bool) (bytes : List ℕ) (fault : RestoreFault) : Type 0 where
  pub identity : List ℕ
  pub records : List Entry
  pub allowed : IsHead (head_of publishing identity)
  pub each : AllByRecursion (IsRecord Second) records
  pub spelled : bytes ≡ stored (head_of publishing identity) records
  pub stops : StopsOpening A publishing records fault
