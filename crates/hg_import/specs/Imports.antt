-- Bundles of files that become the next records of a store, one after the other.
use Rattle.std.specs.Prelude.{ℕ, ◌≡◌, ◌≢◌, ◌⊎◌, ◌+◌, ◌<◌, ◌≤◌, ◌^◌, ◌++◌, List, [], ◌∷◌, length, Option, None, Some, ⊤}
use Rattle.hg_parts.specs.declared.item.CutReason.TheVariants.{ReadFailed}
use Rattle.hg_types.specs.declared.limits.Limits.{Limits}
use Rattle.hg_parts.specs.declared.refusal.Refusal.{Refusal}
use Rattle.hg_push.specs.declared.outcome.Reason.{Reason}
use Rattle.hg_push.specs.declared.outcome.Reason.TheVariants.{Cut, NoMemory as without_memory}
use Rattle.hg_push.specs.Run.{RepositoryOf}
use Rattle.hg_connection.specs.Devices.{Input, Output}
use Rattle.hg_connection.specs.Sent.{Sends}
use Rattle.hg_connection.specs.declared.sending.Sending.TheVariants.{Whole}
use Rattle.hg_connection.specs.declared.sending.Sending.{Sending}
use Rattle.hg_recovery.specs.Replays.{Replays, ReplaysOne}
use Rattle.hg_store.specs.Device.{LeavesOnly}
use Rattle.hg_store.specs.Entries.{Entry}
use Rattle.hg_store.specs.Log.{IsBeforeOrAfter, IsSettled}
use Rattle.hg_store.specs.Records.{frames}
use Rattle.hg_store.specs.declared.device.DeviceError.{DeviceError}
use Rattle.hg_store.specs.declared.device.DeviceError.TheVariants.{Failed, Full, Memory}
use Rattle.hg_store.specs.declared.head.Head.{Head}
use Rattle.hg_store.specs.declared.head.Version.TheVariants.{Second}
use Rattle.hg_store.specs.declared.log.Log.{Log}
use Rattle.hg_import.specs.Fronts.{FailsToGive, GivesUpTo}
use Rattle.hg_import.specs.Lines.{place_line, reason_line}
use Rattle.hg_import.specs.Pushing.{IsUndone}
use Rattle.hg_import.specs.declared.import.ImportStop.{ImportStop}
use Rattle.hg_import.specs.declared.import.ImportStop.TheVariants.{NotDone, StoreFailed, PlaceUnsent, ReasonUnsent}
use Rattle.hg_import.specs.declared.import.ImportStop.TheVariants.{NoMemory}

-- these are the bytes of a file, or its first ones, one more than a bundle may have
abbrev pub GivesFront : Limits → Input → Input → List ℕ → Type 0
GivesFront limits file left bytes = GivesUpTo (limits.stream + 1) bytes file left

-- The bundle at the front of a file was run as a push, which is done and led from the first repository to the last.
-- This is its record: the bundle, byte for byte, a time that the clock may say, and no name.
pub record PushesFile {A : Type 0} (says : ℕ → Type 0) (limits : Limits) (first : RepositoryOf A) (file left : Input)
    (entry : Entry) (last : RepositoryOf A) : Type 0 where
  pub bytes : List ℕ
  pub read : GivesFront limits file left bytes
  pub behind : List ℕ
  pub spelled : bytes ≡ entry.bundle ++ behind
  pub timed : says entry.stamp.time
  pub unnamed : entry.stamp.name ≡ []
  pub ran : ReplaysOne limits first entry.bundle last

-- the bytes of a file are not had: it failed, or memory was refused
abbrev pub IsUnread : {A : Type 0} → Reason (Refusal A) → Input → Input → Type 0
IsUnread reason file left = ((reason ≡ Cut ReadFailed) × FailsToGive file left) ⊎ (reason ≡ without_memory)

-- Why the push of a file is not done on a repository: its bytes are not had; or its front says why.
abbrev pub IsNotDone : {A : Type 0} → Reason (Refusal A) → Limits → RepositoryOf A → Input → Input → Type 0
IsNotDone reason limits repo file left =
    IsUnread reason file left ⊎ ((bytes : List ℕ) × GivesFront limits file left bytes × IsUndone reason limits repo bytes)

-- a line was sent so
abbrev pub IsSentSo : Sending → List ℕ → Output → Output → Type 0
IsSentSo sending line before after = (count : ℕ) × Sends sending count before after line

-- a line was not taken, or not whole
abbrev pub IsUnsent : Sending → List ℕ → Output → Output → Type 0
IsUnsent sending line before after = (sending ≢ Whole) × IsSentSo sending line before after

-- How it ended where a push is not done for that reason: that was written and flushed, or not taken, or memory was
-- refused for it.
abbrev pub IsToldSo : {A : Type 0} → ImportStop A → Reason (Refusal A) → Output → Output → Type 0
IsToldSo (NotDone told) reason before after = (told ≡ reason) × IsSentSo Whole (reason_line reason) before after
IsToldSo (ReasonUnsent told sending) reason before after =
    (told ≡ reason) × IsUnsent sending (reason_line reason) before after
IsToldSo NoMemory reason before after = after ≡ before
IsToldSo other reason before after = ⊥

-- A repository, the store whose records lead to it, and where lines are written.
pub record Place (A D : Type 0) : Type 0 where
  pub repo : RepositoryOf A
  pub log : Log D
  pub output : Output

module _ {D : Type 0} (seen : D → List ℕ) (may_leave : D → List ℕ → Type 0) (moment : D → ℕ)
    (left_since : D → ℕ → List ℕ → Type 0) where
  -- A store of these records was written to, for one more: at any moment a crash leaves these records, or these and
  -- that one.
  abbrev pub MayAdd : Head → List Entry → Entry → Log D → Log D → Type 0
  MayAdd head records entry old new =
      LeavesOnly moment left_since old.device new.device (IsBeforeOrAfter head records (entry ∷ []))

  -- A store of these records got one more: it is on the device.
  pub record Adds (head : Head) (records : List Entry) (entry : Entry) (old new : Log D) : Type 0 where
    pub settled : IsSettled seen may_leave head (records ++ entry ∷ []) new
    pub any_moment : MayAdd head records entry old new

-- why a store gave a record up: its disk failed, or the file would be too long; of memory nothing is said
abbrev pub GivesUp : {D : Type 0} → (D → ℕ) → DeviceError → Entry → Log D → Log D → Type 0
GivesUp faults Failed entry old new = faults old.device < faults new.device
GivesUp faults Full entry old new = 2 ^ 62 ≤ old.end + 1 + length (frames Second old.digest (entry ∷ []))
GivesUp faults Memory entry old new = ⊤

-- nothing was changed, and nothing written
abbrev pub IsUntouched : {A D : Type 0} → Place A D → Place A D → Type 0
IsUntouched old new = (new.repo ≡ old.repo) × (new.log ≡ old.log) × (new.output ≡ old.output)

-- The push of a file is not done, and changed nothing.
pub record Undoes {A D : Type 0} (reason : Reason (Refusal A)) (limits : Limits) (file left : Input)
    (old new : Place A D) : Type 0 where
  pub why : IsNotDone reason limits old.repo file left
  pub same : new.repo ≡ old.repo
  pub unchanged : new.log ≡ old.log

module _ {D : Type 0} (seen : D → List ℕ) (may_leave : D → List ℕ → Type 0) (moment : D → ℕ)
    (left_since : D → ℕ → List ℕ → Type 0) (faults : D → ℕ) (says : ℕ → Type 0) where
  -- The push of a file is done: its record was added to these, and then the line with its place was written.
  pub record Imports {A : Type 0} (limits : Limits) (head : Head) (records : List Entry) (file left : Input)
      (entry : Entry) (old new : Place A D) : Type 0 where
    pub pushed : PushesFile says limits old.repo file left entry new.repo
    pub added : Adds seen may_leave moment left_since head records entry old.log new.log
    pub told : IsSentSo Whole (place_line (length records)) old.output new.output

  -- the pushes of these files are done, one after the other, and these are their records
  abbrev pub ImportsEach : {A : Type 0} → Limits → Head → List Entry → List Input → List Input → List Entry
      → Place A D → Place A D → Type 0
  ImportsEach limits head records [] [] [] old new = new ≡ old
  ImportsEach {A} limits head records (file ∷ files) (left ∷ lefts) (entry ∷ entries) old new =
      (mid : Place A D) × Imports limits head records file left entry old mid
      × ImportsEach limits head (records ++ entry ∷ []) files lefts entries mid new
  ImportsEach limits head records files lefts entries old new = ⊥

  -- Why it ended at a file, where the store has these records. The push is not done, and the reason was written. Or
  -- it ran, and the store failed, which may have it or not; nothing was written then. Or a line was not taken: the
  -- place of a push that is done, whose record is on the device, or the reason of one that is not. Or memory was
  -- refused for a line, before anything was changed.
  abbrev pub Stops : {A : Type 0} → ImportStop A → Limits → Head → List Entry → Input → Input → Place A D
      → Place A D → Type 0
  Stops (NotDone reason) limits head records file left old new =
      Undoes reason limits file left old new × IsSentSo Whole (reason_line reason) old.output new.output
  Stops (StoreFailed error) limits head records file left old new =
      (entry : Entry) × PushesFile says limits old.repo file left entry new.repo
      × MayAdd seen may_leave moment left_since head records entry old.log new.log
      × GivesUp faults error entry old.log new.log × (new.output ≡ old.output)
  Stops (PlaceUnsent sending) limits head records file left old new =
      (entry : Entry) × PushesFile says limits old.repo file left entry new.repo
      × Adds seen may_leave moment left_since head records entry old.log new.log
      × IsUnsent sending (place_line (length records)) old.output new.output
  Stops (ReasonUnsent reason sending) limits head records file left old new =
      Undoes reason limits file left old new × IsUnsent sending (reason_line reason) old.output new.output
  Stops NoMemory limits head records file left old new = IsUntouched old new

  -- how it ended: behind the last file, or at one of these, and those behind it are as they were
  abbrev pub EndsSo : {A : Type 0} → Option (ImportStop A) → Limits → Head → List Entry → List Input
      → List Input → Place A D → Place A D → Type 0
  EndsSo None limits head records files lefts old new = (files ≡ []) × (lefts ≡ []) × (new ≡ old)
  EndsSo (Some stop) limits head records (file ∷ files) (left ∷ lefts) old new =
      (lefts ≡ files) × Stops stop limits head records file left old new
  EndsSo (Some stop) limits head records files lefts old new = ⊥

-- Bundles of files were brought into a store of these records. The pushes of the first files are done, one after the
-- other: these are their records, which are on the device behind the others, in their order, and they lead from the
-- repository before to one. Then it ended, so.
pub record ImportsFiles {D : Type 0} (seen : D → List ℕ) (may_leave : D → List ℕ → Type 0) (moment : D → ℕ)
    (left_since : D → ℕ → List ℕ → Type 0) (faults : D → ℕ) (says : ℕ → Type 0) {A : Type 0} (limits : Limits)
    (head : Head) (records : List Entry) (files lefts : List Input) (old new : Place A D) (place : ℕ)
    (stop : Option (ImportStop A)) : Type 0 where
  pub first_files : List Input
  pub first_lefts : List Input
  pub last_files : List Input
  pub last_lefts : List Input
  pub files_are : files ≡ first_files ++ last_files
  pub lefts_are : lefts ≡ first_lefts ++ last_lefts
  pub entries : List Entry
  pub mid : Place A D
  pub each : ImportsEach seen may_leave moment left_since faults says limits head records first_files first_lefts
      entries old mid
  pub ran : Replays limits old.repo entries mid.repo
  pub settled : IsSettled seen may_leave head (records ++ entries) mid.log
  pub place_is : place ≡ length records + length entries
  pub ends : EndsSo seen may_leave moment left_since faults says stop limits head (records ++ entries) last_files
      last_lefts mid new
