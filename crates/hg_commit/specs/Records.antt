-- The records of a store, and the pushes that they are of.
use Rattle.std.specs.Prelude.{ℕ, ◌≡◌, ◌≤◌, ◌+◌, ⊤, List, [], ◌∷◌, ◌++◌, length, take}
use Rattle.hg_parts.specs.declared.item.Taken.{Taken}
use Rattle.hg_store.specs.Entries.{Entry}
use Rattle.hg_store.specs.declared.head.Head.{Head}
use Rattle.hg_store.specs.declared.log.Log.{Log}
use Rattle.hg_store.specs.Log.{IsSettled}
use Rattle.hg_stream.specs.Frames.{IsBundle}
use Rattle.hg_push.specs.History.{parts}
use Rattle.hg_push.specs.Places.{IsPlace}
use Rattle.hg_push.specs.Run.{RepositoryOf, run_push}
use Rattle.hg_serve.specs.Histories.{newest_first, serial_run}

-- how many pushes are done in a history
abbrev pub done_in : {A : Type 0} → RepositoryOf A → List (Taken A) → ℕ
done_in first h = length (serial_run first h).journal

-- The record is that of the push at this place of the journal: its bundle has the parts of the push.
pub record IsRecordOf {A : Type 0} (first : RepositoryOf A) (h : List (Taken A)) (place : ℕ)
    (entry : Entry) : Type 0 where
  pub push : ℕ
  pub at : IsPlace run_push first (newest_first h) push place
  pub bundle : IsBundle first.settings.limits entry.bundle (parts push (newest_first h))

-- each record is that of the push at its place of the journal, the first of them at this one
abbrev pub AreRecordsFrom : {A : Type 0} → RepositoryOf A → List (Taken A) → ℕ → List Entry → Type 0
AreRecordsFrom first h place [] = ⊤
AreRecordsFrom first h place (entry ∷ others) =
    IsRecordOf first h place entry × AreRecordsFrom first h (place + 1) others

-- After the records that it was opened with, the log has those of the first pushes of the journal, one for
-- each and so many, and no more. All of it is on the device.
pub record KeepsRecords {A D : Type 0} (seen : D → List ℕ) (may_leave : D → List ℕ → Type 0) (head : Head)
    (stored : List Entry) (first : RepositoryOf A) (h : List (Taken A)) (count : ℕ) (log : Log D) : Type 0
  where
    pub records : List Entry
    pub settled : IsSettled seen may_leave head (stored ++ records) log
    pub each : AreRecordsFrom first h 0 records
    pub number : length records ≡ count

-- A log had, after the records that it was opened with, those of the first pushes of the journal, so many at
-- least, and all of it was on the device.
pub record AreKept {A D : Type 0} (seen : D → List ℕ) (may_leave : D → List ℕ → Type 0) (head : Head)
    (stored : List Entry) (first : RepositoryOf A) (h : List (Taken A)) (count : ℕ) : Type 0 where
  pub log : Log D
  pub records : List Entry
  pub settled : IsSettled seen may_leave head (stored ++ records) log
  pub enough : count ≤ length records
  pub each : AreRecordsFrom first h 0 (take count records)
