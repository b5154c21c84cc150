-- What ends leave over a ledger's whole life. An end is that of the process or of the machine, at any moment.
use Rattle.std.specs.Prelude.{ℕ, ◌≤◌, List, [], ◌∷◌, ◌++◌, length, take, ⊤}
use mathlib.Core.List.{IsPrefix}
use Rattle.hg_parts.specs.declared.item.Taken.{Taken}
use Rattle.hg_store.specs.Entries.{Entry}
use Rattle.hg_store.specs.declared.head.Head.{Head}
use Rattle.hg_store.specs.Device.{LeavesOnly}
use Rattle.hg_store.specs.Files.{StandsFor}
use Rattle.hg_push.specs.Run.{RepositoryOf}
use Rattle.hg_commit.specs.Promises.{Promise}
use Rattle.hg_commit.specs.Records.{AreRecordsFrom, done_in}

-- The file stands for the records that the log was opened with and, after them, those of the first pushes of
-- the journal, none skipped: so many at least.
pub record IsFront {A : Type 0} (head : Head) (stored : List Entry) (first : RepositoryOf A)
    (h : List (Taken A)) (least : ℕ) (file : List ℕ) : Type 0 where
  pub records : List Entry
  pub stands : StandsFor head (stored ++ records) file
  pub each : AreRecordsFrom first h 0 records
  pub enough : least ≤ length records

-- The file stands for the records that the log was opened with and, after them, so many at least. The first so many
-- of these are those of the first pushes of the journal, none skipped.
pub record StillHas {A : Type 0} (head : Head) (stored : List Entry) (first : RepositoryOf A)
    (h : List (Taken A)) (count : ℕ) (file : List ℕ) : Type 0 where
  pub records : List Entry
  pub stands : StandsFor head (stored ++ records) file
  pub enough : count ≤ length records
  pub each : AreRecordsFrom first h 0 (take count records)

-- Whatever an end might have left since the log was opened, at that moment of its device, is such a file; and
-- what one leaves from now on has so many records of pushes at least.
pub record Lives {A D : Type 0} (moment : D → ℕ) (left_since : D → ℕ → List ℕ → Type 0)
    (may_leave : D → List ℕ → Type 0) (head : Head) (stored : List Entry) (first : RepositoryOf A)
    (opened : ℕ) (h : List (Taken A)) (count : ℕ) (device : D) : Type 0 where
  pub later : opened ≤ moment device
  pub always : (file : List ℕ) → left_since device opened file → IsFront head stored first h 0 file
  pub now : (file : List ℕ) → may_leave device file → IsFront head stored first h count file

-- A promise of a device that so many records were brought to is kept: its moment was reached, it is of no more
-- records, and whatever an end might have left since that moment is a front of the journal with as many as it says.
pub record IsKeptSince {A D : Type 0} (moment : D → ℕ) (left_since : D → ℕ → List ℕ → Type 0) (head : Head)
    (stored : List Entry) (first : RepositoryOf A) (h : List (Taken A)) (count : ℕ) (device : D)
    (promise : Promise) : Type 0 where
  pub reached : promise.moment ≤ moment device
  pub few : promise.count ≤ count
  pub left : (file : List ℕ) → left_since device promise.moment file
      → IsFront head stored first h promise.count file

-- Whatever an end might have left since the moment of a promise, and what one leaves from now on, has the records of
-- the first pushes that are done in this history: any number of these that the promise counts.
pub record IsLeftSince {A D : Type 0} (moment : D → ℕ) (left_since : D → ℕ → List ℕ → Type 0)
    (may_leave : D → List ℕ → Type 0) (head : Head) (stored : List Entry) (first : RepositoryOf A)
    (h : List (Taken A)) (device : D) (promise : Promise) : Type 0 where
  pub reached : promise.moment ≤ moment device
  pub since : (rests : ℕ) → rests ≤ done_in first h → rests ≤ promise.count → (file : List ℕ)
      → left_since device promise.moment file → StillHas head stored first h rests file
  pub now : (rests : ℕ) → rests ≤ done_in first h → rests ≤ promise.count → (file : List ℕ)
      → may_leave device file → StillHas head stored first h rests file

-- A device before a write: how many records of pushes were on it, by that history.
pub record Before (A D : Type 0) : Type 0 where
  pub device : D
  pub count : ℕ
  pub history : List (Taken A)

-- A device with so many records, by this history, after these writes, the newest first. Each kept the number or
-- raised it, and at each of its moments an end left those that were there before.
abbrev pub AreWrites : {A D : Type 0} → (D → ℕ) → (D → ℕ → List ℕ → Type 0) → Head → List Entry →
    RepositoryOf A → D → ℕ → List (Taken A) → List (Before A D) → Type 0
AreWrites moment left_since head stored first device count h [] = ⊤
AreWrites moment left_since head stored first device count h (last ∷ earlier) =
    (last.count ≤ count) × IsPrefix last.history h
    × LeavesOnly moment left_since last.device device (IsFront head stored first last.history last.count)
    × AreWrites moment left_since head stored first last.device last.count last.history earlier
