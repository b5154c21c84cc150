-- What contracts see of the two values under the locks of a ledger.
use Rattle.std.specs.Prelude.{ℕ, ◌≡◌, Bool, List, ◌∷◌, ◌++◌, All}
use Rattle.hg_parts.specs.declared.item.Taken.{Taken}
use Rattle.hg_store.specs.Entries.{Entry}
use Rattle.hg_store.specs.declared.log.Log.{Log}
use Rattle.hg_push.specs.Run.{RepositoryOf}
use Rattle.hg_commit.specs.declared.waiting.Record.{Record}
use Rattle.hg_commit.specs.Records.{IsRecordOf}

-- A log with its device, how many records are on it after those that it was opened with, the batch that is written
-- next, for how many more that has room, whether it is broken, and the history that its witness has seen. Writes are
-- numbered as they begin: how many began, and the last one that made a promise.
pub record DiskView (A D : Type 0) : Type 0 where
  pub log : Log D
  pub device : D
  pub count : ℕ
  pub batch : List Entry
  pub room : ℕ
  pub is_broken : Bool
  pub history : List (Taken A)
  pub begun : ℕ
  pub ended : ℕ

-- The records that wait, the highest place first: how many are on the device, whether it is broken, and the history
-- that their witness has seen. Writes are numbered as they begin: how many began, and the last one that made a promise.
pub record WaitingView (A : Type 0) : Type 0 where
  pub records : List (Record A)
  pub count : ℕ
  pub is_broken : Bool
  pub history : List (Taken A)
  pub begun : ℕ
  pub ended : ℕ

-- One record more waits, among those that waited before.
pub record IsHandedIn {A : Type 0} (before : List (Record A)) (entry : Record A) (now : List (Record A)) : Type 0
  where
    pub above : List (Record A)
    pub below : List (Record A)
    pub waited : before ≡ above ++ below
    pub waits : now ≡ above ++ entry ∷ below

-- each record that waits is that of the push at its place
abbrev pub AreWaiting : {A : Type 0} → RepositoryOf A → List (Taken A) → List (Record A) → Type 0
AreWaiting first h records = All (λ r. IsRecordOf first h r.place r.entry) records
