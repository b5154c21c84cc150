-- The report of what a store holds.
use Rattle.std.specs.Prelude.{ℕ, ◌≡◌, ◌+◌, ◌++◌, List, length}
use Rattle.hg_push.specs.Run.{RepositoryOf}
use Rattle.hg_repo.specs.Report.{journal_lines, report_of}
use Rattle.hg_recovery.specs.declared.restore.RestoreFault.{RestoreFault}
use Rattle.hg_recovery.specs.declared.restore.RestoreFault.TheVariants.{NoBundle as no_bundle, Refused as refused}
use Rattle.hg_recovery.specs.declared.restore.RestoreFault.TheVariants.{NoMemory as no_memory}
use Rattle.hg_recovery.specs.Opening.{empty_repository}
use Rattle.hg_recovery.specs.Replays.{IsUnrun, Replays, ReplaysOne, StopsAt}
use Rattle.hg_store.specs.declared.head.Head.{Head}
use Rattle.hg_store.specs.Entries.{Entry}
use Rattle.hg_store.specs.Head.{setup_of}
use Rattle.hg_connection.specs.declared.sending.Sending.{Sending}
use Rattle.hg_connection.specs.declared.sending.Sending.TheVariants.{Whole as sent_whole, Broken}
use Rattle.hg_connection.specs.declared.sending.Sending.TheVariants.{NoMemory as sent_no_memory}
use Rattle.hg_connection.specs.Devices.{Output}
use Rattle.hg_connection.specs.Sent.{Sends}
use Rattle.hg_store_tools.specs.declared.fault.StoreEnd.{StoreEnd}
use Rattle.hg_store_tools.specs.declared.fault.Fault.{Fault}
use Rattle.hg_store_tools.specs.declared.fault.Fault.TheVariants.{NoBundle, Refused, NoMemory, Unsent}
use Rattle.hg_store_tools.specs.Reading.{HasFront, IsRead, IsUnread}

-- the report of the repository, and after it a line for each of so many pushes
abbrev pub report_text : {A : Type 0} → RepositoryOf A → ℕ → List ℕ
report_text repo count = report_of repo ++ journal_lines count

-- The file is a store whose records, run one by one from the empty repository, lead to a repository, and this
-- is its report with the lines of its pushes.
pub record Reports (A : Type 0) (file : List ℕ) (ending : StoreEnd) (text : List ℕ) : Type 0 where
  pub head : Head
  pub records : List Entry
  pub read : IsRead file head records ending
  pub repo : RepositoryOf A
  pub ran : Replays head.limits (empty_repository (setup_of head)) records repo
  pub text_is : text ≡ report_text repo (length records)

-- why records do not run to their end, as a fault of the store
abbrev pub unrun_fault : RestoreFault → Fault
unrun_fault (no_bundle place) = NoBundle place
unrun_fault (refused place) = Refused place
unrun_fault no_memory = NoMemory

abbrev pub sending_fault : Sending → Fault
sending_fault sent_whole = Unsent
sending_fault Broken = Unsent
sending_fault sent_no_memory = NoMemory

-- The repository that records lead to, and how many they are.
pub record Replayed (A : Type 0) : Type 0 where
  pub repo : RepositoryOf A
  pub count : ℕ

-- the record at a place was run
abbrev pub ReplaysRecord : {A : Type 0} → ℕ → Entry → Replayed A → Replayed A → Type 0
ReplaysRecord place entry before after = ReplaysOne before.repo.settings.limits before.repo entry.bundle after.repo
    × (after.repo.settings ≡ before.repo.settings) × (after.count ≡ place + 1)

-- the record at a place was not run
abbrev pub ReplaysNoRecord : {A : Type 0} → ℕ → Entry → Fault → Replayed A → Type 0
ReplaysNoRecord {A} place entry fault before = (why : RestoreFault)
    × IsUnrun why place before.repo.settings.limits before.repo entry.bundle × (fault ≡ unrun_fault why)

-- Why there is no report of a file: it is not read, or one of its records is not run; of memory nothing is said.
pub data IsUntold (A : Type 0) (file : List ℕ) (fault : Fault) : Type 0 where
  unread : IsUnread fault file → IsUntold A file fault
  unrun : (head : Head) (records : List Entry) (tail : List ℕ) (why : RestoreFault) (last : RepositoryOf A) →
      HasFront file head records tail → StopsAt head.limits (empty_repository (setup_of head)) records why last →
      fault ≡ unrun_fault why → IsUntold A file fault

-- Why no report was written of a file, or not all of it: there is none, and nothing was written; or the writer did not
-- take it.
pub data IsUnreported (A : Type 0) (file : List ℕ) (before after : Output) (fault : Fault) : Type 0 where
  untold : IsUntold A file fault → after ≡ before → IsUnreported A file before after fault
  unsent : (ending : StoreEnd) (text : List ℕ) (sending : Sending) (count : ℕ) →
      Reports A file ending text → Sends sending count before after text → fault ≡ sending_fault sending →
      IsUnreported A file before after fault
