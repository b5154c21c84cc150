-- What adding an entry of a changegroup gives, memory apart.
use Rattle.std.specs.Prelude.{◌≡◌, ◌⊎◌, ℕ, ◌<◌, ◌≤◌, List, [], ◌∷◌, ◌++◌, length, Result, Ok, Err}
use Rattle.hg_types.specs.declared.entry.Entry.{Entry}
use Rattle.hg_types.specs.NullId.{null_id}
use Rattle.hg_delta.specs.Faults.{IsOutcome}
use Rattle.hg_delta.specs.declared.fault.DeltaFault.{DeltaFault}
use Rattle.hg_delta.specs.declared.fault.DeltaFault.TheVariants as fault
use Rattle.hg_log.specs.declared.add.Added.{Added}
use Rattle.hg_log.specs.declared.add.Added.TheVariants.{New, Known}
use Rattle.hg_log.specs.declared.add.AddFault.{AddFault}
use Rattle.hg_log.specs.declared.add.AddFault.TheVariants.{UnknownParent, UnknownBase, Delta, HashMismatch}
use Rattle.hg_log.specs.declared.add.AddFault.TheVariants.{TooMany, NoMemory}
use Rattle.hg_log.specs.NodeId.{node_id_of}
use Rattle.hg_log.specs.Changeset.{Changeset, Log}
use Rattle.hg_log.specs.Rows.{HasNode, HasText, IsKnown}

-- the id is null and the text empty, or a row has both
abbrev pub IsBase : List Changeset → List ℕ → List ℕ → Type 0
IsBase rows node text = ((node ≡ null_id) × (text ≡ []))
    ⊎ ((rev : ℕ) × HasNode rows rev node × HasText rows rev text)

-- the entry is not known, and its parents are
pub record HasParentsIn {A : Type 0} (rows : List Changeset) (entry : Entry A) : Type 0 where
  pub unknown : ¬ (IsKnown rows entry.node.0)
  pub p1 : IsKnown rows entry.p1.0
  pub p2 : IsKnown rows entry.p2.0

-- and its base is known, and its delta has that outcome
pub record HasOutcome {A : Type 0} (log : Log) (entry : Entry A)
    (outcome : Result (List ℕ) DeltaFault) : Type 0 where
  pub parents : HasParentsIn log.rows entry
  pub base : List ℕ
  pub base_is : IsBase log.rows entry.base.0 base
  pub outcome_is : IsOutcome base entry.delta log.limits.text outcome

-- a delta's fault, reported as the fault of its entry; out of memory is reported as such
abbrev pub told_as : DeltaFault → AddFault
told_as fault.Short = Delta fault.Short
told_as fault.Backwards = Delta fault.Backwards
told_as fault.PastEnd = Delta fault.PastEnd
told_as fault.TooLong = Delta fault.TooLong
told_as fault.NoMemory = NoMemory

-- the row of an entry with that text
abbrev pub row_of : {A : Type 0} → Entry A → List ℕ → Changeset
row_of entry text = record { node = entry.node.0; p1 = entry.p1.0; p2 = entry.p2.0; text = text }

-- the log with one more row
abbrev pub with_row : Log → Changeset → Log
with_row log row = record { rows = log.rows ++ row ∷ []; limits = log.limits }

-- the id of the entry is the hash of its parents and the text
abbrev pub Agrees : {A : Type 0} → Entry A → List ℕ → Type 0
Agrees entry text = entry.node.0 ≡ node_id_of entry.p1.0 entry.p2.0 text

-- the answer, and the log after it: the first of these that holds
pub data IsAnswer {A : Type 0} (log : Log) (entry : Entry A) : Result Added AddFault → Log → Type 0 where
  known : IsKnown log.rows entry.node.0 → IsAnswer log entry (Ok Known) log
  unknown_parent : ¬ (IsKnown log.rows entry.node.0) →
      ¬ (IsKnown log.rows entry.p1.0 × IsKnown log.rows entry.p2.0) →
      IsAnswer log entry (Err UnknownParent) log
  unknown_base : HasParentsIn log.rows entry → ¬ (IsKnown log.rows entry.base.0) →
      IsAnswer log entry (Err UnknownBase) log
  bad_delta : (fault : DeltaFault) → HasOutcome log entry (Err fault) →
      IsAnswer log entry (Err (Delta fault)) log
  mismatch : (text : List ℕ) → HasOutcome log entry (Ok text) → ¬ (Agrees entry text) →
      IsAnswer log entry (Err HashMismatch) log
  too_many : (text : List ℕ) → HasOutcome log entry (Ok text) → Agrees entry text →
      log.limits.revisions ≤ length log.rows → IsAnswer log entry (Err TooMany) log
  added : (text : List ℕ) → HasOutcome log entry (Ok text) → Agrees entry text →
      length log.rows < log.limits.revisions →
      IsAnswer log entry (Ok (New (length log.rows))) (with_row log (row_of entry text))

-- the row of a new entry stands after the old ones, under the number that the answer reports
pub record IsAppended {A : Type 0} (old : Log) (entry : Entry A) (rev : ℕ) (new : Log) : Type 0 where
  pub next : rev ≡ length old.rows
  pub text : List ℕ
  pub appended : new ≡ with_row old (row_of entry text)

-- what each good answer leaves
abbrev pub AddLeaves : {A : Type 0} → Log → Entry A → Added → Log → Type 0
AddLeaves old entry (New rev) new = IsAppended old entry rev new
AddLeaves old entry Known new = IsKnown old.rows entry.node.0 × (new ≡ old)
