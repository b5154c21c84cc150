-- The answer to an entry and the log after it, as values.
use Rattle.std.specs.Prelude.{ℕ, Bool, not, ◌&&◌, List, [], length, find, Option, Some, is_some, option_map}
use Rattle.std.specs.Prelude.{ok_or, Result, Ok, Err, nat_le, bytes_eq, if◌then◌else◌}
use Rattle.hg_types.specs.declared.entry.Entry.{Entry}
use Rattle.hg_types.specs.NullId.{null_id}
use Rattle.hg_delta.specs.declared.fault.DeltaFault.{DeltaFault}
use Rattle.hg_delta.specs.Outcome.{outcome_of}
use Rattle.hg_log.specs.declared.add.Added.{Added}
use Rattle.hg_log.specs.declared.add.Added.TheVariants.{New, Known}
use Rattle.hg_log.specs.declared.add.AddFault.{AddFault}
use Rattle.hg_log.specs.declared.add.AddFault.TheVariants.{UnknownParent, UnknownBase, Delta, HashMismatch}
use Rattle.hg_log.specs.declared.add.AddFault.TheVariants.{TooMany}
use Rattle.hg_log.specs.NodeId.{node_id_of}
use Rattle.hg_log.specs.Changeset.{Changeset, Log}
use Rattle.hg_log.specs.Add.{row_of, with_row}

infixl 10 ◌>>=◌
abbrev pub ◌>>=◌ : {X Y : Type 0} → Result X AddFault → (X → Result Y AddFault) → Result Y AddFault
(Ok x) >>= f = f x
(Err fault) >>= f = Err fault

-- the first row with that id
abbrev pub row_by_id : List Changeset → List ℕ → Option Changeset
row_by_id rows node = find (λ row. bytes_eq row.node node) rows

-- the text of an id: the null id has the empty one, another has that of its row
unfoldable pub text_by_id : List Changeset → List ℕ → Option (List ℕ)
text_by_id rows node = if bytes_eq node null_id then Some []
    else option_map (λ row. row.text) (row_by_id rows node)

-- an id is known where it has a text
abbrev pub is_known : List Changeset → List ℕ → Bool
is_known rows node = is_some (text_by_id rows node)

-- what a delta gives, its fault reported as that of its entry
abbrev pub told_text : Result (List ℕ) DeltaFault → Result (List ℕ) AddFault
told_text (Ok text) = Ok text
told_text (Err fault) = Err (Delta fault)

-- the text of an entry: what its delta gives of its base, where that is known
unfoldable pub text_of : {A : Type 0} → Log → Entry A → Result (List ℕ) AddFault
text_of log entry = do
  base ← ok_or (text_by_id log.rows entry.base.0) UnknownBase
  told_text (outcome_of base entry.delta log.limits.text)

-- the row of an entry with that text, where the id agrees with the hash and there is room
unfoldable pub checked_row : {A : Type 0} → Log → Entry A → List ℕ → Result Changeset AddFault
checked_row log entry text =
    if not (bytes_eq entry.node.0 (node_id_of entry.p1.0 entry.p2.0 text)) then Err HashMismatch else
    if nat_le log.limits.revisions (length log.rows) then Err TooMany else
    Ok (row_of entry text)

-- the row that an entry becomes, or its first fault
unfoldable pub new_row : {A : Type 0} → Log → Entry A → Result Changeset AddFault
new_row log entry =
    if not (is_known log.rows entry.p1.0 && is_known log.rows entry.p2.0) then Err UnknownParent else
    (text_of log entry >>= checked_row log entry)

-- a row is added under the next number, a fault changes nothing
abbrev pub answered : Log → Result Changeset AddFault → Result Added AddFault × Log
answered log (Ok row) = (Ok (New (length log.rows)), with_row log row)
answered log (Err fault) = (Err fault, log)

-- The answer to an entry and the log after it, memory apart.
unfoldable pub answer_of : {A : Type 0} → Log → Entry A → Result Added AddFault × Log
answer_of log entry = if is_known log.rows entry.node.0 then (Ok Known, log)
    else answered log (new_row log entry)
