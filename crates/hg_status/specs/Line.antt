-- The line of a push, and that of a request that was refused before one was opened.
use Rattle.std.specs.Prelude.{◌≡◌, ℕ, List, [], ◌++◌, codes, decimal}
use Rattle.hg_status.specs.declared.push.ShownOutcome.{ShownOutcome}
use Rattle.hg_status.specs.declared.push.ShownOutcome.TheVariants.{Done, Aborted}
use Rattle.hg_status.specs.declared.push.Push.{Push}
use Rattle.hg_status.specs.declared.push.AbortReason.{AbortReason}
use Rattle.hg_status.specs.declared.push.AbortReason.TheVariants.{StreamFault}
use Rattle.hg_queries.specs.declared.around.Dismissal.{Dismissal}
use Rattle.hg_status.specs.Dismissed.{name_of_dismissal}
use Rattle.hg_status.specs.Numbers.{millis}
use Rattle.hg_status.specs.Reasons.{name_of_reason}

-- a reason, with the number of a stream fault
abbrev pub fault_number : AbortReason → List ℕ
fault_number (StreamFault fault) = codes " " ++ decimal fault
fault_number other = []

abbrev pub reason_text : AbortReason → List ℕ
reason_text reason = name_of_reason reason ++ fault_number reason

-- how a push ended: its place, or the reason
abbrev pub outcome_text : ShownOutcome → List ℕ
outcome_text (Done place) = codes "push " ++ (decimal place ++ codes " done")
outcome_text (Aborted reason) = codes "aborted, " ++ reason_text reason

-- the milliseconds that it held the lock, and those that it waited for the disk
abbrev pub waits_text : Push → List ℕ → List ℕ → List ℕ
waits_text push between behind = millis push.locked ++ (between ++ (millis push.synced ++ behind))

-- what it brought, and what it cost
unfoldable pub cost_text : Push → List ℕ
cost_text push = codes ": " ++ (decimal push.changesets ++ (codes " changesets, " ++ (decimal push.bytes
    ++ (codes " bytes, " ++ waits_text push (codes " ms in the lock, ") (codes " ms for the disk\n")))))

-- the line: a date, how the push ended, and what it brought and cost
pub record IsLine (push : Push) (line : List ℕ) : Type 0 where
  pub date : List ℕ
  pub says : line ≡ date ++ (codes "Z " ++ (outcome_text push.outcome ++ cost_text push))

-- why a request was refused
unfoldable pub refused_text : Dismissal → List ℕ
refused_text why = codes "refused, " ++ (name_of_dismissal why ++ codes "\n")

-- the line of a request that was refused: a date, and why
pub record IsDismissalLine (why : Dismissal) (line : List ℕ) : Type 0 where
  pub date : List ℕ
  pub says : line ≡ date ++ (codes "Z " ++ refused_text why)
