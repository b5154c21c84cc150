-- How a push ended, as it is shown.
use Rattle.std.specs.Prelude.{ℕ, ◌-◌}
use Rattle.hg_parts.specs.declared.item.CutReason.{CutReason}
use Rattle.hg_parts.specs.declared.item.CutReason.TheVariants as cut
use Rattle.hg_parts.specs.declared.refusal.RaceText.{RaceText}
use Rattle.hg_parts.specs.declared.refusal.RaceText.TheVariants as race
use Rattle.hg_parts.specs.declared.refusal.Refusal.{Refusal}
use Rattle.hg_parts.specs.declared.refusal.Refusal.TheVariants as refusal
use Rattle.hg_push.specs.declared.outcome.Reason.{Reason as PushReason}
use Rattle.hg_push.specs.declared.outcome.Reason.TheVariants as push
use Rattle.hg_push.specs.declared.outcome.Outcome.{Outcome}
use Rattle.hg_push.specs.declared.outcome.Outcome.TheVariants as outcome
use Rattle.hg_status.specs.declared.push.AbortReason.{AbortReason}
use Rattle.hg_status.specs.declared.push.AbortReason.TheVariants.{HeadsChanged, PhasesChanged, BookmarksChanged}
use Rattle.hg_status.specs.declared.push.AbortReason.TheVariants.{Unsupported, KeyFailed, BadPart, BadChangeset}
use Rattle.hg_status.specs.declared.push.AbortReason.TheVariants.{UnknownNode, ClientAborted, BadEnd, StreamFault}
use Rattle.hg_status.specs.declared.push.AbortReason.TheVariants.{ConnectionLost, Dropped, NoMemory}
use Rattle.hg_status.specs.declared.push.ShownOutcome.{ShownOutcome}
use Rattle.hg_status.specs.declared.push.ShownOutcome.TheVariants.{Done, Aborted}

-- what was not as the client saw it
abbrev pub race_shown : RaceText → AbortReason
race_shown race.HeadsChanged = HeadsChanged
race_shown race.PhasesChanged = PhasesChanged
race_shown race.BookmarksChanged = BookmarksChanged

-- why the run of a push was refused
abbrev pub refusal_shown : {A : Type 0} → Refusal A → AbortReason
refusal_shown (refusal.Unsupported place kind params) = Unsupported
refusal_shown (refusal.Raced place text) = race_shown text
refusal_shown (refusal.KeyFailed place id call) = KeyFailed
refusal_shown (refusal.BadPart place) = BadPart
refusal_shown (refusal.BadChangeset place fault) = BadChangeset
refusal_shown (refusal.UnknownNode place) = UnknownNode
refusal_shown (refusal.ClientAbort place) = ClientAborted
refusal_shown refusal.NoMemory = NoMemory

-- why a push was cut off
abbrev pub cut_shown : CutReason → AbortReason
cut_shown (cut.Stream fault) = StreamFault fault
cut_shown cut.ReadFailed = ConnectionLost
cut_shown cut.GaveUp = Dropped

-- why a push was aborted
abbrev pub reason_shown : {A : Type 0} → PushReason (Refusal A) → AbortReason
reason_shown (push.Refused refused) = refusal_shown refused
reason_shown (push.Cut reason) = cut_shown reason
reason_shown push.WrongIndex = BadEnd
reason_shown push.NoMemory = NoMemory

-- how a push ended: a done one with its place, where it is the last of so many
abbrev pub outcome_shown : {A D : Type 0} → Outcome D (Refusal A) → ℕ → ShownOutcome
outcome_shown (outcome.Done done) count = Done (count - 1)
outcome_shown (outcome.Aborted reason) count = Aborted (reason_shown reason)
