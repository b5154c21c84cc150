-- The line of a file: the place of its push, or why it is not done, in the words of its reply.
use Rattle.std.specs.Prelude.{ℕ, List, ◌++◌, codes, decimal}
use Rattle.hg_parts.specs.declared.item.CutReason.{CutReason}
use Rattle.hg_parts.specs.declared.item.CutReason.TheVariants.{GaveUp, ReadFailed, Stream}
use Rattle.hg_parts.specs.declared.refusal.RaceText.{RaceText}
use Rattle.hg_parts.specs.declared.refusal.RaceText.TheVariants.{HeadsChanged, PhasesChanged, BookmarksChanged}
use Rattle.hg_parts.specs.declared.refusal.Refusal.{Refusal}
use Rattle.hg_parts.specs.declared.refusal.Refusal.TheVariants.{Unsupported, Raced, KeyFailed, BadPart}
use Rattle.hg_parts.specs.declared.refusal.Refusal.TheVariants.{BadChangeset, UnknownNode, ClientAbort}
use Rattle.hg_parts.specs.declared.refusal.Refusal.TheVariants.{NoMemory}
use Rattle.hg_push.specs.declared.outcome.Reason.{Reason}
use Rattle.hg_push.specs.declared.outcome.Reason.TheVariants.{Refused, Cut, WrongIndex}
use Rattle.hg_push.specs.declared.outcome.Reason.TheVariants.{NoMemory as without_memory}

-- what was not as the client saw it
abbrev pub race_text : RaceText → List ℕ
race_text HeadsChanged = codes "heads changed"
race_text PhasesChanged = codes "phases changed"
race_text BookmarksChanged = codes "bookmarks changed"

-- why the run was refused
abbrev pub refusal_text : {A : Type 0} → Refusal A → List ℕ
refusal_text (Unsupported place kind params) = codes "part " ++ (decimal place ++ codes " is not supported")
refusal_text (Raced place text) = race_text text
refusal_text (KeyFailed place id call) = codes "part " ++ (decimal place ++ codes " did not set its key")
refusal_text (BadPart place) = codes "part " ++ (decimal place ++ codes " is malformed")
refusal_text (BadChangeset place fault) = codes "part " ++ (decimal place ++ codes " holds a bad changeset")
refusal_text (UnknownNode place) = codes "part " ++ (decimal place ++ codes " names an unknown node")
refusal_text (ClientAbort place) = codes "client aborted"
refusal_text NoMemory = codes "out of memory"

-- why the push was cut off
abbrev pub cut_text : CutReason → List ℕ
cut_text (Stream fault) = codes "stream fault " ++ decimal fault
cut_text ReadFailed = codes "read failed"
cut_text GaveUp = codes "push dropped"

-- why the push was aborted
abbrev pub reason_text : {A : Type 0} → Reason (Refusal A) → List ℕ
reason_text (Refused refusal) = refusal_text refusal
reason_text (Cut reason) = cut_text reason
reason_text WrongIndex = codes "bad end mark"
reason_text without_memory = codes "out of memory"

-- the line of a push that is done: its place in the store
abbrev pub place_line : ℕ → List ℕ
place_line place = decimal place ++ codes "\n"

-- the line of a push that is not done
abbrev pub reason_line : {A : Type 0} → Reason (Refusal A) → List ℕ
reason_line reason = reason_text reason ++ codes "\n"
