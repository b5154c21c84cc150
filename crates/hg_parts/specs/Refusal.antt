-- What a refusal says to the client.
use Rattle.std.specs.Prelude.{ℕ, List, codes}
use Rattle.hg_parts.specs.declared.refusal.RaceText.{RaceText}
use Rattle.hg_parts.specs.declared.refusal.RaceText.TheVariants.{HeadsChanged, PhasesChanged}
use Rattle.hg_parts.specs.declared.refusal.RaceText.TheVariants.{BookmarksChanged}

-- the text of a race
abbrev pub message_of : RaceText → List ℕ
message_of HeadsChanged = codes "heads changed"
message_of PhasesChanged = codes "phases changed"
message_of BookmarksChanged = codes "bookmarks changed"
