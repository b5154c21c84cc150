use Rattle.hg_status.proofs.Harmless.{shown_none}
use Rattle.hg_status.proofs.laws.shown_names_are_harmless.Goals as goal

pub returns : goal.returns
returns c = shown_none
