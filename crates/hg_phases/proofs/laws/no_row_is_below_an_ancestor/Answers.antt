use Rattle.hg_phases.proofs.CallerLemmas.{no_ancestor_above}
use Rattle.hg_phases.proofs.laws.no_row_is_below_an_ancestor.Goals as goal

pub returns : goal.returns
returns c = no_ancestor_above
