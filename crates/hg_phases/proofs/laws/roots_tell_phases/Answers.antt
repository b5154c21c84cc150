use Rattle.hg_phases.proofs.CallerLemmas.{roots_tell}
use Rattle.hg_phases.proofs.laws.roots_tell_phases.Goals as goal

pub returns : goal.returns
returns c = roots_tell
