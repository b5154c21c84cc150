use Rattle.hg_log.proofs.AncestorLaws.{ancestors_earlier, ancestors_on}
use Rattle.hg_log.proofs.laws.ancestors_come_first.Goals as goal

pub returns : goal.returns
returns c = record { earlier = ancestors_earlier; on = ancestors_on }
