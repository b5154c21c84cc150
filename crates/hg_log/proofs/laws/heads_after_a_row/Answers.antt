use Rattle.hg_log.proofs.HeadsAfter.{heads_after}
use Rattle.hg_log.proofs.laws.heads_after_a_row.Goals as goal

pub returns : goal.returns
returns c = heads_after
