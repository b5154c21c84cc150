use Rattle.hg_push.specs.Run.{run_push}
use Rattle.hg_push.proofs.Holding.{closed_ended, ended_closed}
use Rattle.hg_push.proofs.laws.closed_pushes_have_ended.Goals as goal

pub returns : goal.returns
returns g c = λ first p h. (closed_ended run_push first p h, ended_closed run_push first p h)
