use Rattle.hg_push.specs.Run.{run_push}
use Rattle.hg_push.proofs.Turns.{answered}
use Rattle.hg_push.proofs.laws.answered_where_closed.Goals as goal

pub returns : goal.returns
returns g c = answered run_push
