use Rattle.hg_push.specs.Run.{run_push}
use Rattle.hg_push.proofs.Turns.{in_turn, once}
use Rattle.hg_push.proofs.laws.done_pushes_ran_in_turn.Goals as goal

pub returns : goal.returns
returns g c = record { once = once run_push; in_turn = in_turn run_push }
