use Rattle.hg_push.proofs.Worlds.{all_sound}
use Rattle.hg_push.proofs.laws.taken_once.Goals as goal

pub returns : goal.returns
returns g c = record {
  in_order = λ capacity events p. (all_sound capacity events).once p;
  legal = λ capacity events. (all_sound capacity events).legal;
}
