use Rattle.hg_push.specs.Run.{run_push}
use Rattle.hg_push.proofs.Places.{done_place, one_place, placed_done, ran_there}
use Rattle.hg_push.proofs.laws.done_pushes_have_a_place.Goals as goal

pub returns : goal.returns
returns g c = record {
  done = done_place run_push;
  no_other = placed_done run_push;
  alone = one_place run_push;
  ran = ran_there run_push;
}
