use Rattle.hg_push.specs.Run.{run_push}
use Rattle.hg_push.proofs.Leaving.{trimmed_left, trimmed_others}
use Rattle.hg_push.proofs.Trims.{trimmed_serial, trimmed_outcome}
use Rattle.hg_push.proofs.laws.nothing_after.Goals as goal

pub returns : goal.returns
returns g c = record {
  state = trimmed_serial run_push;
  outcomes = trimmed_outcome run_push;
  left = trimmed_left;
  others = trimmed_others;
}
