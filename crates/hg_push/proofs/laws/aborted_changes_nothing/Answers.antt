use Rattle.hg_push.specs.Run.{run_push}
use Rattle.hg_push.proofs.Withouts.{aborted_outcome, aborted_serial, without_gone, without_others}
use Rattle.hg_push.proofs.laws.aborted_changes_nothing.Goals as goal

pub returns : goal.returns
returns g c = record {
  state = aborted_serial run_push;
  outcomes = aborted_outcome run_push;
  gone = without_gone;
  others = without_others;
}
