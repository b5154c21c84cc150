use Rattle.hg_push.specs.Run.{run_push}
use Rattle.hg_push.proofs.Steps.{one_answer, there, whole}
use Rattle.hg_push.proofs.laws.turns_are_steps_of_the_journal.Goals as goal

pub returns : goal.returns
returns g c = record { whole = whole run_push; there = there run_push; alone = one_answer run_push }
