use Rattle.hg_log.proofs.Answering.{has_answer}
use Rattle.hg_log.proofs.add.every_entry_has_an_answer.Goals as goal

pub returns : goal.returns
returns g c = has_answer c.every_delta_has_an_outcome.ensures
