use Rattle.hg_log.proofs.Answering.{answer_is}
use Rattle.hg_log.proofs.add.one_answer.Goals as goal

pub returns : goal.returns
returns g c = answer_is c.every_delta_has_an_outcome.ensures c.one_outcome.ensures
