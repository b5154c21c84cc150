use Rattle.hg_delta.proofs.Outcomes.{has_outcome}
use Rattle.hg_delta.proofs.text.every_delta_has_an_outcome.Goals as goal

pub returns : goal.returns
returns c = has_outcome
