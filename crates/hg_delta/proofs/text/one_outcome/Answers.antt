use Rattle.hg_delta.proofs.Readings.{outcome_once}
use Rattle.hg_delta.proofs.text.one_outcome.Goals as goal

pub returns : goal.returns
returns c = outcome_once
