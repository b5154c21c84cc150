use Rattle.hg_cgroup.proofs.OneGroup.{outcome_once}
use Rattle.hg_cgroup.proofs.group.one_outcome.Goals as goal

pub returns : goal.returns
returns g c = outcome_once
