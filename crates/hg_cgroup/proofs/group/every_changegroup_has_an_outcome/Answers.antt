use Rattle.hg_cgroup.proofs.Outcomes.{outcome_is}
use Rattle.hg_cgroup.proofs.group.every_changegroup_has_an_outcome.Goals as goal

pub returns : goal.returns
returns g c = outcome_is g.row.A.Denot
