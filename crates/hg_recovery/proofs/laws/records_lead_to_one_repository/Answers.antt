use Rattle.hg_recovery.proofs.Replaying.{one_lem}
use Rattle.hg_recovery.proofs.laws.records_lead_to_one_repository.Goals as goal

pub returns : goal.returns
returns g c = λ limits. one_lem limits (c.bundles_are_read_in_one_way.ensures limits)
