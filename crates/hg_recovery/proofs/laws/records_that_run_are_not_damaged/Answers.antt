use Rattle.hg_recovery.proofs.Replaying.{undamaged_lem}
use Rattle.hg_recovery.proofs.laws.records_that_run_are_not_damaged.Goals as goal

pub returns : goal.returns
returns g c = λ limits first last mid records fault all stops.
    undamaged_lem limits (c.bundles_are_read_in_one_way.ensures limits) first last mid records fault stops.place
    stops.place stops.entry stops.more stops.at stops.ran stops.unrun all
