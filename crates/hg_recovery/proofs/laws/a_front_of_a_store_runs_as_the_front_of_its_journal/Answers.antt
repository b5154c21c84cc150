use Rattle.hg_recovery.proofs.Replaying.{recovery_lem}
use Rattle.hg_recovery.proofs.laws.a_front_of_a_store_runs_as_the_front_of_its_journal.Goals as goal

pub returns : goal.returns
returns g c = recovery_lem c.a_front_is_read.ensures.front
