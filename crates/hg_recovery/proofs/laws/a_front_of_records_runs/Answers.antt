use Rattle.hg_recovery.proofs.Replaying.{split_lem, join_lem}
use Rattle.hg_recovery.proofs.laws.a_front_of_records_runs.Goals as goal

pub returns-clause-split : goal.returns-clause-split
returns-clause-split g c = split_lem

pub returns-clause-joined : goal.returns-clause-joined
returns-clause-joined g c = join_lem
