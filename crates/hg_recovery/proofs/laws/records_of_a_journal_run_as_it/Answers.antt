use Rattle.hg_recovery.proofs.Replaying.{journal_lem}
use Rattle.hg_recovery.proofs.laws.records_of_a_journal_run_as_it.Goals as goal

pub returns : goal.returns
returns g c = journal_lem
