use Rattle.hg_phases.proofs.CallerLemmas.{for_none}
use Rattle.hg_checks_tests.proofs.tests.no_phases.Goals as goal

pub returns-clause-fits : goal.returns-clause-fits
returns-clause-fits g c = rw c.new.ensures (for_none c.args.log.now.rows)
