use Rattle.hg_phases.proofs.CallerLemmas.{for_none}
use Rattle.hg_status_tests.proofs.page_tests.no_phases.Goals as goal

pub returns : goal.returns
returns g c = rw c.new.ensures (for_none c.args.log.now.rows)
