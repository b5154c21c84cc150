use Rattle.hg_phases.specs.Phases.{AreFor}
use Rattle.hg_status_tests.proofs.page_tests.register_all.Given as goal

abbrev pub invariant-rows : goal.invariant-rows
invariant-rows g l = AreFor l.log.rows l.phases.current
