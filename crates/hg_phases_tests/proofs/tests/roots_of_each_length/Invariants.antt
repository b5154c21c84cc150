use Rattle.hg_phases.specs.Phases.{AreFor}
use Rattle.hg_phases_tests.proofs.tests.roots_of_each_length.Given as goal

abbrev pub invariant-loop-row : goal.invariant-loop-row
invariant-loop-row l = AreFor l.log.rows l.phases.current
