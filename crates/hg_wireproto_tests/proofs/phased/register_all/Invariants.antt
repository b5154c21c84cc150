use Rattle.hg_phases.specs.Phases.{AreFor}
use Rattle.hg_wireproto_tests.proofs.phased.register_all.Given as goal

abbrev pub invariant-loop-phase : goal.invariant-loop-phase
invariant-loop-phase g l = AreFor l.log.rows l.phases.current
