use Rattle.std.proofs.Common.{◌≡◌}
use Rattle.hg_phases.specs.Phases.{AreFor}
use Rattle.hg_phases_tests.proofs.tests.register_all.Given as goal

abbrev pub invariant-loop-target : goal.invariant-loop-target
invariant-loop-target g l =
    record { fits : AreFor l.log.rows l.phases.current; saved : l.phases.saved ≡ l.fn.phases.saved }
