use Rattle.std.proofs.Common.{◌≡◌}
use Rattle.hg_phases.specs.Phases.{AreFor}
use Rattle.hg_phases_tests.proofs.tests.advance_each.Given as goal

abbrev pub invariant-loop-step : goal.invariant-loop-step
invariant-loop-step g l =
    record { fits : AreFor l.log.rows l.phases.current; saved : l.phases.saved ≡ l.fn.phases.saved }
