use Rattle.std.proofs.Common.{◌≡◌}
use Rattle.hg_phases.specs.Phases.{AreFor}
use Rattle.hg_phases_tests.proofs.tests.register_many.Given as goal

abbrev pub invariant-rows : goal.invariant-rows
invariant-rows g l = record {
  fits : AreFor l.log.rows l.phases.current;
  saved : l.phases.saved ≡ l.fn.phases.saved;
}
