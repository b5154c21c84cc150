use Rattle.std.proofs.Common.{◌≡◌, length}
use Rattle.hg_phases.specs.Phases.{AreFor}
use Rattle.hg_keys_tests.proofs.push_tests.push_names.Given as goal

abbrev pub invariant-loop-number : goal.invariant-loop-number
invariant-loop-number g l = record {
  fits : AreFor l.log.rows l.keys.phases.current;
  count : length l.keys.phases.current.phases ≡ length l.log.rows;
}
