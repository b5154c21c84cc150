use Rattle.std.proofs.Common.{◌≡◌, length}
use Rattle.hg_phases.specs.Phases.{AreFor}
use Rattle.hg_keys_tests.proofs.push_tests.push_all.Given as goal

abbrev pub invariant-loop-case : goal.invariant-loop-case
invariant-loop-case g l = record {
  fits : AreFor l.log.rows l.keys.phases.current;
  count : length l.keys.phases.current.phases ≡ length l.log.rows;
}
