use Rattle.std.proofs.Common.{◌≡◌}
use Rattle.hg_help_serve_tests.proofs.closing.Open.close.Given as goal

abbrev pub invariant-comparing : goal.invariant-comparing
invariant-comparing g l = l.tally.id ≡ g.J.Storing.tally
