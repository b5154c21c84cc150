use Rattle.std.proofs.Common.{[]}
use Rattle.hg_store.specs.Openings.{HasRead}
use Rattle.hg_store_tests.specs.Setups.{standard_setup}
use Rattle.hg_store_tests.proofs.opening_tests.read_each.Given as goal

-- so many records were read
abbrev pub invariant-loop-count : goal.invariant-loop-count
invariant-loop-count g l = HasRead g.C.Calls.drawn standard_setup [] l.opening
