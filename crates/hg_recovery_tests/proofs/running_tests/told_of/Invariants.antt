use Rattle.std.proofs.Common.{[]}
use Rattle.hg_types.specs.Limits.{IsAllowed}
use Rattle.hg_store.specs.Calls.{bytes_in}
use Rattle.hg_store.specs.Openings.{HasRead}
use Rattle.hg_recovery_tests.specs.Setups.{standard_setup}
use Rattle.hg_recovery_tests.proofs.running_tests.told_of.Given as goal

-- so many records were read and run
abbrev pub invariant-loop-count : goal.invariant-loop-count
invariant-loop-count l = record {
  read : HasRead (λ p. bytes_in p.pieces.events) standard_setup [] l.opening;
  allowed : IsAllowed l.repo.settings.limits;
}
