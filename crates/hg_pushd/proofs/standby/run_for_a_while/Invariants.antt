use Rattle.std.proofs.Common.{◌≡◌}
use Rattle.hg_store.specs.Calls.{bytes_in}
use Rattle.hg_recovery.specs.Standbys.{IsFollowed}
use Rattle.hg_pushd.proofs.standby.run_for_a_while.Given as goal

-- the store is followed, and no call was made but to read it
abbrev pub invariant-loop : goal.invariant-loop
invariant-loop g l = record {
  followed : IsFollowed (λ f. bytes_in f.pieces.events) l.standby.publishing l.standby.opening l.standby.repo;
  same : l.standby.opening.calls.history.events ≡ l.fn.standby.opening.calls.history.events;
}
