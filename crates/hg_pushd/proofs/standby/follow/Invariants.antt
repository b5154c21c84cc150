use Rattle.std.proofs.Common.{◌≡◌, []}
use Rattle.hg_store.specs.Calls.{bytes_in}
use Rattle.hg_recovery.specs.Standbys.{IsFollowed}
use Rattle.hg_pushd.proofs.standby.follow.Given as goal

-- the store is followed, and was not held
abbrev pub invariant-loop-turns : goal.invariant-loop-turns
invariant-loop-turns g l = record {
  followed : IsFollowed (λ f. bytes_in f.pieces.events) l.standby.publishing l.standby.opening l.standby.repo;
  unheld : l.standby.opening.calls.history.events ≡ [];
}
