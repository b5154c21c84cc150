use Rattle.std.proofs.Common.{◌≡◌, Bool}
use Rattle.hg_store.specs.Calls.{bytes_in}
use Rattle.hg_recovery.specs.Standbys.{IsFollowed}
use Rattle.hg_recovery.proofs.Following.{GoesOn}
use Rattle.hg_recovery.proofs.standby.run_rest.Given as goal

-- the records that were read so far were run, and no call was made
abbrev pub invariant-loop : goal.invariant-loop
invariant-loop l = record {
  followed : (publishing : Bool) → IsFollowed (λ f. bytes_in f.pieces.events) publishing l.fn.opening l.fn.repo
      → IsFollowed (λ f. bytes_in f.pieces.events) publishing l.opening l.repo;
  more : GoesOn l.fn.opening.records.entries l.opening.records.entries;
  same : l.opening.calls.history.events ≡ l.fn.opening.calls.history.events;
  name : l.opening.identity ≡ l.fn.opening.identity;
}
