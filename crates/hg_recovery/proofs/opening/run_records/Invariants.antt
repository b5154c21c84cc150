use Rattle.std.proofs.Common.{◌≡◌, []}
use Rattle.hg_types.specs.Limits.{standard_limits}
use Rattle.hg_store.specs.Calls.{bytes_in}
use Rattle.hg_store.specs.Openings.{HasRead}
use Rattle.hg_recovery.specs.Opening.{empty_repository, setup_for}
use Rattle.hg_recovery.specs.Replays.{Replays}
use Rattle.hg_recovery.proofs.opening.run_records.Given as goal

-- the records that were read so far lead to the repository, whose settings stay
abbrev pub invariant-loop : goal.invariant-loop
invariant-loop l = record {
  read : HasRead (λ f. bytes_in f.pieces.events) (setup_for l.publishing) [] l.opening;
  ran : Replays standard_limits (empty_repository (setup_for l.publishing)) l.opening.records.entries l.repo;
  settings : l.repo.settings ≡ record { publishing = l.publishing; limits = standard_limits; first_push = 0 };
  same : l.opening.calls.history.events ≡ l.fn.opening.calls.history.events;
}
