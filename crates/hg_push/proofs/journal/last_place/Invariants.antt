use Rattle.std.proofs.Common.{◌≡◌, ◌==◌, ◌≤◌, false, drop, length}
use Rattle.std.specs.List.{list_any}
use Rattle.hg_push.proofs.journal.last_place.Given as goal

-- the places that were looked at have other pushes
abbrev pub invariant-loop-place : goal.invariant-loop-place
invariant-loop-place l = record {
  within : l.place ≤ length l.journal;
  others : list_any (λ p. p == l.push) (drop l.place l.journal) ≡ false;
}

abbrev pub decreases-loop-place : goal.decreases-loop-place
decreases-loop-place l = l.place
