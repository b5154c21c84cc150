use Rattle.std.proofs.Common.{◌≡◌, ℕ, ◌<◌}
use Rattle.hg_phases.specs.Order.{phase_at}
use Rattle.hg_phases.specs.Standing.{phases_told}
use Rattle.hg_phases.proofs.standing.are_same.Given as goal

-- the rows so far have the same phases
abbrev pub invariant-loop-row : goal.invariant-loop-row
invariant-loop-row l =
    (r : ℕ) → r < l.row → phase_at (phases_told l.rows) r ≡ phase_at (phases_told l.others) r
