use Rattle.std.proofs.Common.{◌≡◌, ℕ, ◌<◌, slice_get}
use Rattle.hg_repo.proofs.same.are_same_rows.Given as goal

-- the rows so far are the same
abbrev pub invariant-loop-rev : goal.invariant-loop-rev
invariant-loop-rev g l = (k : ℕ) → k < l.rev → slice_get l.log.rows k ≡ slice_get l.other.rows k
