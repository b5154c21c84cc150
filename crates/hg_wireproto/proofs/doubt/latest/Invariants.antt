use Rattle.std.proofs.Common.{◌<◌, ◌≤◌, ℕ, get_or}
use Rattle.hg_wireproto.proofs.doubt.latest.Given as goal

-- none of those so far is later
abbrev pub invariant-loop-rev : goal.invariant-loop-rev
invariant-loop-rev l = (k : ℕ) → k < l.rev-index → get_or l.revs k 0 ≤ l.last
