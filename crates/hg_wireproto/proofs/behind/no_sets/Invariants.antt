use Rattle.std.proofs.Common.{◌≡◌, ◌≤◌, ℕ, get_or, length}
use Rattle.hg_wireproto.proofs.behind.no_sets.Given as goal

-- there is a number 0 for each so far
abbrev pub invariant-loop-rev : goal.invariant-loop-rev
invariant-loop-rev g l =
    (length l.sets.items ≡ l._rev) × (l._rev ≤ l.len) × ((r : ℕ) → get_or l.sets.items r 0 ≡ 0)
