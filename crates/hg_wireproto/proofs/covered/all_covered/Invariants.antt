use Rattle.std.proofs.Common.{◌≡◌, ◌≢◌, ◌<◌, ◌≤◌, ℕ, false, get_or, length}
use Rattle.hg_wireproto.proofs.covered.all_covered.Given as goal

-- those so far
abbrev pub invariant-loop-rev : goal.invariant-loop-rev
invariant-loop-rev g l = (length l.covered.items ≡ l._rev) × (l._rev ≤ l.len)
    × ((r : ℕ) → r < l._rev → get_or l.covered.items r false ≢ false)
