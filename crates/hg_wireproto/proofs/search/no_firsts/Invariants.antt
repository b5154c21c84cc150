use Rattle.std.proofs.Common.{◌≡◌, ◌≤◌, ℕ, length}
use Rattle.hg_wireproto.specs.code.Search.{HasFirst}
use Rattle.hg_wireproto.proofs.search.no_firsts.Given as goal

-- those so far are of no branch
abbrev pub invariant-loop-rev : goal.invariant-loop-rev
invariant-loop-rev g l = (length l.firsts.items ≡ l._rev) × (l._rev ≤ l.len)
    × ((r f : ℕ) → ¬ (HasFirst l.firsts.items r f))
