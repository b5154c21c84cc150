use Rattle.std.proofs.Common.{◌≡◌, ◌≤◌, length}
use Rattle.std.specs.Prelude.{All}
use Rattle.hg_wireproto.proofs.search.no_windows.Given as goal

-- those so far go through none
abbrev pub invariant-loop-group : goal.invariant-loop-group
invariant-loop-group g l = (length l.windows.items ≡ l._group) × (l._group ≤ l._group-end)
    × All (λ w. w.end ≤ 0) l.windows.items
