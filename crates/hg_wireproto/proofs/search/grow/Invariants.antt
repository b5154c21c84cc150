use Rattle.std.proofs.Common.{◌≤◌, length}
use Rattle.hg_wireproto.specs.code.Sets.{AreEmpty}
use Rattle.hg_wireproto.proofs.search.grow.Given as goal

-- there are as many sets so far, and none has a number
abbrev pub invariant-loop-place : goal.invariant-loop-place
invariant-loop-place g l = AreEmpty l.behind.items × (l._place ≤ length l.behind.items)
