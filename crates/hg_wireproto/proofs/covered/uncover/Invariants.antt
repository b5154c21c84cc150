use Rattle.std.proofs.Common.{take}
use Rattle.hg_wireproto.proofs.Uncovering.{AreUncovered}
use Rattle.hg_wireproto.proofs.covered.uncover.Given as goal

-- those so far are heads
abbrev pub invariant-loop-head : goal.invariant-loop-head
invariant-loop-head g l = AreUncovered (take l.head-index l.heads) l.fn.covered.items l.covered.items
