use Rattle.std.proofs.Common.{length}
use Rattle.hg_wireproto.proofs.Settling.{SettledTo}
use Rattle.hg_wireproto.proofs.settled.settle.Given as goal

-- it is said of those so far
abbrev pub invariant-loop-next : goal.invariant-loop-next
invariant-loop-next g l = SettledTo l.copied.rows l.copied.markers l.copied.phases (length l.fn.covered.items)
    l.fn.heads.items l.revs.items l.next l.fn.covered.items l.covered.items

-- each takes one at least from what is left
abbrev pub decreases-loop-next : goal.decreases-loop-next
decreases-loop-next g l = l.left
