use Rattle.std.proofs.Common.{take}
use Rattle.hg_wireproto.proofs.Keeping.{AreLeft}
use Rattle.hg_wireproto.proofs.kept.obsolete_among.Given as goal

-- those so far
abbrev pub invariant-loop-rev : goal.invariant-loop-rev
invariant-loop-rev g l = AreLeft l.sets (take l.rev-index l.revs) l.left.items
