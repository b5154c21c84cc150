use Rattle.std.proofs.Common.{take}
use Rattle.hg_wireproto.specs.code.Kept.{AreListedZeros, AreSaid}
use Rattle.hg_wireproto.proofs.kept.Kept.show.Given as goal

-- it is said of those so far
abbrev pub invariant-loop-rev : goal.invariant-loop-rev
invariant-loop-rev g l = AreSaid 1 (take l.rev-index l.revs) l.fn.self l.sets.items
    × AreListedZeros l.sets.items l.obsolete.items
