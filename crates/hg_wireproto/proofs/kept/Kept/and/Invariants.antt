use Rattle.std.proofs.Common.{◌≡◌, ◌++◌, take}
use Rattle.hg_wireproto.specs.code.Kept.{AreListedZeros}
use Rattle.hg_wireproto.proofs.kept.Kept.and.Given as goal

-- those so far
abbrev pub invariant-loop-set : goal.invariant-loop-set
invariant-loop-set g l = (l.sets.items ≡ l.fn.self ++ take l.set-index l.more)
    × AreListedZeros l.sets.items l.obsolete.items
