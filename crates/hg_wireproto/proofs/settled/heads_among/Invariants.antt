use Rattle.std.proofs.Common.{take}
use Rattle.hg_wireproto.specs.code.Settled.{AreHeadsAmong}
use Rattle.hg_wireproto.proofs.settled.heads_among.Given as goal

-- those so far
abbrev pub invariant-loop-rev : goal.invariant-loop-rev
invariant-loop-rev g l = AreHeadsAmong l.covered (take l.rev-index l.revs) l.heads.items
