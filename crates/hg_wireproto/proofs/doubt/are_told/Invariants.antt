use Rattle.hg_wireproto.specs.code.Doubt.{AreAllTold}
use Rattle.hg_wireproto.proofs.doubt.are_told.Given as goal

-- it is told of those so far
abbrev pub invariant-loop-rev : goal.invariant-loop-rev
invariant-loop-rev l = AreAllTold l.behind l.last l.revs l.rev-index
