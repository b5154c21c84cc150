use Rattle.std.proofs.Common.{◌≡◌, get_or, take}
use Rattle.hg_wireproto.proofs.Searching.{IsNoted}
use Rattle.hg_wireproto.proofs.search.note_first.Given as goal

-- it is noted at those so far
abbrev pub invariant-loop-rev : goal.invariant-loop-rev
invariant-loop-rev g l = (l.first ≡ get_or l.revs 0 0)
    × IsNoted (take l.rev-index l.revs) l.first l.fn.firsts.items l.firsts.items
