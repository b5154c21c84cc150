use Rattle.std.proofs.Common.{◌≡◌, take}
use Rattle.hg_wireproto.specs.Viewed.{shown_of}
use Rattle.hg_wireproto.proofs.since.shown_among.Given as goal

-- those so far
abbrev pub invariant-loop-rev : goal.invariant-loop-rev
invariant-loop-rev g l = l.shown.items ≡ shown_of l.first l.phases.current.phases (take l.rev-index l.revs)
