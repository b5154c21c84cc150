use Rattle.std.proofs.Common.{◌≤◌, length}
use Rattle.hg_wireproto.proofs.Coming.{AreListedTo}
use Rattle.hg_wireproto.proofs.since.obsolete_since.Given as goal

-- those so far
abbrev pub invariant-loop-place : goal.invariant-loop-place
invariant-loop-place g l = (l.known ≤ l.place) × (l.place ≤ length l.list)
    × AreListedTo l.log.rows l.markers l.phases.current.phases l.first l.known l.place l.revs.items
