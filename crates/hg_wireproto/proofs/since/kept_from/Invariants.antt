use Rattle.std.proofs.Common.{◌≤◌, ◌-◌, length}
use Rattle.hg_wireproto.specs.code.Viewed.{AreKeptFrom}
use Rattle.hg_wireproto.proofs.since.kept_from.Given as goal

-- the numbers so far
abbrev pub invariant-loop-place : goal.invariant-loop-place
invariant-loop-place g l = (l.place ≤ length l.log.rows - l.first)
    × AreKeptFrom l.log.rows l.markers l.phases.current.phases l.first l.place l.sets.items
