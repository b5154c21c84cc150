use Rattle.std.proofs.Common.{◌≤◌, ◌-◌, length}
use Rattle.hg_wireproto.specs.code.Viewed.{AreNamesFrom}
use Rattle.hg_wireproto.proofs.since.names_from.Given as goal

-- the names so far
abbrev pub invariant-loop-place : goal.invariant-loop-place
invariant-loop-place g l = (l.place ≤ length l.log.rows - l.first)
    × AreNamesFrom l.log.rows l.first l.place l.names.items
