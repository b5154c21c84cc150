use Rattle.std.proofs.Common.{◌≤◌, ◌-◌, length}
use Rattle.hg_wireproto.specs.code.Viewed.{AreEntriesFrom}
use Rattle.hg_wireproto.proofs.since.entries_from.Given as goal

-- the entries so far
abbrev pub invariant-loop-place : goal.invariant-loop-place
invariant-loop-place g l = (l.place ≤ length l.log.rows - l.first)
    × AreEntriesFrom l.log.rows l.first l.place l.entries.items
