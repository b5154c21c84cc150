use Rattle.std.proofs.Common.{◌≤◌, length}
use Rattle.hg_wireproto.proofs.Gathering.{AreGathered}
use Rattle.hg_wireproto.proofs.behind.sets_behind.Given as goal

-- the changesets from there on gave their sets to their parents
abbrev pub invariant-loop-rev : goal.invariant-loop-rev
invariant-loop-rev g l = (l.rev ≤ length l.copied.rows) × AreGathered l.copied.rows l.sets l.rev l.behind.items
