use Rattle.std.proofs.Common.{◌≤◌, length}
use Rattle.hg_wireproto.specs.code.Covered.{AreCoveredTo}
use Rattle.hg_wireproto.proofs.plain.cover_came.Given as goal

-- it is said of the changesets so far
abbrev pub invariant-loop-rev : goal.invariant-loop-rev
invariant-loop-rev g l = (l.rev ≤ length l.copied.rows)
    × AreCoveredTo l.copied.rows l.copied.markers l.copied.phases l.rev l.covered.items
