use Rattle.std.proofs.Common.{◌≤◌, length, take}
use Rattle.hg_wireproto.specs.code.HeadIds.{AreHeadIds}
use Rattle.hg_wireproto.proofs.head_ids.bring_up.Given as goal

-- those of the changesets so far
abbrev pub invariant-loop-rev : goal.invariant-loop-rev
invariant-loop-rev g l = (l.rev ≤ length l.copied.rows) × AreHeadIds (take l.rev l.copied.rows) l.heads.keys
