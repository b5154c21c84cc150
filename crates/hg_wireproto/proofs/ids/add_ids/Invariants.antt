use Rattle.std.proofs.Common.{◌≤◌, length, take}
use Rattle.hg_wireproto.specs.code.Ids.{AreIds}
use Rattle.hg_wireproto.proofs.ids.add_ids.Given as goal

-- those of the changesets so far
abbrev pub invariant-loop-rev : goal.invariant-loop-rev
invariant-loop-rev g l = (l.rev ≤ length l.copied.rows) × AreIds (take l.rev l.copied.rows) l.ids.keys
