use Rattle.std.proofs.Common.{◌≡◌, ◌≤◌, length}
use Rattle.hg_wireproto.specs.code.Doubt.{AreLeftOut}
use Rattle.hg_wireproto.proofs.doubt.left_out.Given as goal

-- it is said of those so far
abbrev pub invariant-loop-rev : goal.invariant-loop-rev
invariant-loop-rev g l = (length l.out.items ≡ l.rev) × (l.rev ≤ length l.copied.rows)
    × AreLeftOut l.copied.rows l.hidden l.rev l.out.items
