use Rattle.std.proofs.Common.{◌≡◌, length}
use Rattle.hg_names.specs.Names.{name_cmp}
use Rattle.hg_names.proofs.Numbers.{AreBytes}
use Rattle.hg_names.proofs.order.order.Given as goal

-- what is left of both has the order of the whole
abbrev pub invariant-loop-x : goal.invariant-loop-x
invariant-loop-x l = record {
  same : name_cmp l.left l.right ≡ name_cmp l.a l.b;
  left_bytes : AreBytes l.left;
  right_bytes : AreBytes l.right;
}

abbrev pub decreases-loop-x : goal.decreases-loop-x
decreases-loop-x l = length l.left
