use Rattle.std.proofs.Common.{◌≡◌, ◌↔◌, length}
use Rattle.hg_types.proofs.WordLemmas.{AreBytes}
use Rattle.hg_types.proofs.words.are_same.Given as goal

-- what is left of both is the same where the whole is
abbrev pub invariant-loop-x : goal.invariant-loop-x
invariant-loop-x l = record {
  same : (l.left ≡ l.right) ↔ (l.bytes ≡ l.others);
  left_bytes : AreBytes l.left;
  right_bytes : AreBytes l.right;
}

abbrev pub decreases-loop-x : goal.decreases-loop-x
decreases-loop-x l = length l.left
