use Rattle.std.specs.Prelude.{◌≡◌, ◌++◌, ◌%◌, length}
use Rattle.hg_store_tools.specs.Places.{marks_bytes}
use Rattle.hg_store_tools.proofs.index.read_marks.Given as goal

-- the marks so far, and what follows them
abbrev pub invariant-loop-behind : goal.invariant-loop-behind
invariant-loop-behind g l = (l.body ≡ marks_bytes l.marks.items ++ l.behind) × (length l.behind % 36 ≡ 0)

abbrev pub decreases-loop-behind : goal.decreases-loop-behind
decreases-loop-behind g l = length l.behind
