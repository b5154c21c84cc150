use Rattle.std.proofs.Common.{◌≡◌, ◌++◌, length}
use Rattle.hg_wireproto.specs.Batch.{escaped}
use Rattle.hg_wireproto.proofs.batch.push_escaped.Given as goal

-- what is written so far and the rest, escaped, are all
abbrev pub invariant-loop-place : goal.invariant-loop-place
invariant-loop-place g l = l.text.items ++ escaped l.rest ≡ l.fn.text.items ++ escaped l.fn.bytes

abbrev pub decreases-loop-place : goal.decreases-loop-place
decreases-loop-place g l = length l.rest
