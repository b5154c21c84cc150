use Rattle.std.proofs.Common.{◌≡◌, ◌++◌, length}
use Rattle.hg_wireproto.specs.Batch.{escaped}
use Rattle.hg_wireproto.proofs.batch.escape.Given as goal

-- what is written so far and the rest, escaped, are all
abbrev pub invariant-pieces : goal.invariant-pieces
invariant-pieces g l = l.text.items ++ escaped l.rest ≡ l.fn.text.items ++ escaped l.fn.bytes

abbrev pub decreases-pieces : goal.decreases-pieces
decreases-pieces g l = length l.rest
