use Rattle.std.proofs.Common.{◌≡◌, ◌++◌, length}
use Rattle.hg_obs.specs.Base85.{encoded}
use Rattle.hg_obs.proofs.base85.base85_encode.Given as goal

abbrev pub invariant-loop-group : goal.invariant-loop-group
invariant-loop-group g l = l.text.items ++ encoded l.rest ≡ encoded l.fn.bytes

abbrev pub decreases-loop-group : goal.decreases-loop-group
decreases-loop-group g l = length l.rest
