use Rattle.std.proofs.Common.{length}
use Rattle.hg_delta.proofs.Hunks.{Measured}
use Rattle.hg_delta.proofs.text.text_length.Given as goal

abbrev pub invariant-loop-rest : goal.invariant-loop-rest
invariant-loop-rest l = Measured l.base l.delta l.end l.rest l.length

abbrev pub decreases-loop-rest : goal.decreases-loop-rest
decreases-loop-rest l = length l.rest
