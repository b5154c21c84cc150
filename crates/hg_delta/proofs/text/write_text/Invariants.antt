use Rattle.std.proofs.Common.{length, ◌≤◌}
use Rattle.hg_delta.proofs.Hunks.{Took}
use Rattle.hg_delta.proofs.text.write_text.Given as goal

abbrev pub invariant-loop-rest : goal.invariant-loop-rest
invariant-loop-rest g l =
    record { took : Took l.base l.delta l.end l.rest l.text.items; within : l.end ≤ length l.base }

abbrev pub decreases-loop-rest : goal.decreases-loop-rest
decreases-loop-rest g l = length l.rest
