use Rattle.std.proofs.Common.{◌≤◌, length}
use Rattle.hg_cgroup.proofs.Fronts.{SomeChunks}
use Rattle.hg_cgroup.proofs.frames.skip_group.Given as goal

abbrev pub invariant-loop-after : goal.invariant-loop-after
invariant-loop-after l = record { some : SomeChunks l.bytes l.rest; within : length l.rest ≤ length l.bytes }

abbrev pub decreases-loop-after : goal.decreases-loop-after
decreases-loop-after l = length l.rest
