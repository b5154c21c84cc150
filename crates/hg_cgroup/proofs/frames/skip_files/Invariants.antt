use Rattle.std.proofs.Common.{length}
use Rattle.hg_cgroup.proofs.Fronts.{SomeFiles}
use Rattle.hg_cgroup.proofs.frames.skip_files.Given as goal

abbrev pub invariant-loop-after : goal.invariant-loop-after
invariant-loop-after l = SomeFiles l.bytes l.rest

abbrev pub decreases-loop-after : goal.decreases-loop-after
decreases-loop-after l = length l.rest
