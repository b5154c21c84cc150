use Rattle.std.proofs.Common.{length}
use Rattle.hg_stream.specs.Unbundler.{ready_of}
use Rattle.hg_replay.proofs.Items.{HasStepped}
use Rattle.hg_replay.proofs.push.step_parts.Given as goal

abbrev pub invariant-loop-part : goal.invariant-loop-part
invariant-loop-part g l =
    HasStepped l.fn.book l.book l.push l.index (ready_of l.bundle) (ready_of l.fn.bundle)

abbrev pub decreases-loop-part : goal.decreases-loop-part
decreases-loop-part g l = length (ready_of l.bundle)
