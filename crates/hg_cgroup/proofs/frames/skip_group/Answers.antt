use Rattle.std.proofs.Common.{arith}
use Rattle.hg_cgroup.proofs.Fronts.{more_chunks}
use Rattle.hg_cgroup.proofs.frames.skip_group.Goals as goal

pub loop-after-preserved : goal.loop-after-preserved
loop-after-preserved c =
    let read = rw c.in-Content-default.is-0 at c.in_ok-after.ensures.chunk in
    record {
      some = more_chunks c.args.bytes.now c.loop-after.rest.now c.in_ok-after.field-0.1.now
          c.in-Content-default.field-0-0.now c.loop-after.invariant.some read.0 read.1;
      within = omega (arith, c.in_ok-after.ensures.shorter);
    }
