use Rattle.std.proofs.Common.{arith}
use Rattle.hg_wireproto.proofs.Viewing.{kept_more}
use Rattle.hg_wireproto.proofs.since.kept_from.Goals as goal

pub loop-place-preserved : goal.loop-place-preserved
loop-place-preserved g c = (
  omega (arith, c.loop-place-test.true),
  kept_more c.args.log.now.rows c.args.markers.now c.args.phases.now.current.phases c.args.first
      c.loop-place.place c.loop-place.sets.items _ _
      c.loop-place.invariant.1 c.in_ok-push.ensures.items c.kept_set.ensures,
)
