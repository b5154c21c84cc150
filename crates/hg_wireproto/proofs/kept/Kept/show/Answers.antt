use Rattle.std.proofs.Common.{◌<◌, arith, get_or, length, refl}
use Rattle.hg_wireproto.proofs.Keeping.{listed_one, one_said}
use Rattle.hg_wireproto.proofs.kept.Kept.show.Goals as goal

pub loop-rev-preserved : goal.loop-rev-preserved
loop-rev-preserved g c =
    let sets = c.loop-rev.sets.items in
    let rev = get_or c.args.revs.now c.loop-rev.rev-index 0 in
    let low : rev < length sets =
    omega (arith, c.requires c.loop-rev.rev-index 0 c.loop-rev-test.true, c.loop-rev.invariant.0.as_long) in (
      one_said 1 c.args.revs.now c.args.self sets _ c.loop-rev.rev-index rev c.loop-rev-test.true refl low refl
          c.loop-rev.invariant.0,
      listed_one sets _ _ rev low refl c.loop-rev.invariant.1,
    )
