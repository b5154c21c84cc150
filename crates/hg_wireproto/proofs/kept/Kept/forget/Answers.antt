use Rattle.std.proofs.Common.{◌<◌, arith, get_or, length, refl, subst}
use Rattle.hg_wireproto.specs.code.Kept.{AreListedZeros}
use Rattle.hg_wireproto.proofs.Keeping.{listed_zero, one_said}
use Rattle.hg_wireproto.proofs.kept.Kept.forget.Goals as goal

pub loop-rev-preserved : goal.loop-rev-preserved
loop-rev-preserved g c =
    let sets = c.loop-rev.sets.items in
    let rev = get_or c.args.revs.now c.loop-rev.rev-index 0 in
    let low : rev < length sets =
    omega (arith, c.requires c.loop-rev.rev-index 0 c.loop-rev-test.true, c.loop-rev.invariant.0.as_long) in (
      one_said 0 c.args.revs.now c.args.self sets _ c.loop-rev.rev-index rev c.loop-rev-test.true refl low refl
          c.loop-rev.invariant.0,
      listed_zero sets _ _ rev low refl c.in_ok-list_kept.ensures.has
          (subst (λ s. AreListedZeros s c.list_kept.new.obsolete.items) c.as_slice.ensures.value
          c.in_ok-list_kept.ensures.listed),
    )
