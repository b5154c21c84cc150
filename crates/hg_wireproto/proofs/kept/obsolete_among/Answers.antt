use Rattle.std.proofs.Common.{arith, refl}
use Rattle.hg_wireproto.proofs.Keeping.{all_left, one_left}
use Rattle.hg_wireproto.proofs.kept.obsolete_among.Goals as goal

pub loop-rev-preserved : goal.loop-rev-preserved
loop-rev-preserved g c =
    one_left c.args.sets.now c.args.revs.now c.loop-rev.left.items _ c.loop-rev.rev-index _ c.loop-rev-test.true refl
    c.in_ok-list_obsolete.ensures c.loop-rev.invariant

pub returns : goal.returns
returns g c =
    all_left c.args.sets.now c.args.revs.now c.loop-rev.left.items c.loop-rev.rev-index
    (omega (arith, c.loop-rev-test.false)) c.loop-rev.invariant c.requires
