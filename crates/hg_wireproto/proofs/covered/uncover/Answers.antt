use Rattle.std.proofs.Common.{arith, refl}
use Rattle.hg_wireproto.proofs.Uncovering.{all_uncovered, none_uncovered, one_uncovered}
use Rattle.hg_wireproto.proofs.covered.uncover.Goals as goal

pub loop-head-init : goal.loop-head-init
loop-head-init g c = none_uncovered c.args.covered.now.items

pub loop-head-preserved : goal.loop-head-preserved
loop-head-preserved g c =
    one_uncovered c.args.heads.now c.args.covered.now.items c.loop-head.covered.items _ c.loop-head.head-index _
    c.loop-head-test.true refl (omega (
      arith,
      c.requires c.loop-head.head-index 0 c.loop-head-test.true,
      c.loop-head.invariant.as_long,
    )) refl c.loop-head.invariant

pub returns-clause-as_long : goal.returns-clause-as_long
returns-clause-as_long g c = c.loop-head.invariant.as_long

pub returns-clause-each : goal.returns-clause-each
returns-clause-each g c =
    (all_uncovered c.args.heads.now c.args.covered.now.items c.loop-head.covered.items c.loop-head.head-index
    c.loop-head-test.false c.loop-head.invariant).each
