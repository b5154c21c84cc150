use Rattle.std.proofs.Common.{refl, arith, get_or}
use Rattle.hg_wireproto.proofs.Searching.{noted_all, noted_more}
use Rattle.hg_wireproto.proofs.search.note_first.Goals as goal

pub loop-rev-preserved : goal.loop-rev-preserved
loop-rev-preserved g c =
    let revs = c.args.revs.now in
    let i = c.loop-rev.rev-index in
    let now = c.loop-rev.firsts.items in
    let rev = get_or revs i 0 in (
      refl,
      noted_more revs i (get_or revs 0 0) rev c.args.firsts.now.items now _ c.loop-rev-test.true refl
          (omega (arith, c.requires i 0 c.loop-rev-test.true, c.loop-rev.invariant.1.as_long)) refl
          c.loop-rev.invariant.1,
    )

pub returns-clause-each : goal.returns-clause-each
returns-clause-each g c =
    (noted_all c.args.revs.now c.loop-rev.rev-index (get_or c.args.revs.now 0 0) c.args.firsts.now.items
    c.loop-rev.firsts.items c.loop-rev-test.false c.loop-rev.invariant.1).each
