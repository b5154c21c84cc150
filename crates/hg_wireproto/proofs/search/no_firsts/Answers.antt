use Rattle.std.proofs.Common.{None, ap, arith, length}
use Rattle.std.proofs.lemmas.List.{length_push}
use Rattle.hg_wireproto.proofs.Searching.{no_first_more}
use Rattle.hg_wireproto.proofs.search.no_firsts.Goals as goal

pub loop-rev-preserved : goal.loop-rev-preserved
loop-rev-preserved g c = (
  omega (arith, ap length c.in_ok-push.ensures.items, length_push c.loop-rev.firsts.items None, c.loop-rev.invariant.0),
  omega (arith, c.loop-rev-test.true),
  no_first_more c.loop-rev.firsts.items _ c.in_ok-push.ensures.items c.loop-rev.invariant.2,
)
