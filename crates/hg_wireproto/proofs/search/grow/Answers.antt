use Rattle.std.proofs.Common.{ap, arith, length}
use Rattle.std.proofs.lemmas.List.{length_push}
use Rattle.hg_wireproto.proofs.NumberSets.{empty_more}
use Rattle.hg_wireproto.proofs.search.grow.Goals as goal

pub loop-place-preserved : goal.loop-place-preserved
loop-place-preserved g c = (
  empty_more c.loop-place.behind.items _ c.new.result c.in_ok-push.ensures.items c.new.ensures c.loop-place.invariant.0,
  omega (
    arith,
    ap length c.in_ok-push.ensures.items,
    length_push c.loop-place.behind.items c.new.result,
    c.loop-place.invariant.1,
  ),
)
