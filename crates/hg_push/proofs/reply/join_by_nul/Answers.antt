use Rattle.hg_push.proofs.Replying.{join_more, join_first}
use Rattle.hg_push.proofs.reply.join_by_nul.Goals.{then-place-gt0+in_ok-push, else-place-gt0}
use Rattle.hg_push.proofs.reply.join_by_nul.Goals as goal

pub loop-place-preserved : goal.loop-place-preserved
loop-place-preserved g c =
    let added = c.in_ok-extend_from_slice.ensures.items in
    elim c.if-place-gt0.branch [
      | then-place-gt0+in_ok-push w ↦
          join_more 0 c.args.names.now c.loop-place.place c.index-names-place.result c.loop-place.joined.items
          _ c.loop-place-test.true c.index-names-place.is w.if-place-gt0.true c.loop-place.invariant
          (rw (w.joined-is, w.in_ok-push.ensures.items, c.as_slice.ensures) at added)
      | else-place-gt0 w ↦ join_first 0 c.args.names.now c.loop-place.place c.index-names-place.result
          c.loop-place.joined.items _ c.loop-place-test.true c.index-names-place.is w.if-place-gt0.false
          c.loop-place.invariant (rw (w.joined-is, c.as_slice.ensures) at added)
    ]
