use Rattle.hg_status.proofs.Paging.{no_rows, one_row_more}
use Rattle.hg_status.proofs.page.put_push_rows.Goals as goal

pub loop-push-init : goal.loop-push-init
loop-push-init g c = no_rows _

pub loop-push-preserved : goal.loop-push-preserved
loop-push-preserved g c =
    one_row_more _ _ _ _ _ c.in_ok-row.ensures c.loop-push.invariant (rw c.as_str.ensures.value at c.in_ok-put_within.ensures)

pub returns : goal.returns
returns g c = c.loop-push.invariant
