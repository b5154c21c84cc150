use Rattle.std.proofs.Common.{◌∙◌, sym}
use Rattle.hg_status.proofs.Paging.{pushes_none, pushes_some}
use Rattle.hg_status.proofs.page.put_pushes.Goals as goal

pub returns-then-is_empty : goal.returns-then-is_empty
returns-then-is_empty g c =
    pushes_none _ _ _ (sym c.is_empty.ensures ∙ c.if-is_empty.true) (rw c.in_ok-put.ensures at c.in_ok-put-2.ensures)

pub returns : goal.returns
returns g c =
    pushes_some _ _ _ _ _ (sym c.is_empty.ensures ∙ c.if-is_empty.false)
    (rw c.in_ok-put.ensures at c.in_ok-put-3.ensures) c.in_ok-put_push_rows.ensures c.in_ok-put-4.ensures
