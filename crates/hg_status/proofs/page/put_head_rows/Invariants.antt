use Rattle.std.proofs.Common.{◌≡◌, drop, string_bytes}
use Rattle.hg_status.specs.Page.{with_head_rows}
use Rattle.hg_status.proofs.page.put_head_rows.Given as goal

-- the rows so far and those that are left are all
abbrev pub invariant-loop-head : goal.invariant-loop-head
invariant-loop-head g l =
    with_head_rows (drop l.head-index l.heads) (string_bytes l.page.text) l.shown
    ≡ with_head_rows l.heads (string_bytes l.fn.page.text) 0
