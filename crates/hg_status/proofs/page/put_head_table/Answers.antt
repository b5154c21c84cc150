use Rattle.std.proofs.Common.{ap}
use Rattle.hg_status.specs.Page.{with_head_table, with_rows}
use Rattle.hg_status.proofs.page.put_head_table.Goals as goal

pub returns : goal.returns
unfolding with_head_table with_rows
returns g c =
    rw (
      c.in_ok-put_left_out-2.ensures,
      c.in_ok-put_left_out.ensures,
      c.in_ok-put-2.ensures,
      c.saturating_sub-hidden.ensures,
      c.saturating_sub-unseen.ensures,
    ) (ap (with_rows c.args.holdings.now) (rw (c.in_ok-put.ensures, c.as_slice.ensures) at c.in_ok-shown.ensures))
