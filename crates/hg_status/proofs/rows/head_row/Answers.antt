use Rattle.std.proofs.Common.{append_assoc}
use Rattle.hg_status.specs.Rows.{row_of}
use Rattle.hg_status.proofs.rows.head_row.Goals as goal

pub returns : goal.returns
unfolding row_of
returns g c =
    rw (
      c.in_ok-push_bookmark_cell.ensures,
      c.in_ok-push_branch_cell.ensures,
      c.in_ok-push_phase_cell.ensures,
      c.in_ok-push_id_cell.ensures,
      c.new-row.ensures.bytes,
    ) (simp append_assoc)
