use Rattle.std.proofs.Common.{append_assoc}
use Rattle.hg_status.specs.Page.{refusals_text}
use Rattle.hg_status.proofs.refusals.push_refusals.Goals as goal

pub returns : goal.returns
unfolding refusals_text
returns g c =
    rw (
      c.in_ok-push_line.ensures,
      c.in_ok-push_str.ensures.bytes,
      c.as_str.ensures.value,
      c.in_ok-push_items.ensures,
      c.new-items.ensures.bytes,
    ) (simp append_assoc)
