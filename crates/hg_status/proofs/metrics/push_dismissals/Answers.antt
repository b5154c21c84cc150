use Rattle.std.proofs.Common.{append_assoc}
use Rattle.hg_status.specs.Metrics.{dismissed_lines}
use Rattle.hg_status.proofs.metrics.push_dismissals.Goals as goal

pub returns : goal.returns
unfolding dismissed_lines
returns g c =
    rw (
      c.in_ok-push_untaken.ensures,
      c.in_ok-push_unread.ensures,
      c.in_ok-push_head.ensures,
    ) (simp append_assoc)
