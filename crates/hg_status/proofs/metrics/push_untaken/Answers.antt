use Rattle.std.proofs.Common.{append_assoc}
use Rattle.hg_status.specs.Metrics.{untaken_lines}
use Rattle.hg_status.proofs.metrics.push_untaken.Goals as goal

pub returns : goal.returns
unfolding untaken_lines
returns g c =
    rw (
      c.in_ok-push_dismissed-6.ensures,
      c.in_ok-push_dismissed-5.ensures,
      c.in_ok-push_dismissed-4.ensures,
      c.in_ok-push_dismissed-3.ensures,
      c.in_ok-push_dismissed-2.ensures,
      c.in_ok-push_dismissed.ensures,
    ) (simp append_assoc)
