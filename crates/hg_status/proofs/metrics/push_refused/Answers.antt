use Rattle.std.proofs.Common.{append_assoc}
use Rattle.hg_status.specs.Metrics.{refused_lines}
use Rattle.hg_status.proofs.metrics.push_refused.Goals as goal

pub returns : goal.returns
unfolding refused_lines
returns g c =
    rw (
      c.in_ok-push_aborted-9.ensures,
      c.in_ok-push_aborted-8.ensures,
      c.in_ok-push_aborted-7.ensures,
      c.in_ok-push_aborted-6.ensures,
      c.in_ok-push_aborted-5.ensures,
      c.in_ok-push_aborted-4.ensures,
      c.in_ok-push_aborted-3.ensures,
      c.in_ok-push_aborted-2.ensures,
      c.in_ok-push_aborted.ensures,
    ) (simp append_assoc)
