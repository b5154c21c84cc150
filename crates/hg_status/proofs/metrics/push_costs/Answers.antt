use Rattle.std.proofs.Common.{append_assoc}
use Rattle.hg_status.specs.Metrics.{cost_lines}
use Rattle.hg_status.proofs.metrics.push_costs.Goals as goal

pub returns : goal.returns
unfolding cost_lines
returns g c =
    rw (
      c.in_ok-push_time-2.ensures,
      c.in_ok-push_time.ensures,
      c.in_ok-push_number-2.ensures,
      c.in_ok-push_number.ensures,
    ) (simp append_assoc)
