use Rattle.std.proofs.Common.{append_assoc}
use Rattle.hg_status.specs.Metrics.{holdings_lines}
use Rattle.hg_status.proofs.metrics.push_holdings.Goals as goal

pub returns : goal.returns
unfolding holdings_lines
returns g c =
    rw (
      c.in_ok-push_number-7.ensures,
      c.in_ok-push_number-6.ensures,
      c.in_ok-push_number-5.ensures,
      c.in_ok-push_number-4.ensures,
      c.in_ok-push_number-3.ensures,
      c.in_ok-push_number-2.ensures,
      c.in_ok-push_number.ensures,
    ) (simp append_assoc)
