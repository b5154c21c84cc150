use Rattle.std.proofs.Common.{append_assoc}
use Rattle.hg_status.specs.Metrics.{phase_lines}
use Rattle.hg_status.proofs.metrics.push_phases.Goals as goal

pub returns : goal.returns
unfolding phase_lines
returns g c =
    rw (
      c.in_ok-push_phase-3.ensures,
      c.in_ok-push_phase-2.ensures,
      c.in_ok-push_phase.ensures,
      c.in_ok-push_head.ensures,
    ) (simp append_assoc)
