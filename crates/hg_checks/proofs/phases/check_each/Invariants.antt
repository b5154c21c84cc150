use Rattle.std.proofs.Common.{◌≡◌, drop}
use Rattle.hg_checks.specs.Checked.{all_checked}
use Rattle.hg_checks.specs.Checks.{phase_checked}
use Rattle.hg_checks.proofs.phases.check_each.Given as goal

-- the entries that are left decide
abbrev pub invariant-loop-entry : goal.invariant-loop-entry
invariant-loop-entry g l =
    all_checked (phase_checked l.log.rows l.phases.current.phases) (drop l.entry-index l.entries)
    ≡ all_checked (phase_checked l.log.rows l.phases.current.phases) l.entries
