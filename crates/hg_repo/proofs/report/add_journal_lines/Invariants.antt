use Rattle.std.proofs.Common.{◌≡◌, ◌++◌}
use Rattle.hg_repo.specs.Report.{journal_lines}
use Rattle.hg_repo.proofs.report.add_journal_lines.Given as goal

-- the lines so far are written
abbrev pub invariant-loop-number : goal.invariant-loop-number
invariant-loop-number g l = l.text.items ≡ l.fn.text.items ++ journal_lines l.number
