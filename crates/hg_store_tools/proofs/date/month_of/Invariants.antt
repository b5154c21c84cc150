use Rattle.std.proofs.Common.{◌≡◌, ◌+◌}
use Rattle.hg_store_tools.specs.Date.{days_of_months}
use Rattle.hg_store_tools.proofs.date.month_of.Given as goal

-- the days of the months so far, and those that are left
abbrev pub invariant-loop-passed : goal.invariant-loop-passed
invariant-loop-passed l = l.day ≡ days_of_months l.year l.passed + l.left
