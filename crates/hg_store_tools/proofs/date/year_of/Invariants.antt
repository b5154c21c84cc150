use Rattle.std.proofs.Common.{◌≡◌, ◌+◌}
use Rattle.hg_store_tools.specs.Date.{days_of_years}
use Rattle.hg_store_tools.proofs.date.year_of.Given as goal

-- the days of the years so far, and those that are left
abbrev pub invariant-loop-passed : goal.invariant-loop-passed
invariant-loop-passed l = l.day ≡ days_of_years l.passed + l.left
