use Rattle.std.proofs.Common.{arith}
use Rattle.hg_store_tools.proofs.Dates.{days_of_years-next, days_of_years-zero}
use Rattle.hg_store_tools.proofs.date.year_of.Goals as goal

pub loop-passed-init : goal.loop-passed-init
loop-passed-init c = omega (arith, days_of_years-zero)

pub loop-passed-preserved : goal.loop-passed-preserved
loop-passed-preserved c =
    omega (
      arith,
      c.loop-passed.invariant,
      days_of_years-next c.loop-passed.passed,
      c.days_of_year-days.ensures,
      c.if-left-days.false,
    )
