use Rattle.std.proofs.Common.{◌≡◌, ◌+◌, ◌<◌, arith}
use Rattle.hg_store_tools.specs.Date.{days_of_month, days_of_months}
use Rattle.hg_store_tools.proofs.Dates.{days_of_months-next, days_of_months-twelve, days_of_months-zero}
use Rattle.hg_store_tools.proofs.date.month_of.Goals as goal

pub loop-passed-init : goal.loop-passed-init
loop-passed-init c = omega (arith, days_of_months-zero c.args.year)

pub loop-passed-preserved : goal.loop-passed-preserved
loop-passed-preserved c =
    omega (
      arith,
      c.loop-passed.invariant,
      days_of_months-next c.args.year c.loop-passed.passed,
      c.days_of_month-days.ensures,
      c.if-left-days.false,
    )

pub returns : goal.returns
returns c =
    let eleven : c.loop-passed.passed ≡ 11 = omega (arith, c.loop-passed-test.false) in
    let is : c.args.day ≡ days_of_months c.args.year 11 + c.loop-passed.left = rw eleven at c.loop-passed.invariant in
    let within : c.loop-passed.left < days_of_month c.args.year 12 =
    omega (arith, is, c.requires, days_of_months-next c.args.year 11, days_of_months-twelve c.args.year) in
    record { first = omega arith; last = omega arith; within = within; is = is }
