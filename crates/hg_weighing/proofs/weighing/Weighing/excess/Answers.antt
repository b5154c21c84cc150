use Rattle.std.proofs.Common.{◌∙◌, length, Option}
use Rattle.std.proofs.lemmas.Result.{IfOk-weaker}
use Rattle.hg_sizes.specs.declared.weighing.Excess.{Excess}
use Rattle.hg_weighing.specs.Weighing.{IsExcess, IsExcessOf}
use Rattle.hg_weighing.proofs.Weighings.{found_by_weighing, nothing_found}
use Rattle.hg_weighing.proofs.weighing.Weighing.excess.Goals as goal

pub returns-in_default : goal.returns-in_default
returns-in_default g c =
    nothing_found g.J.Naming.first c.args.self.now.most c.args.body.now c.limits-limits.result.now
    (c.limits-limits.ensures.value ∙ c.limits-limits.ensures.first) c.in_ok-entries.field-0 c.in_default.is
    c.in_ok-entries.ensures.none

pub returns : goal.returns
returns g c =
    let first = g.J.Naming.first in
    let body = c.args.body.now in
    let most = c.args.self.now.most in
    IfOk-weaker c.excess_of.result
    (λ (found : Option Excess). IsExcessOf first most (length body) c.as_slice.result.now found)
    (λ (found : Option Excess). IsExcess first most body found)
    (λ found weighs. found_by_weighing first most body c.limits-limits.result.now
    (c.limits-limits.ensures.value ∙ c.limits-limits.ensures.first) c.in_ok-entries.field-0 c.in-Some.entries
    c.as_slice.result.now found c.in-Some.is c.in_ok-entries.ensures.some c.as_slice.ensures weighs)
    c.excess_of.ensures
