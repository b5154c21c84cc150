use Rattle.std.proofs.Common.{◌≡◌, ◌∙◌, [], Option, sym}
use Rattle.std.proofs.lemmas.Result.{IfOk-weaker}
use Rattle.hg_sizes.specs.declared.weighing.Excess.{Excess}
use Rattle.hg_sizes.specs.Weights.{excess_of}
use Rattle.hg_weighing.specs.Weighing.{alone, excess_in, IsExcessOf, looked}
use Rattle.hg_weighing.proofs.weighing.Weighing.excess_of.Goals as goal

pub returns-then-not-has_bases : goal.returns-then-not-has_bases
returns-then-not-has_bases g c =
    let most = c.args.self.now.most in
    let entries = c.args.entries.now in
    IfOk-weaker c.weigh.result (λ (found : Option Excess). found ≡ excess_of most c.args.bytes entries [])
    (λ (found : Option Excess). IsExcessOf g.J.Naming.first most c.args.bytes entries found)
    (λ found is. alone (sym c.has_bases.ensures ∙ c.if-not-has_bases.true) is) c.weigh.ensures

pub returns : goal.returns
returns g c =
    let most = c.args.self.now.most in
    let entries = c.args.entries.now in
    let told = c.look_resting-found.ensures.looked in
    IfOk-weaker c.look_resting-found.result.0
    (λ (found : Option Excess). found ≡ excess_in most c.args.bytes entries told.0.rows)
    (λ (found : Option Excess). IsExcessOf g.J.Naming.first most c.args.bytes entries found)
    (λ found is. looked _ _ told.0 told.1 is) told.2
