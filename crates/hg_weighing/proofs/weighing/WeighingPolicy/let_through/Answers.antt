use Rattle.std.proofs.Common.{Option, refl, subst}
use Rattle.hg_sizes.specs.declared.weighing.Excess.{Excess}
use Rattle.hg_weighing.specs.Weighing.{heavy, IsExcess, light}
use Rattle.hg_weighing.proofs.weighing.WeighingPolicy.let_through.Goals as goal

pub returns-in-Ok-None : goal.returns-in-Ok-None
returns-in-Ok-None g c =
    light (subst (λ (found : Option Excess). IsExcess g.J.Naming.first c.args.self.now.most c.args.bundle.now found)
    c.in-Ok-None.field-0-is c.in-Ok-None.ensures) c.let_through.ensures

pub returns-in-Ok-Some : goal.returns-in-Ok-Some
returns-in-Ok-Some g c =
    heavy c.in-Ok-Some.excess
    (subst (λ (found : Option Excess). IsExcess g.J.Naming.first c.args.self.now.most c.args.bundle.now found)
    c.in-Ok-Some.field-0-is c.in-Ok-Some.ensures) c.refusal.ensures refl
