use Rattle.std.proofs.Common.{ap, arith, subst, ◌<◌}
use Rattle.hg_tcp.specs.declared.terms.ServeTerms.{ServeTerms}
use Rattle.hg_tcp.proofs.Admitting.{starts, goes_on, stops, all_served}
use Rattle.hg_tcp.proofs.serve.admit_all.Goals as goal

pub admitting-init : goal.admitting-init
admitting-init g c = starts _ c.args.service.now

pub returns-then-not-admit : goal.returns-then-not-admit
returns-then-not-admit g c =
    stops _ (g.D.Acceptor.told c.admitting.door) _ c.args.service.now c.admitting.number c.admitting.invariant
    (subst (λ (t : ServeTerms). c.admitting.number < t.connections) c.terms-connections.ensures
    c.admitting-test.true) c.if-not-admit.ensures

pub admitting-preserved : goal.admitting-preserved
admitting-preserved g c =
    goes_on _ (g.D.Acceptor.told c.admitting.door) _ c.args.service.now c.admitting.number c.admitting.invariant
    c.if-not-admit.ensures

pub returns : goal.returns
returns g c =
    let e = ap (λ (t : ServeTerms). t.connections) c.terms-connections.ensures in
    all_served _ _ c.args.service.now c.admitting.number c.admitting.invariant
    (omega (arith, e, c.admitting-test.false, c.admitting.auto.number-end))
