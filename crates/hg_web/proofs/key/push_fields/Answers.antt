use Rattle.std.proofs.Common.{ℕ, List, false, subst}
use Rattle.std.specs.Prelude.{codes}
use Rattle.hg_commit.specs.Clients.{IsKept}
use Rattle.hg_http.specs.Policies.{HasAsked}
use Rattle.hg_http.specs.Requests.{argument_in}
use Rattle.hg_web.specs.Answering.{AnswersChange, OrLacks}
use Rattle.hg_web.specs.Pushes.{Answered}
use Rattle.hg_web.proofs.key.push_fields.Goals as goal

pub returns-clause-answered : goal.returns-clause-answered
returns-clause-answered g c =
    let kept = IsKept g.D.Device.seen g.D.Device.may_leave g.D.Device.moment g.J.Storing.head g.J.Storing.stored
    g.J.Naming.first c.args.keeping.now.ledger.now.has_beats in
    let asks = HasAsked (g.P.Policy.asked c.args.policy.now) (g.P.Policy.asked c.push_change.new.policy) in
    let Sets : List ℕ → List ℕ → List ℕ → List ℕ → Type 0 = λ namespace key old new.
    Answered (OrLacks false (AnswersChange g.J.Naming.capacity g.J.Naming.first kept asks c.args.pusher.now.name namespace key old new))
    c.args.client c.push_change.result.1 c.push_change.result.0 in
    let change = c.read_change-change.result in
    let is = c.read_change-change.ensures in
    let argument = argument_in c.args.fields.now in
    subst (λ n. Sets n (argument (codes "key")) (argument (codes "old")) (argument (codes "new"))) is.namespace
    (subst (λ k. Sets change.namespace.now k (argument (codes "old")) (argument (codes "new"))) is.key
    (subst (λ o. Sets change.namespace.now change.key.now o (argument (codes "new"))) is.old
    (subst (λ n. Sets change.namespace.now change.key.now change.old.now n) is.new c.push_change.ensures.answered)))
