use Rattle.std.proofs.Common.{◌∙◌, ℕ, List, false, subst}
use Rattle.hg_commit.specs.Clients.{IsKept}
use Rattle.hg_http.specs.Policies.{HasAsked}
use Rattle.hg_web.specs.Answering.{AnswersFitting, AnswersPush}
use Rattle.hg_web.specs.Pushes.{Answered, key_line}
use Rattle.hg_web.proofs.Lettings.{or_lacks}
use Rattle.hg_web.proofs.key.set_key.Goals as goal

pub returns-in-Ok-clause-answered : goal.returns-in-Ok-clause-answered
returns-in-Ok-clause-answered g c =
    let kept = IsKept g.D.Device.seen g.D.Device.may_leave g.D.Device.moment g.J.Storing.head g.J.Storing.stored
    g.J.Naming.first c.args.keeping.now.ledger.now.has_beats in
    let asks = HasAsked (g.P.Policy.asked c.args.policy.now) (g.P.Policy.asked c.push_key_if_let.new.policy) in
    let change = c.args.change.now in
    or_lacks false (AnswersFitting g.J.Naming.capacity g.J.Naming.first kept asks c.args.pusher.now.name change.namespace.now change.key.now
    change.old.now change.new.now) c.args.client c.push_key_if_let.result.1 c.push_key_if_let.result.0 (subst (λ (b : List ℕ).
    Answered (AnswersPush g.J.Naming.capacity g.J.Naming.first kept asks c.args.pusher.now.name b key_line) c.args.client
    c.push_key_if_let.result.1 c.push_key_if_let.result.0) (c.as_slice.ensures.value ∙ c.in-Ok.ensures)
    c.push_key_if_let.ensures.answered)
