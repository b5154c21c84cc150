use Rattle.std.proofs.Common.{ℕ, List, false, ap, subst, take, ◌∙◌}
use Rattle.hg_commit.specs.Clients.{IsKept}
use Rattle.hg_http.specs.Policies.{HasAsked}
use Rattle.hg_store.specs.Entries.{Stamp}
use Rattle.hg_web.specs.Answering.{AnswersPushKey, OrLacks}
use Rattle.hg_web.specs.Pushes.{Answered}
use Rattle.hg_web.proofs.key.push_key.Goals as goal

pub returns-clause-answered : goal.returns-clause-answered
returns-clause-answered g c =
    let kept = IsKept g.D.Device.seen g.D.Device.may_leave g.D.Device.moment g.J.Storing.head g.J.Storing.stored
    g.J.Naming.first c.args.keeping.now.ledger.now.has_beats in
    let asks = HasAsked (g.P.Policy.asked c.args.policy.now) (g.P.Policy.asked c.push_fields.new.policy) in
    subst (λ (user : List ℕ). Answered (OrLacks false (AnswersPushKey g.J.Naming.capacity g.J.Naming.first kept asks user
    c.args.fields.now)) c.args.client c.push_fields.result.1 c.push_fields.result.0)
    (ap (λ (s : Stamp). s.name) c.new-pusher.ensures ∙ ap (take 255) c.user_of.ensures) c.push_fields.ensures.answered
