use Rattle.std.proofs.Common.{◌∙◌, ap, rules, subst, sym}
use Rattle.hg_commit.specs.Clients.{IsKept}
use Rattle.hg_http.specs.Policies.{HasAsked}
use Rattle.hg_web.specs.Answering.{around_of, AnswersRequest}
use Rattle.hg_web.specs.Pushes.{Answered}
use Rattle.hg_web.specs.code.Wires.{seen_by}
use Rattle.hg_web.proofs.Wires.{last_asked, last_noted, responds, told_all}
use Rattle.hg_web.proofs.wire.Wire.answer.Goals.{in-Text-1, in-Shown-1, in-Moved-1, in-NotLet-1, in-Refused-1}
use Rattle.hg_web.proofs.wire.Wire.answer.Goals as goal

pub invariant_of-self-in-Ok-4 : goal.invariant_of-self-in-Ok-4
invariant_of-self-in-Ok-4 g c =
    told_all _ _ c.answer_request-client.result.0 _ _ _ c.put_back.ensures
    (last_noted c.new.result.items c.and-self-inside.result.items _ _ c.new.ensures c.and-self-inside.ensures)
    (last_asked g.P.Policy.asked c.new.result.items c.and-self-inside.result.items _ _ c.new.ensures
    c.and-self-inside.ensures)

pub returns-in-Ok-clause-ok : goal.returns-in-Ok-clause-ok
returns-in-Ok-clause-ok g c =
    let kept = IsKept g.D.Device.seen g.D.Device.may_leave g.D.Device.moment g.J.Storing.head g.J.Storing.stored
    g.J.Naming.first in
    let inside = c.self.inside in
    let before = c.in-Some.client in
    let after = c.answer_request-client.result.0 in
    let place = sym c.in-Some.is ∙ c.take.ensures.value in
    let given = g.P.Policy.asked inside.policy in
    let ended = g.P.Policy.asked c.answer_request-client.new.policy in
    let answers = subst (λ r. Answered (AnswersRequest g.J.Naming.capacity g.J.Naming.first
    (around_of (kept inside.host.keeping.ledger.now.has_beats) g.S.Shown.is_page g.S.Shown.are_metrics inside.terms.now) (HasAsked given ended)
    c.args.request.now) before r after) c.in-Ok.is c.answer_request-client.ensures.answered in
    responds g.J.Naming.capacity g.J.Naming.first kept g.S.Shown.is_page g.S.Shown.are_metrics
    c.args.self.now c.match-answer-2.self c.args.request.now c.respond.new.response c.in-Ok.answer
    inside.terms.now inside.host.keeping.ledger.now.has_beats _ before after _ _ given _ ended _ _ c.self.view_is
    (elim c.match-answer-2.branch [
      | in-Text-1 w ↦ w.self-is
      | in-Shown-1 w ↦ w.self-is
      | in-Moved-1 w ↦ w.self-is
      | in-Refused-1 w ↦ w.self-is
      | in-NotLet-1 w ↦ w.self-is
    ])
    (search rules)
    (ap seen_by place ∙ (c.self.invariant.2 c.if-self.false).0)
    (last_noted c.new.result.items c.and-self-inside.result.items _ _ c.new.ensures c.and-self-inside.ensures)
    (c.self.invariant.2 c.if-self.false).1
    (last_asked g.P.Policy.asked c.new.result.items c.and-self-inside.result.items _ _ c.new.ensures
    c.and-self-inside.ensures)
    answers c.answer_request-client.ensures.asks c.respond.ensures

pub invariant_of-self : goal.invariant_of-self
invariant_of-self g c =
    told_all _ _ c.answer_request-client.result.0 _ _ _ c.put_back.ensures
    (last_noted c.new.result.items c.and-self-inside.result.items _ _ c.new.ensures c.and-self-inside.ensures)
    (last_asked g.P.Policy.asked c.new.result.items c.and-self-inside.result.items _ _ c.new.ensures
    c.and-self-inside.ensures)

pub invariant_of-self-in-Ok-3 : goal.invariant_of-self-in-Ok-3
invariant_of-self-in-Ok-3 g c =
    told_all _ _ c.answer_request-client.result.0 _ _ _ c.put_back.ensures
    (last_noted c.new.result.items c.and-self-inside.result.items _ _ c.new.ensures c.and-self-inside.ensures)
    (last_asked g.P.Policy.asked c.new.result.items c.and-self-inside.result.items _ _ c.new.ensures
    c.and-self-inside.ensures)

pub invariant_of-self-in-Ok-2 : goal.invariant_of-self-in-Ok-2
invariant_of-self-in-Ok-2 g c =
    told_all _ _ c.answer_request-client.result.0 _ _ _ c.put_back.ensures
    (last_noted c.new.result.items c.and-self-inside.result.items _ _ c.new.ensures c.and-self-inside.ensures)
    (last_asked g.P.Policy.asked c.new.result.items c.and-self-inside.result.items _ _ c.new.ensures
    c.and-self-inside.ensures)

pub invariant_of-self-in-Ok-5 : goal.invariant_of-self-in-Ok-5
invariant_of-self-in-Ok-5 g c =
    told_all _ _ c.answer_request-client.result.0 _ _ _ c.put_back.ensures
    (last_noted c.new.result.items c.and-self-inside.result.items _ _ c.new.ensures c.and-self-inside.ensures)
    (last_asked g.P.Policy.asked c.new.result.items c.and-self-inside.result.items _ _ c.new.ensures
    c.and-self-inside.ensures)
