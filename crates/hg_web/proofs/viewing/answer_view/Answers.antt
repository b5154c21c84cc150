use Rattle.std.proofs.Common.{true, Option, Some, subst, sym}
use Rattle.hg_http.specs.declared.view.StatusView.{StatusView}
use Rattle.hg_commit.specs.Clients.{IsKept}
use Rattle.hg_queries.specs.Views.{IsViewed}
use Rattle.hg_web.specs.Answering.{AnswersView, around_of, OrLacks}
use Rattle.hg_web.proofs.Later.{held_or_lacks, shown_or_lacks, went}
use Rattle.hg_web.proofs.viewing.answer_view.Goals as goal

pub returns-in-Ok : goal.returns-in-Ok
returns-in-Ok g c =
    let kept = IsKept g.D.Device.seen g.D.Device.may_leave g.D.Device.moment g.J.Storing.head g.J.Storing.stored
    g.J.Naming.first c.args.keeping.now.ledger.now.has_beats in
    let around = around_of kept g.S.Shown.is_page g.S.Shown.are_metrics c.args.terms.now in
    let after = c.look_kept-client.result.0 in
    let found = went _ _ _ _ c.in-Ok.is c.look_kept-client.ensures in
    let viewed = IsViewed around.page around.metrics c.in-Some.view in
    let said = c.shown_answer-answer.result in
    subst (λ (v : Option StatusView). OrLacks true (AnswersView g.J.Naming.first around v) c.args.client c.hold.result after)
    (sym c.in-Some.is)
    (held_or_lacks g.J.Naming.first kept (AnswersView g.J.Naming.first around (Some c.in-Some.view)) c.args.client said
    c.hold.result after _ c.args.room.now.taken c.hold.new.self.taken found.0
    (shown_or_lacks g.J.Naming.first kept c.args.client said after viewed c.in-Some.view around.stored c.in-Ok.rests
    c.in-Ok.text found.0 found.1 c.shown_answer-answer.ensures) c.hold.ensures)
