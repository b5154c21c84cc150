use Rattle.std.proofs.Common.{Ok}
use Rattle.hg_commit.specs.Clients.{IsKept}
use Rattle.hg_web.specs.Answering.{IsTextAt}
use Rattle.hg_web.proofs.Later.{held_or_lacks, text_or_lacks, went}
use Rattle.hg_web.proofs.answering.answer_look.Goals as goal

pub returns-in-Ok : goal.returns-in-Ok
returns-in-Ok g c =
    let kept = IsKept g.D.Device.seen g.D.Device.may_leave g.D.Device.moment g.J.Storing.head g.J.Storing.stored
    g.J.Naming.first c.args.keeping.now.ledger.now.has_beats in
    let found = went _ _ _ _ c.in-Ok.is c.look_kept-client.ensures in
    let after = c.look_kept-client.result.0 in
    let finds = g.L.Look.finds c.args.at.now in
    held_or_lacks g.J.Naming.first kept (IsTextAt g.J.Naming.first kept (λ repo t. finds repo (Ok t))) c.args.client
    c.text_answer-answer.result c.hold.result after (λ repo. finds repo c.in-Ok.text) c.args.room.now.taken c.hold.new.self.taken
    found.0
    (text_or_lacks g.J.Naming.first kept c.args.client c.text_answer-answer.result after finds c.in-Ok.text found.0
    c.text_answer-answer.ensures) c.hold.ensures
