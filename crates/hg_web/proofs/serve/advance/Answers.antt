use Rattle.std.proofs.Common.{◌≡◌, rules}
use Rattle.http_server.specs.Connection.{history}
use Rattle.hg_commit.specs.Clients.{IsKept}
use Rattle.hg_web.proofs.Stretches.{was_not_called}
use Rattle.hg_web.proofs.serve.advance.Goals as goal

pub returns-else-has_answered-clause-none : goal.returns-else-has_answered-clause-none
returns-else-has_answered-clause-none g c = λ is.
    let same : c.advance.new.service.answered ≡ c.args.wire.now.answered = search rules in
    was_not_called g.J.Naming.capacity g.J.Naming.first
    (IsKept g.D.Device.seen g.D.Device.may_leave g.D.Device.moment g.J.Storing.head g.J.Storing.stored g.J.Naming.first)
    g.S.Shown.is_page g.S.Shown.are_metrics c.args.wire.now c.advance.new.service
    (history c.args.connection.now).calls (history c.advance.new.self).calls c.advance.ensures.calls same
