use Rattle.std.proofs.Common.{[]}
use Rattle.hg_web.proofs.OneBundle.{begun, pushed}
use Rattle.hg_web.proofs.push.push_bundle.Goals as goal

pub returns : goal.returns
returns g c =
    let round = c.keep_bundle-round in
    let s = round.ensures.kept in
    let server = c.args.keeping.now.server.now in
    let first = g.J.Naming.first in
    pushed g.D.Device.seen g.D.Device.may_leave g.D.Device.moment g.J.Storing.head g.J.Storing.stored server
    g.J.Naming.capacity first c.args.client c.kept_push.result.0 c.args.bundle.now round.new.inbox round.new.reader
    c.in-Ok.opened c.args.stamp s.0 c.args.keeping.now.ledger.now.has_beats (begun server g.J.Naming.capacity first c.in-Ok.opened c.args.stamp s.0 round.new.inbox round.new.reader
    c.new-inbox.result [] c.new-body.result (record { bytes = c.args.bundle.now; at = 0; reads = [] })
    c.new-inbox.ensures c.new-body.ensures s.1) c.in-Ok.ensures.ok.0 c.limits-limits.ensures.first _ s.2.how_is _
    s.2.kept_is _ c.kept_push.ensures
