use Rattle.hg_commit.specs.Clients.{IsKept}
use Rattle.hg_web.specs.Answering.{Responds}
use Rattle.hg_web.proofs.Served.{SoFar}
use Rattle.hg_web.proofs.serve.serve_stretches.Given as goal

abbrev pub invariant-stretches : goal.invariant-stretches
invariant-stretches g l =
    SoFar l.config (Responds g.J.Naming.capacity g.J.Naming.first
    (IsKept g.D.Device.seen g.D.Device.may_leave g.D.Device.moment
    g.J.Storing.head g.J.Storing.stored g.J.Naming.first) g.S.Shown.is_page g.S.Shown.are_metrics)
    l.fn.wire l.wire (g.I.Read.remaining l.fn.reader) (g.I.Read.remaining l.reader)
    (g.W.Write.contents l.fn.writer) (g.W.Write.contents l.writer)
