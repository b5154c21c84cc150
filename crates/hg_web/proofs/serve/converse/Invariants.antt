use Rattle.std.proofs.Common.{◌≡◌, []}
use Rattle.http_server.specs.Connection.{config_of, history}
use Rattle.hg_commit.specs.Clients.{IsKept}
use Rattle.hg_web.specs.Answering.{Responds}
use Rattle.hg_web.specs.code.Following.{Waits, Went}
use Rattle.hg_web.proofs.serve.converse.Given as goal

abbrev pub invariant-turns : goal.invariant-turns
invariant-turns g l =
    Went (Responds g.J.Naming.capacity g.J.Naming.first (IsKept g.D.Device.seen g.D.Device.may_leave
    g.D.Device.moment
    g.J.Storing.head g.J.Storing.stored g.J.Naming.first) g.S.Shown.is_page g.S.Shown.are_metrics)
    l.fn.wire l.wire (g.I.Read.remaining l.fn.reader) (g.I.Read.remaining l.reader)
    (g.W.Write.contents l.fn.writer) (g.W.Write.contents l.writer) (history l.connection) []
    × (config_of l.connection ≡ config_of l.fn.connection)
    × Waits (config_of l.fn.connection) (history l.connection) [] l.is_whole l.follower
