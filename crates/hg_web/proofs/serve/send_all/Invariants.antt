use Rattle.std.proofs.Common.{◌≡◌}
use Rattle.http_server.specs.Connection.{config_of, history}
use Rattle.hg_web.specs.code.Following.{HasSent}
use Rattle.hg_web.proofs.serve.send_all.Given as goal

abbrev pub invariant-writes : goal.invariant-writes
invariant-writes g l =
    HasSent (history l.fn.connection) (history l.connection) (g.W.Write.contents l.fn.writer)
    (g.W.Write.contents l.writer)
    × (config_of l.connection ≡ config_of l.fn.connection)
