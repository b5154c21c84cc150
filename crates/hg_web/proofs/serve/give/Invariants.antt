use Rattle.std.proofs.Common.{◌≡◌, ℕ, List, ◌++◌}
use Rattle.http_server.specs.Connection.{config_of, history}
use Rattle.hg_web.specs.code.Following.{HasRead}
use Rattle.hg_web.proofs.serve.give.Given as goal

abbrev pub invariant-reads : goal.invariant-reads
invariant-reads l =
    ((given : List ℕ) × (l.bytes ≡ given ++ l.rest)
    × HasRead (history l.fn.connection) (history l.connection) given)
    × (config_of l.connection ≡ config_of l.fn.connection)
