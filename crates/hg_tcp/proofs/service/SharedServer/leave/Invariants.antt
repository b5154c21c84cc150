use Rattle.std.proofs.Common.{◌≡◌}
use Rattle.hg_tcp.proofs.service.SharedServer.leave.Given as goal

-- it is the same client
abbrev pub invariant-leaving : goal.invariant-leaving
invariant-leaving g l = l.client ≡ l.fn.client
