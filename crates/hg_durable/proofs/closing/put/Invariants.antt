use Rattle.std.proofs.Common.{◌≡◌}
use Rattle.hg_durable.proofs.closing.put.Given as goal

abbrev pub invariant-putting : goal.invariant-putting
invariant-putting g l =
    (l.clients.items ≡ l.fn.clients.items) × (l.client ≡ l.fn.client)
