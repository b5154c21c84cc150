use Rattle.std.proofs.Common.{◌≡◌}
use Rattle.hg_host.proofs.service.put.Given as goal

abbrev pub invariant-putting : goal.invariant-putting
invariant-putting g l = (l.items.items ≡ l.fn.items.items) × (l.item ≡ l.fn.item)
