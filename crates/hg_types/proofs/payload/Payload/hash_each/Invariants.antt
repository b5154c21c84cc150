use Rattle.std.proofs.Common.{◌≡◌}
use Rattle.hg_types.proofs.payload.Payload.hash_each.Given as goal

abbrev pub invariant-places : goal.invariant-places
invariant-places g l = l.self ≡ l.fn.self
