use Rattle.std.proofs.Common.{◌≡◌}
use Rattle.hg_types.proofs.payload.Payload.keep_each.Given as goal

abbrev pub invariant-digests : goal.invariant-digests
invariant-digests g l = l.self ≡ l.fn.self
