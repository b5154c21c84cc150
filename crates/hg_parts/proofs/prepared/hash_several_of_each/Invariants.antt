use Rattle.std.proofs.Common.{◌≡◌}
use Rattle.hg_parts.proofs.prepared.hash_several_of_each.Given as goal

abbrev pub invariant-parts : goal.invariant-parts
invariant-parts g l = l.parts ≡ l.fn.parts
