use Rattle.std.proofs.Common.{◌≡◌}
use Rattle.hg_cgroup.proofs.ahead.hash_texts.Given as goal

abbrev pub invariant-batches : goal.invariant-batches
invariant-batches g l = l.payload ≡ l.fn.payload
