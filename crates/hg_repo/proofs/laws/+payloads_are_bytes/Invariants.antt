use Rattle.std.proofs.Common.{length}
use Rattle.hg_repo.proofs.laws.+payloads_are_bytes.Given as goal

abbrev pub decreases-payloads_are_bytes : goal.decreases-payloads_are_bytes
decreases-payloads_are_bytes g l = length l.parts.now
