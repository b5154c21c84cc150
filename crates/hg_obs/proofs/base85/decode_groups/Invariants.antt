use Rattle.std.proofs.Common.{◌≡◌, length}
use Rattle.hg_obs.specs.Base85.{decoded_groups}
use Rattle.hg_obs.proofs.Base85Groups.{with_front}
use Rattle.hg_obs.proofs.base85.decode_groups.Given as goal

abbrev pub invariant-loop-group : goal.invariant-loop-group
invariant-loop-group g l = with_front l.bytes.items (decoded_groups l.rest) ≡ decoded_groups l.fn.text

abbrev pub decreases-loop-group : goal.decreases-loop-group
decreases-loop-group g l = length l.rest
