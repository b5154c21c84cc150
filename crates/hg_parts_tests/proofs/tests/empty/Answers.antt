use Rattle.hg_parts.proofs.CallerLemmas.{sound_none}
use Rattle.hg_parts_tests.proofs.tests.empty.Goals as goal

pub invariant_of-result : goal.invariant_of-result
invariant_of-result g c = rw c.new-store.ensures (sound_none _)
