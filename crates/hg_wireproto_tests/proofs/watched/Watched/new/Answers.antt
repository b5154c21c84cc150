use Rattle.hg_phases.proofs.CallerLemmas.{for_none}
use Rattle.hg_wireproto.proofs.Publishing.{nothing_front}
use Rattle.hg_wireproto_tests.proofs.watched.Watched.new.Goals as goal

pub invariant_of-result : goal.invariant_of-result
invariant_of-result g c = (nothing_front c.new-4.result _ _ _ c.new-4.ensures, rw c.new-3.ensures (for_none c.new.result.rows))
