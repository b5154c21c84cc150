use Rattle.hg_wireproto.proofs.Publishing.{nothing_front}
use Rattle.hg_queries.proofs.view_cache.ViewCache.new.Goals as goal

pub invariant_of-result : goal.invariant_of-result
invariant_of-result g c = nothing_front c.new.result _ _ _ c.new.ensures
