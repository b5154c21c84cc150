use Rattle.hg_obs.proofs.MergeLemmas.{distinct_pairs}
use Rattle.hg_obs.proofs.markers.Markers.list.Goals as goal

pub returns-clause-distinct : goal.returns-clause-distinct
returns-clause-distinct g c =
    rw (← c.self.view_is) (distinct_pairs c.self.inside.list.items c.self.invariant.distinct)
