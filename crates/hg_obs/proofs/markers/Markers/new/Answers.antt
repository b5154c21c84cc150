use Rattle.hg_obs.proofs.LaterLemmas.{kept_none}
use Rattle.hg_obs.proofs.markers.Markers.new.Goals as goal

pub invariant_of-result : goal.invariant_of-result
invariant_of-result g c = kept_none c.args.state c.new.result.items c.with_hasher.result.entries
    c.with_hasher-2.result.entries c.new.ensures.items c.with_hasher.ensures.empty
    c.with_hasher-2.ensures.empty
