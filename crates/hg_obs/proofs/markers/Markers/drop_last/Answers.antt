use Rattle.std.proofs.Common.{ap, ◌∙◌}
use Rattle.std.specs.Map.{lookup}
use Rattle.hg_types.specs.declared.node.Node.{Node}
use Rattle.hg_obs.specs.Same.{same_node}
use Rattle.hg_obs.specs.code.Places.{without}
use Rattle.hg_obs.proofs.LaterLemmas.{kept_dropped}
use Rattle.hg_obs.proofs.markers.Markers.drop_last.Goals as goal

pub invariant_of-self : goal.invariant_of-self
invariant_of-self g c =
    kept_dropped c.self.inside.state c.self.inside.list.items c.pop.new.self.items c.in-Some.marker
    c.len-place.result c.self.inside.firsts.entries c.self.inside.others.entries c.forget.new.places.entries
    c.forget-in-Some.new.places.entries c.self.invariant c.in-Some.ensures.items (c.len-place.ensures ∙
    c.pop.new.self.ok.0)
    c.forget.ensures (λ node. c.forget-in-Some.ensures node
    ∙ ap (λ (id : Node). without (same_node node id) c.len-place.result
    (lookup (same_node node) c.self.inside.others.entries)) c.seal_of.ensures)
