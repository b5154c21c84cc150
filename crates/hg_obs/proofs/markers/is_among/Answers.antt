use Rattle.std.proofs.Common.{sym, ap, ◌∙◌}
use Rattle.hg_obs.specs.declared.marker.Marker.{Marker}
use Rattle.hg_obs.specs.Same.{is_same}
use Rattle.hg_obs.proofs.LaterLemmas.{stands, any_turned}
use Rattle.hg_obs.proofs.markers.is_among.Goals as goal

pub returns-then-eq : goal.returns-then-eq
returns-then-eq g c = c.if-eq.true
    ∙ sym (stands c.args.list.now c.args.place c.index-list-place.result c.args.marker.now c.requires
    (ap (λ (m : Marker g.row.A.Denot). is_same m c.args.marker.now) (sym c.index-list-place.is)
    ∙ sym c.eq.ensures ∙ c.if-eq.true))

pub returns-else-eq : goal.returns-else-eq
returns-else-eq g c = c.contains.ensures.value ∙ any_turned c.args.list.now c.args.marker.now
