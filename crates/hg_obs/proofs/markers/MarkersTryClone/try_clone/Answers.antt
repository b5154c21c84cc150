use Rattle.std.proofs.Common.{ap, ◌∙◌, List, []}
use Rattle.hg_obs.specs.declared.marker.Marker.{Marker}
use Rattle.hg_obs.specs.Markers.{merged}
use Rattle.hg_obs.proofs.MergeLemmas.{merged_distinct}
use Rattle.hg_obs.proofs.markers.MarkersTryClone.try_clone.Goals as goal

pub returns : goal.returns
returns g c =
    rw (← c.self.view_is) (
    c.in_ok-merge.ensures.ok
    ∙ ap (λ (ms : List (Marker g.row.A.Denot)). merged ms c.in_ok-copies.copies) c.new-copy.ensures
    ∙ ap (λ (ms : List (Marker g.row.A.Denot)). merged [] ms) (c.in_ok-copies.ensures
    ∙ c.as_slice.ensures.value) ∙ merged_distinct c.self.inside.list.items c.self.invariant.distinct
    )
