use Rattle.std.proofs.Common.{sym, ap, ◌∙◌, cond, ◌++◌, ◌∷◌, [], List, append_assoc}
use Rattle.hg_obs.specs.declared.marker.Marker.{Marker}
use Rattle.hg_obs.specs.Markers.{is_in}
use Rattle.hg_obs.proofs.MergeLemmas.{merged-push, some_fresh}
use Rattle.hg_obs.proofs.markers.Markers.merge.Goals as goal

pub returns-in-Err-clause-needed : goal.returns-in-Err-clause-needed
returns-in-Err-clause-needed g c =
    some_fresh c.args.self.now c.loop-marker.yielded c.next.new.self.rest.items c.args.added
    c.in-Some.marker
    (c.loop-marker.invariant.comes
    ∙ ap (λ (ms : List (Marker g.row.A.Denot)). c.loop-marker.yielded ++ ms) c.in-Some.ensures.steps.0)
    (ap (λ (ms : List (Marker g.row.A.Denot)). is_in ms c.in-Some.marker)
    (sym (c.make_room.ensures ∙ c.loop-marker.invariant.markers)) ∙ c.in-Err.ensures.needed)

pub loop-marker-preserved : goal.loop-marker-preserved
loop-marker-preserved g c =
    record {
      markers = c.in_default.ensures.ok
          ∙ ap (λ (ms : List (Marker g.row.A.Denot)). cond (is_in ms c.in-Some.marker) ms (ms
          ++ c.in-Some.marker ∷ [])) (c.make_room.ensures ∙ c.loop-marker.invariant.markers)
          ∙ sym (merged-push c.args.self.now c.loop-marker.yielded c.in-Some.marker);
      comes = c.loop-marker.invariant.comes
          ∙ ap (λ (ms : List (Marker g.row.A.Denot)). c.loop-marker.yielded ++ ms) c.in-Some.ensures.steps.0
          ∙ sym (append_assoc c.loop-marker.yielded (c.in-Some.marker ∷ []) c.next.new.self.rest.items);
    }
