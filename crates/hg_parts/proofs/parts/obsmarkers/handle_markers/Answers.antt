use Rattle.std.proofs.Common.{rules, ◌≡◌, List, sym, subst}
use Rattle.std.specs.List.{AllByRecursion}
use Rattle.hg_obs.specs.declared.marker.Marker.{Marker}
use Rattle.hg_obs.specs.Marker.{IsMarker}
use Rattle.hg_obs.specs.Markers.{merged, AreLawful}
use Rattle.hg_parts.specs.Store.{IsGrown}
use Rattle.hg_parts.proofs.Growing.{grown_merged, sound_markers}
use Rattle.hg_parts.proofs.parts.obsmarkers.handle_markers.Goals as goal

pub returns : goal.returns
returns g c =
    let store = c.args.store.now in
    let made : c.merge.new.self ≡ merged store.markers c.args.markers = search rules in
    let each : AllByRecursion IsMarker c.args.markers = search rules in
    record {
      sound = sound_markers c.args.turn.settings store c.merge.new.self c.requires
          (subst (λ (ms : List (Marker g.row.A.Denot)). AreLawful ms) (sym made)
          (c.markers_stay_lawful.ensures.merge store.markers c.args.markers c.requires.markers each));
      grown = subst (λ (ms : List (Marker g.row.A.Denot)). IsGrown store (record store { markers = ms }))
          (sym made) (grown_merged store c.args.markers);
      reply = c.in_ok-reply.ensures.reply;
      gives = search rules;
    }
