use Rattle.std.proofs.Common.{sym, ap, ◌∙◌, is_some}
use Rattle.hg_obs.proofs.PlaceLemmas.{has_place, gets_place}
use Rattle.hg_obs.proofs.markers.Markers.is_predecessor.Goals as goal

pub returns : goal.returns
returns g c =
    let answer = c.contains_key.ensures ∙ ap is_some (c.self.invariant.firsts_found c.args.node.now) in
    rw (← c.self.view_is) (
      (λ yes. has_place c.args.node.now c.self.inside.list.items (sym answer ∙ yes)),
      (λ is. answer ∙ gets_place c.args.node.now c.self.inside.list.items is),
    )
