use Rattle.std.proofs.Common.{◌≡◌, ap, refl, ◌∙◌, arith, cond, Some, unwrap_or}
use Rattle.std.proofs.lemmas.Grind.{common_steps}
use Rattle.std.proofs.lemmas.Result.{IfOk-at_ok}
use Rattle.std.specs.Map.{lookup}
use Rattle.indexmap.specs.Entry.{map_with_value}
use Rattle.hg_obs.specs.Same.{same_node}
use Rattle.hg_obs.proofs.PlaceLemmas.{noted_first}
use Rattle.hg_obs.proofs.markers.note_within.Goals as goal

pub returns-clause-found : goal.returns-clause-found
returns-clause-found g c = λ node.
    let old = c.args.places.now.entries in
    let updated = IfOk-at_ok _ c.unwrap.ensures c.entry.ensures.update in
    let left = unwrap_or (lookup (same_node c.args.id) old) c.args.place in
    let kept : c.or_insert.result.now ≡ left = c.or_insert.ensures.value
    ∙ ap (λ found. unwrap_or found c.args.place) (IfOk-at_ok _ c.unwrap.ensures c.entry.ensures.value) in
    let found = noted_first old (map_with_value c.unwrap.result c.or_insert.result.now).entries
    c.args.id c.args.place node _ refl
    ((updated.0 c.or_insert.result.now).0 node
    ∙ ap (λ first. cond (same_node c.args.id node) (Some first) (lookup (same_node node) old))
    kept) in
    grind (arith, common_steps, found)
