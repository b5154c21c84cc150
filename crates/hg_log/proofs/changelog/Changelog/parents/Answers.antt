use Rattle.std.proofs.Common.{◌≡◌, Some, slice_get, option_map, sym, ap, ◌∙◌, refl}
use Rattle.std.specs.Map.Iter.{deref_pair}
use Rattle.hg_types.specs.declared.node.Node.{Node}
use Rattle.hg_log.specs.declared.changelog.Row.{Row}
use Rattle.hg_log.specs.code.Inside.{changeset}
use Rattle.hg_log.proofs.Lookups.{row_at}
use Rattle.hg_log.proofs.changelog.Changelog.parents.Goals as goal

pub returns : goal.returns
returns g c =
    let entry : Node × Row g.row.A.Denot = (c.unwrap.result.0.now, c.unwrap.result.1.now) in
    let at : slice_get c.self.inside.rows.entries c.args.rev ≡ Some entry = sym c.get_index.ensures.entry
    ∙ ap (option_map deref_pair) c.unwrap.ensures in
    rw (← c.self.view_is) (record {
      row = changeset entry;
      row_at = row_at c.self.inside.rows.entries c.args.rev entry at;
      p1_is = refl;
      p2_is = refl;
    })
