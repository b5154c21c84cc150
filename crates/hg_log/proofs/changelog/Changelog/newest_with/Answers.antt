use Rattle.std.proofs.Common.{◌≡◌, Some, slice_get, sym, ◌∙◌}
use Rattle.hg_types.specs.declared.node.Node.{Node}
use Rattle.hg_log.specs.declared.changelog.Row.{Row}
use Rattle.hg_log.specs.code.Inside.{changeset, rows_of}
use Rattle.hg_log.specs.Rows.{HasNode}
use Rattle.hg_log.proofs.Lookups.{row_at, same_id}
use Rattle.hg_log.proofs.changelog.Changelog.newest_with.Goals as goal

pub returns-then-eq : goal.returns-then-eq
returns-then-eq g c =
    let rows = rows_of c.self.inside.rows.entries in
    let newest = c.in_ok-newest.newest in
    let node = c.args.node.now in
    let entry : Node × Row g.row.A.Denot = (c.in_ok-id.id.now, c.in_ok-id.field-0-1.now) in
    let at : slice_get c.self.inside.rows.entries newest ≡ Some entry = sym c.in_ok-id.ensures.entry in
    let same : node.0 ≡ c.in_ok-id.id.now.0 =
    same_id c.in_ok-id.id.now node (sym c.eq.ensures ∙ c.if-eq.true) in
    let has : HasNode rows newest node.0 = record {
      row = changeset entry;
      row_at = row_at c.self.inside.rows.entries newest entry at;
      node_is = sym same;
    } in
    rw (← c.self.view_is) has
