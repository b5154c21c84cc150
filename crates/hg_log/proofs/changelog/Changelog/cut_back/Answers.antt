use Rattle.std.proofs.Common.{◌≡◌, length, take, ◌≤◌, List, sym, ap, ◌∙◌}
use Rattle.std.proofs.lemmas.List.{take-map}
use Rattle.hg_types.specs.declared.node.Node.{Node}
use Rattle.hg_log.specs.declared.changelog.Row.{Row}
use Rattle.hg_log.specs.Changeset.{Changeset, Log}
use Rattle.hg_log.specs.code.Inside.{changeset, rows_of}
use Rattle.hg_log.proofs.Wholes.{whole_taken}
use Rattle.hg_log.proofs.changelog.Changelog.cut_back.Goals as goal

pub invariant_of-self : goal.invariant_of-self
invariant_of-self g c =
    let entries = c.self.inside.rows.entries in
    let within : c.args.len ≤ length (rows_of entries) = rw (← c.self.view_is) at c.requires in
    let rows : take c.args.len (rows_of entries) ≡ rows_of (take c.args.len entries) = take-map
    (λ (e : Node × Row g.row.A.Denot). changeset e) c.args.len entries in
    rw (c.truncate.ensures.entries, c.cut_back.ensures, ← rows)
    (whole_taken (rows_of entries) c.self.inside.graph c.self.inside.limits c.args.len within
    c.self.invariant)

pub returns : goal.returns
returns g c =
    let entries = c.self.inside.rows.entries in
    let rows : take c.args.len (rows_of entries) ≡ rows_of (take c.args.len entries) = take-map
    (λ (e : Node × Row g.row.A.Denot). changeset e) c.args.len entries in
    let log : List Changeset → Log = λ rs. record { rows = rs; limits = c.self.inside.limits } in
    rw (← c.self.view_is) (ap log (ap rows_of c.truncate.ensures.entries ∙ sym rows))
