use Rattle.std.proofs.Common.{◌≡◌, ◌<◌, [], ◌∷◌, ◌++◌, length, List, None, ap, ◌∙◌}
use Rattle.indexmap.proofs.CallerLemmas.{insert_entry-new}
use Rattle.indexmap.specs.IndexMap.{get}
use Rattle.std.specs.Map.{lookup}
use Rattle.std.proofs.lemmas.List.{map_push}
use Rattle.hg_types.specs.contracts.node.NodePartialEq.TheImpl as eq
use Rattle.hg_types.specs.declared.node.Node.{Node}
use Rattle.hg_log.specs.declared.changelog.Row.{Row}
use Rattle.hg_log.specs.Changeset.{Changeset, Log}
use Rattle.hg_log.specs.Rows.{LacksNode}
use Rattle.hg_log.specs.code.Inside.{changeset, rows_of, IsAt}
use Rattle.hg_log.proofs.Wholes.{whole_pushed}
use Rattle.hg_log.proofs.Lookups.{absent}
use Rattle.hg_log.proofs.changelog.Changelog.append.Goals as goal

pub invariant_of-self-2 : goal.invariant_of-self-2
invariant_of-self-2 g c =
    let rows = rows_of c.self.inside.rows.entries in
    let new : Node × Row g.row.A.Denot = (c.args.node, c.args.row) in
    let room : length rows < c.self.inside.limits.revisions = rw (← c.self.view_is) at c.requires.room in
    let lacks : LacksNode rows c.args.node.0 = rw (← c.self.view_is) at c.requires.new in
    let p1 : IsAt rows (length rows) c.args.row.p1.0 c.args.parents.p1 =
    rw (← c.self.view_is) at c.requires.p1 in
    let p2 : IsAt rows (length rows) c.args.row.p2.0 c.args.parents.p2 =
    rw (← c.self.view_is) at c.requires.p2 in
    let none : get eq.eq-value.it c.reserve.new.self c.args.node ≡ None =
    ap (lookup (eq.eq-value.it c.args.node)) c.reserve.ensures.entries
    ∙ absent c.args.node c.self.inside.rows.entries lacks in
    let entries : c.insert.new.self.entries ≡ c.self.inside.rows.entries ++ new
    ∷ [] = c.in_ok-insert.ensures.entries
    ∙ insert_entry-new eq.eq-value.it c.reserve.new.self c.args.node c.args.row none
    ∙ ap (λ es. es ++ new ∷ []) c.reserve.ensures.entries in
    let shown : rows_of c.insert.new.self.entries ≡ rows ++ changeset new ∷ [] = ap rows_of entries
    ∙ map_push (λ (e : Node × Row g.row.A.Denot). changeset e) c.self.inside.rows.entries new in
    rw (shown, c.in_ok-push.ensures.ok)
    (whole_pushed rows c.self.inside.graph c.self.inside.limits
    (changeset new) c.args.parents c.self.invariant room c.requires.hash c.requires.not_null lacks p1
    p2)

pub returns-clause-ok : goal.returns-clause-ok
returns-clause-ok g c =
    let rows = rows_of c.self.inside.rows.entries in
    let new : Node × Row g.row.A.Denot = (c.args.node, c.args.row) in
    let lacks : LacksNode rows c.args.node.0 = rw (← c.self.view_is) at c.requires.new in
    let none : get eq.eq-value.it c.reserve.new.self c.args.node ≡ None =
    ap (lookup (eq.eq-value.it c.args.node)) c.reserve.ensures.entries
    ∙ absent c.args.node c.self.inside.rows.entries lacks in
    let entries : c.insert.new.self.entries ≡ c.self.inside.rows.entries ++ new
    ∷ [] = c.in_ok-insert.ensures.entries
    ∙ insert_entry-new eq.eq-value.it c.reserve.new.self c.args.node c.args.row none
    ∙ ap (λ es. es ++ new ∷ []) c.reserve.ensures.entries in
    let shown : rows_of c.insert.new.self.entries ≡ rows ++ changeset new ∷ [] = ap rows_of entries
    ∙ map_push (λ (e : Node × Row g.row.A.Denot). changeset e) c.self.inside.rows.entries new in
    let log : List Changeset → Log = λ rs. record { rows = rs; limits = c.self.inside.limits } in
    rw (← c.self.view_is) (ap log shown)
