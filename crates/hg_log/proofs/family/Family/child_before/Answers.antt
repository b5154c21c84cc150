use Rattle.std.proofs.Common.{◌≡◌, ◌<◌, true, false, length, slice_get, Some, refl, sym, ap, ◌∙◌, inl, inr, arith}
use Rattle.std.proofs.lemmas.Option.{slice_get_read, slice_get_within}
use Rattle.hg_log.specs.declared.graph.Parents.{Parents}
use Rattle.hg_log.proofs.Linked.{first_named, second_named}
use Rattle.hg_log.proofs.family.Family.child_before.Goals as goal

pub returns-then-begin_with : goal.returns-then-begin_with
returns-then-begin_with g c =
    let inside = c.self.inside in
    let has = rw (← c.self.view_is) at c.requires in
    let linked = c.self.invariant in
    let low : c.args.child < length inside.parents.items = slice_get_within inside.parents.items c.args.child
    has.parents has.row_at in
    let kept : slice_get inside.older.items c.args.child ≡ Some c.rows-older.result =
    slice_get_read inside.older.items (length inside.older.items) c.args.child _ refl
    (omega (arith, low, linked.older_for)) c.index.ensures ∙ ap Some (sym c.rows-older.ensures) in
    let at : slice_get inside.parents.items c.args.child ≡ Some c.rows.result =
    slice_get_read inside.parents.items (length inside.parents.items) c.args.child _ refl low
    c.index-2.ensures ∙ ap Some (sym c.rows.ensures) in
    rw (← c.self.view_is) (first_named inside.parents.items inside.newest.items inside.older.items linked
    c.args.row c.args.child c.rows.result c.rows-older.result at kept (c.if-begin_with.ensures.0 refl))

pub returns-else-begin_with : goal.returns-else-begin_with
returns-else-begin_with g c =
    let inside = c.self.inside in
    let has = rw (← c.self.view_is) at c.requires in
    let linked = c.self.invariant in
    let low : c.args.child < length inside.parents.items = slice_get_within inside.parents.items c.args.child
    has.parents has.row_at in
    let kept : slice_get inside.older.items c.args.child ≡ Some c.rows-older.result =
    slice_get_read inside.older.items (length inside.older.items) c.args.child _ refl
    (omega (arith, low, linked.older_for)) c.index.ensures ∙ ap Some (sym c.rows-older.ensures) in
    let at : slice_get inside.parents.items c.args.child ≡ Some c.rows.result =
    slice_get_read inside.parents.items (length inside.parents.items) c.args.child _ refl low
    c.index-2.ensures ∙ ap Some (sym c.rows.ensures) in
    let same : has.parents ≡ c.rows.result = (let both = sym has.row_at ∙ at in cc) in
    rw (← c.self.view_is) (second_named inside.parents.items inside.newest.items inside.older.items linked
    c.args.row c.args.child c.rows.result c.rows-older.result at kept (elim has.named [
      | inl e ↦ absurd (let told : false ≡ true = c.if-begin_with.ensures.1
          (ap (λ (q : Parents). q.p1) (sym same) ∙ e) in cc)
      | inr e ↦ ap (λ (q : Parents). q.p2) (sym same) ∙ e
    ]))
