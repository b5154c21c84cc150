use Rattle.std.proofs.Common.{sym, subst, IfOk}
use Rattle.hg_parts.specs.Store.{repository_of}
use Rattle.hg_wireproto.specs.BranchMap.{IsBranchMap}
use Rattle.hg_wireproto.specs.Heads.{IsHeadsText}
use Rattle.hg_queries.specs.Texts.{IsTextOf}
use Rattle.hg_queries.proofs.Copied.{branches_of, heads_of, if_ok}
use Rattle.hg_queries.proofs.reading.text_in.Goals as goal

pub returns-in-ListKeys : goal.returns-in-ListKeys
returns-in-ListKeys g c =
    subst (λ read. IfOk c.listkeys_text.result (λ text.
    IsTextOf (repository_of c.args.settings.now c.args.store.now) read c.args.about.now text))
    (sym c.in-ListKeys.is) c.listkeys_text.ensures

pub returns-in-Lookup : goal.returns-in-Lookup
returns-in-Lookup g c =
    subst (λ read. IfOk c.lookup_in.result (λ text.
    IsTextOf (repository_of c.args.settings.now c.args.store.now) read c.args.about.now text))
    (sym c.in-Lookup.is) c.lookup_in.ensures

pub returns-in_ok-view_of-in-Heads : goal.returns-in_ok-view_of-in-Heads
returns-in_ok-view_of-in-Heads g c =
    let told = c.heads_text-in-Heads in
    let repo = repository_of c.args.settings.now c.args.store.now in
    let view = c.in_ok-view_of-in-Heads.field-0 in
    subst (λ read. IfOk told.result (λ text. IsTextOf repo read c.args.about.now text)) (sym c.in-Heads.is)
    (if_ok told.result (IsHeadsText view.rows) _
    (λ text is. heads_of repo view text c.in_ok-view_of-in-Heads.ensures is) told.ensures)

pub returns-in_ok-view_of-in-BranchMap : goal.returns-in_ok-view_of-in-BranchMap
returns-in_ok-view_of-in-BranchMap g c =
    let told = c.branchmap_text-in-BranchMap in
    let repo = repository_of c.args.settings.now c.args.store.now in
    let view = c.in_ok-view_of-in-BranchMap.field-0 in
    subst (λ read. IfOk told.result (λ text. IsTextOf repo read c.args.about.now text)) (sym c.in-BranchMap.is)
    (if_ok told.result (IsBranchMap view.rows view.markers view.phases) _
    (λ text is. branches_of repo view text c.in_ok-view_of-in-BranchMap.ensures is) told.ensures)
