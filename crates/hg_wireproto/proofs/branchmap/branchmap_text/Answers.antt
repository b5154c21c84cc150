use Rattle.std.proofs.Common.{◌≡◌, ◌∙◌, ◌++◌, ◌<◌, ap, length, List, map, subst, sym, ℕ}
use Rattle.std.specs.Prelude.{All}
use Rattle.std.specs.List.{flat_map, join_with_byte}
use Rattle.std.proofs.lemmas.List.Folds.{flat_map-map}
use Rattle.hg_log.specs.Rows.{AreLawful}
use Rattle.hg_wireproto.specs.BranchMap.{branch_line}
use Rattle.hg_wireproto.specs.Text.{ended}
use Rattle.hg_wireproto.specs.Viewed.{Viewed}
use Rattle.hg_wireproto.specs.code.Branches.{AreBranches}
use Rattle.hg_wireproto.specs.declared.branches.Branch.{Branch}
use Rattle.hg_wireproto.proofs.Lines.{lines_joined}
use Rattle.hg_wireproto.proofs.Mapping.{map_told, map_twice, revs_within}
use Rattle.hg_wireproto.proofs.branchmap.branchmap_text.Goals as goal

pub branches_of-requires : goal.branches_of-requires
branches_of-requires g c =
    c.covered.ensures.as_long ∙ ap (λ (v : Viewed g.row.A.Denot). length v.rows) (sym c.copied.ensures)

pub push_lines-requires : goal.push_lines-requires
push_lines-requires g c =
    let seen = λ (b : Branch g.row.A.Denot). let pair : List ℕ × List ℕ = (b.name.items, b.revs.items) in pair in
    let bs = c.in_ok-branches.branches.items in
    let rows = c.copied.result.now.rows in
    subst (λ (v : Viewed g.row.A.Denot). All (λ (b : Branch g.row.A.Denot). All (λ r. r < length v.rows) b.revs.items)
    c.as_slice-2.result.now) (c.copied.ensures ∙ sym c.copied-2.ensures)
    (subst (λ xs. All (λ (b : Branch g.row.A.Denot). All (λ r. r < length rows) b.revs.items) xs)
    (sym c.as_slice-2.ensures.value)
    (revs_within rows c.covered.result.now (length rows) seen bs c.in_ok-branches.ensures.branches))

pub returns : goal.returns
returns g c =
    let view = c.args.view.now in
    let seen = λ (b : Branch g.row.A.Denot). let pair : List ℕ × List ℕ = (b.name.items, b.revs.items) in pair in
    let bs = c.in_ok-branches.branches.items in
    let line = λ (v : Viewed g.row.A.Denot) (b : Branch g.row.A.Denot). branch_line v.rows (seen b) in
    let said : c.push_lines.new.lines.items
    ≡ c.in_ok-lines.lines.items ++ flat_map (ended 10) (map (line view) bs) =
    c.in_ok-push_lines.ensures
    ∙ ap (λ (v : Viewed g.row.A.Denot). c.in_ok-lines.lines.items
    ++ flat_map (λ (b : Branch g.row.A.Denot). ended 10 (line v b)) c.as_slice-2.result.now) c.copied-2.ensures
    ∙ ap (λ (xs : List (Branch g.row.A.Denot)). c.in_ok-lines.lines.items
    ++ flat_map (λ (b : Branch g.row.A.Denot). ended 10 (line view b)) xs) c.as_slice-2.ensures.value
    ∙ ap (λ (t : List ℕ). c.in_ok-lines.lines.items ++ t) (sym (flat_map-map (ended 10) (line view) bs)) in
    map_told view.rows view.markers view.phases c.covered.result.now c.covered.ensures
    (subst (λ (v : Viewed g.row.A.Denot). AreLawful v.rows) c.copied.ensures c.in_ok-branches.ensures.lawful)
    (map seen bs)
    (subst (λ (v : Viewed g.row.A.Denot). AreBranches v.rows c.covered.result.now (length v.rows) (map seen bs))
    c.copied.ensures c.in_ok-branches.ensures.branches) _
    (c.joined.ensures
    ∙ lines_joined c.in_ok-lines.lines.items _ (map (line view) bs) c.in_ok-lines.ensures.items said
    ∙ ap (join_with_byte 10) (map_twice (branch_line view.rows) seen bs))
