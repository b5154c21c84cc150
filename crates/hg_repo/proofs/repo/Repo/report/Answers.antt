use Rattle.std.proofs.Common.{◌∙◌, ◌++◌, List, length, ap}
use Rattle.std.specs.List.{flat_map, range_with_len}
use Rattle.hg_obs.specs.declared.marker.Marker.{Marker}
use Rattle.hg_keys.specs.Bookmarks.{Pairs}
use Rattle.hg_parts.specs.Repository.{Repository}
use Rattle.hg_repo.specs.Report.{report_of, changeset_line, bookmark_line, marker_line}
use Rattle.hg_repo.proofs.Lines.{three_pieces}
use Rattle.hg_repo.proofs.repo.Repo.report.Goals as goal

pub returns : goal.returns
unfolding report_of
returns g c =
    let repo = c.args.self.now in
    let changesets = flat_map (changeset_line repo) (range_with_len 0 (length repo.rows)) in
    let first = c.in_ok-write_changesets.ensures in
    let second = c.in_ok-write_bookmarks.ensures in
    let third = c.in_ok-write_markers.ensures in
    let told = three_pieces _ _ _ _ _ _ _ c.new-text.ensures.bytes first second third in
    let bookmarks = ap (λ (r : Repository g.row.A.Denot). r.bookmarks) c.self.view_is in
    let markers = c.list.ensures.value ∙ ap (λ (r : Repository g.row.A.Denot). r.markers) c.self.view_is in
    let listed = c.list.result.now in
    let named = λ (pairs : Pairs).
    changesets ++ (flat_map bookmark_line pairs ++ flat_map marker_line listed) in
    let saved = λ (ms : List (Marker g.row.A.Denot)).
    changesets ++ (flat_map bookmark_line repo.bookmarks ++ flat_map marker_line ms) in
    rw (c.into_bytes.ensures.value) (told ∙ ap named bookmarks ∙ ap saved markers)
