use Rattle.std.proofs.Common.{◌++◌}
use Rattle.std.specs.List.{flat_map}
use Rattle.std.specs.String.{string_bytes}
use Rattle.hg_repo.specs.Report.{bookmark_line}
use Rattle.hg_repo.proofs.Lines.{item_left}
use Rattle.hg_repo.proofs.report.write_bookmarks.Goals as goal

pub loop-name-preserved : goal.loop-name-preserved
loop-name-preserved g c =
    let all = string_bytes c.args.text.now ++ flat_map bookmark_line c.args.bookmarks.now.current in
    let now = string_bytes c.loop-name.text in
    let next = string_bytes c.write_bookmark.new.text in
    item_left bookmark_line all now next c.loop-name.entries c.next.new.self
    (c.in-Some.name.now, c.in-Some.node) c.in-Some.ensures.some c.loop-name.invariant
    c.in_ok-write_bookmark.ensures
