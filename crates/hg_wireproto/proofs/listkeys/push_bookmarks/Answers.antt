use Rattle.std.proofs.Common.{◌++◌, map, filter}
use Rattle.std.specs.List.{flat_map}
use Rattle.hg_wireproto.specs.Text.{ended}
use Rattle.hg_wireproto.specs.ListKeys.{bookmark_line, is_told}
use Rattle.hg_wireproto.proofs.Lines.{line_left}
use Rattle.hg_wireproto.proofs.listkeys.push_bookmarks.Goals as goal

pub loop-name-preserved : goal.loop-name-preserved
loop-name-preserved g c =
    let pairs = c.args.bookmarks.now.current in
    let all = c.args.lines.now.items ++ flat_map (ended 10) (map bookmark_line (filter is_told pairs)) in
    line_left is_told bookmark_line all c.loop-name.lines.items c.push_bookmark.new.lines.items
    c.loop-name.entries c.next.new.self (c.in-Some.name.now, c.in-Some.node) c.in-Some.ensures.some
    c.loop-name.invariant c.in_ok-push_bookmark.ensures
