use Rattle.std.proofs.Common.{◌≡◌, ◌++◌, map, filter, length}
use Rattle.std.specs.List.{flat_map}
use Rattle.hg_wireproto.specs.Text.{ended}
use Rattle.hg_wireproto.specs.ListKeys.{bookmark_line, is_told}
use Rattle.hg_wireproto.proofs.listkeys.push_bookmarks.Given as goal

-- the lines so far, and those of the bookmarks that are left
abbrev pub invariant-loop-name : goal.invariant-loop-name
invariant-loop-name g l =
    l.lines.items ++ flat_map (ended 10) (map bookmark_line (filter is_told l.entries))
    ≡ l.fn.lines.items ++ flat_map (ended 10) (map bookmark_line (filter is_told l.bookmarks.current))

abbrev pub decreases-loop-name : goal.decreases-loop-name
decreases-loop-name g l = length l.entries
