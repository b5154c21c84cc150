use Rattle.std.proofs.Common.{◌≡◌, ◌++◌, length}
use Rattle.std.specs.List.{flat_map}
use Rattle.std.specs.String.{string_bytes}
use Rattle.hg_repo.specs.Report.{bookmark_line}
use Rattle.hg_repo.proofs.report.write_bookmarks.Given as goal

-- the lines so far, and those of the bookmarks that are left
abbrev pub invariant-loop-name : goal.invariant-loop-name
invariant-loop-name g l =
    string_bytes l.text ++ flat_map bookmark_line l.entries
    ≡ string_bytes l.fn.text ++ flat_map bookmark_line l.bookmarks.current

abbrev pub decreases-loop-name : goal.decreases-loop-name
decreases-loop-name g l = length l.entries
