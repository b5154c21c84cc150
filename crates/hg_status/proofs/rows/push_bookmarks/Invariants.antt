use Rattle.std.proofs.Common.{◌≡◌, ◌++◌, take}
use Rattle.std.specs.Prelude.{flat_map}
use Rattle.std.specs.String.{string_bytes}
use Rattle.hg_status.specs.Rows.{bookmark_text}
use Rattle.hg_status.proofs.rows.push_bookmarks.Given as goal

-- the bookmarks so far are written
abbrev pub invariant-loop-name : goal.invariant-loop-name
invariant-loop-name g l =
    string_bytes l.row ≡ string_bytes l.fn.row ++ flat_map bookmark_text (take l.name-index l.bookmarks)
