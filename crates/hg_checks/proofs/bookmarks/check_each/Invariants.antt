use Rattle.std.proofs.Common.{◌≡◌, drop}
use Rattle.hg_checks.specs.Checked.{all_checked}
use Rattle.hg_checks.specs.Checks.{bookmark_checked}
use Rattle.hg_checks.proofs.bookmarks.check_each.Given as goal

-- the entries that are left decide
abbrev pub invariant-loop-entry : goal.invariant-loop-entry
invariant-loop-entry g l =
    all_checked (bookmark_checked l.log.rows l.bookmarks.current) (drop l.entry-index l.entries)
    ≡ all_checked (bookmark_checked l.log.rows l.bookmarks.current) l.entries
