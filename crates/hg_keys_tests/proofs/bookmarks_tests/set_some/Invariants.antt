use Rattle.std.proofs.Common.{◌≡◌}
use Rattle.hg_keys_tests.proofs.bookmarks_tests.set_some.Given as goal

-- the savepoint stays
abbrev pub invariant-loop-name : goal.invariant-loop-name
invariant-loop-name g l = l.bookmarks.saved ≡ l.initial.bookmarks.saved
