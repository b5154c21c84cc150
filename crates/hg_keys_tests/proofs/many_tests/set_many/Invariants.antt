use Rattle.std.proofs.Common.{◌≡◌}
use Rattle.hg_keys_tests.proofs.many_tests.set_many.Given as goal

-- the savepoint stays
abbrev pub invariant-loop-number : goal.invariant-loop-number
invariant-loop-number g l = l.bookmarks.saved ≡ l.initial.bookmarks.saved
