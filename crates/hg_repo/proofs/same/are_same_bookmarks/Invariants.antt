use Rattle.std.proofs.Common.{◌≡◌, length}
use Rattle.hg_repo.proofs.same.are_same_bookmarks.Given as goal

-- all are the same exactly where those that are left are
abbrev pub invariant-loop-name : goal.invariant-loop-name
invariant-loop-name g l = record {
  rest : l.entries ≡ l.others → l.bookmarks.current ≡ l.other.current;
  all : l.bookmarks.current ≡ l.other.current → l.entries ≡ l.others;
}

abbrev pub decreases-loop-name : goal.decreases-loop-name
decreases-loop-name g l = length l.entries
