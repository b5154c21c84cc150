use Rattle.std.proofs.Common.{◌≡◌, ◌≤◌, true, reverse, length}
use Rattle.hg_keys.specs.code.Changes.{base_of, can_undo_all}
use Rattle.hg_keys.proofs.bookmarks.go_back.Given as goal

-- the changes that are left lead back to the same pairs
abbrev pub invariant-loop-change : goal.invariant-loop-change
invariant-loop-change g l = record {
  base : base_of l.changes.items l.names.pairs ≡ base_of l.fn.changes.items l.fn.names.pairs;
  can : can_undo_all (reverse l.changes.items) l.names.pairs ≡ true;
  room : length l.changes.items ≤ l.names.room;
}

abbrev pub decreases-loop-change : goal.decreases-loop-change
decreases-loop-change g l = length l.changes.items
