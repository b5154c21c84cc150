use Rattle.std.proofs.Common.{◌≡◌, take}
use Rattle.hg_keys.specs.Bookmarks.{set_each}
use Rattle.hg_keys.proofs.bookmarks.Bookmarks.set_each.Given as goal

-- the entries so far are set
abbrev pub invariant-loop-entry : goal.invariant-loop-entry
invariant-loop-entry g l = record {
  saved : l.self.saved ≡ l.fn.self.saved;
  set : l.self.current ≡ set_each (take l.entry-index l.entry-items) l.fn.self.current;
}
