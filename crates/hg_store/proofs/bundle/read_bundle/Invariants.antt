use Rattle.std.proofs.Common.{◌≡◌, ◌+◌, ◌++◌, ℕ, List, length}
use Rattle.sha1.specs.Sha1.{Holds}
use Rattle.hg_store.specs.Calls.{bytes_in}
use Rattle.hg_store.proofs.bundle.read_bundle.Given as goal

-- the pieces so far were read, hashed and taken, and so many bytes are left
abbrev pub invariant-pieces : goal.invariant-pieces
invariant-pieces g l = record {
  read : g.C.Calls.drawn l.calls ≡ g.C.Calls.drawn l.fn.calls ++ bytes_in l.pieces.events;
  same : g.C.Calls.history l.calls ≡ g.C.Calls.history l.fn.calls;
  hashed : Holds l.hasher (bytes_in l.pieces.events);
  len : l.left + length (bytes_in l.pieces.events) ≡ l.size;
  taken : (first : _) (bytes : List ℕ) → g.T.BundleTaker.took first bytes l.fn.taker
      → g.T.BundleTaker.took first (bytes ++ bytes_in l.pieces.events) l.taker;
}

abbrev pub decreases-pieces : goal.decreases-pieces
decreases-pieces g l = l.left
