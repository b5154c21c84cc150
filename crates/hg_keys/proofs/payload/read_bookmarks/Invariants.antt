use Rattle.std.proofs.Common.{◌≡◌, length}
use Rattle.hg_keys.specs.Payload.{with_front, entries_of}
use Rattle.hg_keys.proofs.payload.read_bookmarks.Given as goal

-- the entries so far, before those that are left, are all
abbrev pub invariant-loop-rest : goal.invariant-loop-rest
invariant-loop-rest g l = with_front l.entries (entries_of l.rest) ≡ entries_of l.fn.bytes

abbrev pub decreases-loop-rest : goal.decreases-loop-rest
decreases-loop-rest g l = length l.rest
