use Rattle.std.proofs.Common.{◌≡◌, ◌≤◌, ◌-◌, length}
use Rattle.hg_store.specs.Standbys.{LooksOnly}
use Rattle.hg_store.proofs.Followed.{Looked}
use Rattle.hg_store.proofs.standby.are_open.Given as goal

-- the gates before the next one were open
abbrev pub invariant-gates : goal.invariant-gates
invariant-gates g l = record {
  within : l.next ≤ length l.gates;
  so_far : Looked l.gates (g.C.Calls.history l.fn.calls) (g.C.Calls.history l.calls) l.next;
  looks : LooksOnly (g.C.Calls.history l.fn.calls) (g.C.Calls.history l.calls);
  same : g.C.Calls.drawn l.calls ≡ g.C.Calls.drawn l.fn.calls;
}

abbrev pub decreases-gates : goal.decreases-gates
decreases-gates g l = length l.gates - l.next
