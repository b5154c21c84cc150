use Rattle.std.proofs.Common.{ℕ, ◌≤◌, List, length}
use Rattle.hg_store.specs.Again.{HasGates}
use Rattle.hg_store.specs.Calls.{MayLeave, state_of}
use Rattle.hg_store.specs.Entries.{Entry}
use Rattle.hg_store.specs.Log.{IsSettledAt}
use Rattle.hg_store.specs.declared.head.Head.{Head}
use Rattle.hg_store.proofs.Again.{Progress}
use Rattle.hg_store.proofs.gates.open_again.Given as goal

-- of each settled store whose gates these are, those from one place on were written again
abbrev pub invariant-gates : goal.invariant-gates
invariant-gates g l = record {
  within : l.left ≤ length l.gates;
  so_far : (head : Head) (records : List Entry) (end : ℕ) (digest : List ℕ)
      → IsSettledAt (λ f. (state_of (g.C.Calls.history f.calls)).seen)
      (λ f. MayLeave (state_of (g.C.Calls.history f.calls))) head records l.fn.device end digest
      → (has : HasGates head records l.gates)
      → Progress head records has.skipped (g.C.Calls.history l.fn.device.calls) (g.C.Calls.history l.device.calls)
      l.left;
}

abbrev pub decreases-gates : goal.decreases-gates
decreases-gates g l = l.left
