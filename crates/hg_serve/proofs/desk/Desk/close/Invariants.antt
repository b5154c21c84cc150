use Rattle.std.proofs.Common.{◌≡◌, ◌++◌, List, vec_len}
use Rattle.std.specs.Prelude.{All}
use mathlib.Core.List.{IsPrefix}
use Rattle.hg_parts.specs.declared.item.Taken.{Taken}
use Rattle.hg_queue.specs.Words.{history, IsTakerIn}
use Rattle.hg_serve.proofs.desk.Desk.close.Given as goal

abbrev pub invariant-spending : goal.invariant-spending
invariant-spending g l = record {
  role : IsTakerIn g.J.Naming.table g.J.Naming.capacity l.taker;
  kept : history l.taker ≡ history l.initial.taker;
  done : (spent : List (List (Taken g.row.A.Denot))) × (l.initial.clients.items ≡ l.clients.items ++ spent)
      × All (λ h. IsPrefix h (history l.initial.taker)) spent;
}

abbrev pub decreases-spending : goal.decreases-spending
decreases-spending g l = vec_len l.clients
