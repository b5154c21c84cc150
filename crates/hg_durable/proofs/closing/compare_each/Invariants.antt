use Rattle.std.proofs.Common.{◌≡◌, ◌++◌, List, vec_len}
use Rattle.std.specs.Prelude.{All}
use Rattle.std.specs.List.{Contains}
use mathlib.Core.List.{IsPrefix}
use Rattle.hg_commit.specs.Clients.{KeptSeen}
use Rattle.hg_durable.proofs.closing.compare_each.Given as goal

abbrev pub invariant-comparing : goal.invariant-comparing
invariant-comparing g l = record {
  same : l.tally ≡ record l.fn.tally { order = l.tally.order };
  keeps : IsPrefix l.fn.seen.items l.seen.items;
  done : (spent : List (KeptSeen g.row.A.Denot)) × (l.initial.clients.items ≡ l.clients.items ++ spent)
      × All (λ c. All (Contains l.fn.tally.promises) c.receipt.promises × IsPrefix c.receipt.order l.tally.order
      × Contains l.seen.items c.history) spent;
}

abbrev pub decreases-comparing : goal.decreases-comparing
decreases-comparing g l = vec_len l.clients
