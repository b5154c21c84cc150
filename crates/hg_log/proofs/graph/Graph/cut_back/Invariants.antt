use Rattle.std.proofs.Common.{◌≡◌, ◌⊎◌, length, take, ◌≤◌}
use Rattle.hg_log.proofs.graph.Graph.cut_back.Given as goal

abbrev pub invariant-loop-self : goal.invariant-loop-self
invariant-loop-self g l = (length l.self ≤ length l.initial.self)
    × ((l.len ≤ length l.self) ⊎ (l.self ≡ l.initial.self)) × (l.self ≡ take (length l.self) l.initial.self)

abbrev pub decreases-loop-self : goal.decreases-loop-self
decreases-loop-self g l = length l.self
