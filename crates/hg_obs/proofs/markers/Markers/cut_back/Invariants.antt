use Rattle.std.proofs.Common.{◌≡◌, ◌≤◌, take, length}
use Rattle.hg_obs.proofs.markers.Markers.cut_back.Given as goal

abbrev pub invariant-loop-self : goal.invariant-loop-self
invariant-loop-self g l =
    record { front : l.self ≡ take (length l.self) l.fn.self; enough : l.len ≤ length l.self }

abbrev pub decreases-loop-self : goal.decreases-loop-self
decreases-loop-self g l = length l.self
