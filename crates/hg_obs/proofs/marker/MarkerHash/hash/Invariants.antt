use Rattle.std.proofs.Common.{◌≡◌, drop, fold, map}
use Rattle.hg_obs.specs.Same.{marker_writes}
use Rattle.hg_obs.proofs.marker.MarkerHash.hash.Given as goal

-- the writes so far, and those of the successors left, are all
abbrev pub invariant-loop-node : goal.invariant-loop-node
invariant-loop-node g l =
    fold g.H.Hasher.write l.state (map (λ node. node.0) (drop l.node-index l.node-items)) ≡ fold
    g.H.Hasher.write l.fn.state (marker_writes l.self)
