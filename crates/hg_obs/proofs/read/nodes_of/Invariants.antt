use Rattle.std.proofs.Common.{◌≡◌, map, take}
use Rattle.hg_obs.specs.Reading.{node_of as to_node}
use Rattle.hg_obs.proofs.read.nodes_of.Given as goal

abbrev pub invariant-loop-id : goal.invariant-loop-id
invariant-loop-id g l = l.nodes.items ≡ map to_node (take l.id-index l.ids)
