-- The null id: the parent of a changeset without one, which is known everywhere.
use Rattle.std.specs.Prelude.{ℕ, List, replicate}
use Rattle.hg_types.specs.declared.node.Node.{Node}

-- its bytes: 20 zeros
abbrev pub null_id : List ℕ
null_id = replicate 20 0

-- the null id, as an id
abbrev pub null_node : Node
null_node = record { 0 = null_id }
