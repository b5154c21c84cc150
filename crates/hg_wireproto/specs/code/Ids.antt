-- How the ids of all changesets are kept.
use Rattle.std.specs.Prelude.{◌≡◌, ◌↔◌, ℕ, nat_eq, ⊤, false, List, length, Contains, Option, Some, None, IfSome}
use Rattle.std.specs.Prelude.{if◌then◌else◌}
use Rattle.std.specs.Cmp.Lexicographic.{slice_cmp}
use Rattle.std.specs.List.{starts_with}
use Rattle.std.specs.Ordering.{is_gt, nat_cmp}
use Rattle.std.specs.declared.cmp.Ordering.TheVariants.{Less}
use Rattle.std.specs.declared.ops.Bound.{Bound}
use Rattle.std.specs.declared.ops.Bound.TheVariants.{Included, Excluded, Unbounded}
use Rattle.hex.specs.Hex.{encode_lower}
use Rattle.hg_types.specs.declared.node.Node.{Node}
use Rattle.hg_log.specs.Changeset.{Changeset}
use Rattle.hg_log.specs.Rows.{HasNode}

-- a changeset has the id
abbrev pub IsId : List Changeset → Node → Type 0
IsId rows node = (r : ℕ) × HasNode rows r node.0

-- the ids of all changesets, and no others; each has 20 bytes
pub record AreIds (rows : List Changeset) (nodes : List Node) : Type 0 where
  pub each : (node : Node) → Contains nodes node ↔ IsId rows node
  pub long : (node : Node) → Contains nodes node → length node.0 ≡ 20

-- the bytes of a are not above those of b
abbrev pub IsUpTo : Node → Node → Type 0
IsUpTo a b = is_gt (slice_cmp nat_cmp a.0 b.0) ≡ false

-- the id is that of the bound or above it; or only above it, where it is excluded
abbrev pub IsFrom : Bound Node → Node → Type 0
IsFrom (Included a) b = IsUpTo a b
IsFrom (Excluded a) b = slice_cmp nat_cmp a.0 b.0 ≡ Less
IsFrom Unbounded b = ⊤

-- the least of the ids from there on, where there is one
pub record IsNextId (nodes : List Node) (start : Bound Node) (next : Option Node) : Type 0 where
  pub is_one : IfSome next (λ n. Contains nodes n × IsFrom start n)
  pub least : (node : Node) → Contains nodes node → IsFrom start node → (n : Node) × (next ≡ Some n) × IsUpTo n node

-- the id, where there is one whose digits the key begins
abbrev pub if_begun : List ℕ → Option Node → Option Node
if_begun key None = None
if_begun key (Some node) = if starts_with nat_eq (encode_lower node.0) key then Some node else None
