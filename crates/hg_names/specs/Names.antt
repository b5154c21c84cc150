-- Names in the order of their bytes, each with the changeset that it is on.
use Rattle.std.specs.Prelude.{◌≡◌, ℕ, Bool, List, ◌∷◌, ◌++◌, filter, AllPairs, Option, bytes_eq}
use Rattle.std.specs.Map.{lookup}
use Rattle.std.specs.Cmp.Lexicographic.{slice_cmp}
use Rattle.std.specs.Ordering.{is_lt, nat_cmp}
use Rattle.std.specs.declared.cmp.Ordering.{Ordering}
use Rattle.std.specs.declared.cmp.Ordering.TheVariants.{Less}
use Rattle.hg_types.specs.declared.node.Node.{Node}

-- a name, and the changeset that it is on
abbrev pub Pairs : Type 0
Pairs = List (List ℕ × Node)

-- names are compared byte by byte: the first difference decides, and else the lengths do
abbrev pub name_cmp : List ℕ → List ℕ → Ordering
name_cmp = slice_cmp nat_cmp

-- each name comes before those after it, so none is there twice
abbrev pub AreInOrder : Pairs → Type 0
AreInOrder pairs = AllPairs (λ pair other. name_cmp pair.0 other.0 ≡ Less) pairs

-- the changeset that a name is on
abbrev pub node_of : Pairs → List ℕ → Option Node
node_of pairs name = lookup (λ other. bytes_eq other name) pairs

-- in the order of names' bytes
abbrev pub is_before : List ℕ → List ℕ → Bool
is_before name other = is_lt (name_cmp name other)

-- the names with that one on a changeset: the others stay
unfoldable pub with_name : Pairs → List ℕ → Node → Pairs
with_name pairs name node =
    filter (λ pair. is_before pair.0 name) pairs
    ++ (name, node) ∷ filter (λ pair. is_before name pair.0) pairs

-- the names without that one
unfoldable pub without : Pairs → List ℕ → Pairs
without pairs name =
    filter (λ pair. is_before pair.0 name) pairs ++ filter (λ pair. is_before name pair.0) pairs

-- What contracts see: the pairs, and how many names can come back without asking for memory.
pub record Held : Type 0 where
  pub pairs : Pairs
  pub room : ℕ
