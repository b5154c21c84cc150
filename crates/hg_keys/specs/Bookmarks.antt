-- Bookmarks: a map from names to changesets, as its pairs in the order of the names' bytes.
use Rattle.std.specs.Prelude.{◌≡◌, ◌≢◌, ℕ, List, [], ◌∷◌, ◌++◌, filter, Option, Some, None, bytes_eq}
use Rattle.hg_types.specs.declared.node.Node.{Node}
use Rattle.hg_names.specs.Names.{with_name, without}
use Rattle.hg_keys.specs.Payload.{Entry}
pub use Rattle.hg_names.specs.Names.{Pairs, AreInOrder, node_of}

-- the map with a name on that changeset, or without the name: the others stay
abbrev pub with_bookmark : Pairs → List ℕ → Option Node → Pairs
with_bookmark pairs name None = without pairs name
with_bookmark pairs name (Some node) = with_name pairs name node

-- each name is set or deleted, in order
abbrev pub set_each : List Entry → Pairs → Pairs
set_each [] pairs = pairs
set_each (entry ∷ entries) pairs = set_each entries (with_bookmark pairs entry.1 entry.0)

-- the entries of a name, in their order
abbrev pub of_name : List ℕ → List Entry → List Entry
of_name name entries = filter (λ entry. bytes_eq entry.1 name) entries

-- of each name they have the same entries, in the same order
abbrev pub HaveSameNames : List Entry → List Entry → Type 0
HaveSameNames entries others = (name : List ℕ) → of_name name others ≡ of_name name entries

-- of the entries, in an order in which those of each name keep theirs, the first were set
pub record ArePartlySet (entries : List Entry) (before after : Pairs) : Type 0 where
  pub done : List Entry
  pub left : List Entry
  pub same : HaveSameNames entries (done ++ left)
  pub is : after ≡ set_each done before

-- a name is on what it was set to, and the others are on what they were on
abbrev pub SetIsFound : Type 0
SetIsFound = (pairs : Pairs) (name : List ℕ) (node : Option Node) →
    node_of (with_bookmark pairs name node) name ≡ node

-- a change of one bookmark changes no other
abbrev pub OthersStay : Type 0
OthersStay =
    (pairs : Pairs) (name other : List ℕ) (node : Option Node) → other ≢ name →
    node_of (with_bookmark pairs name node) other ≡ node_of pairs other

-- What contracts see: the map, and the map at the moment of the savepoint, where there is one.
pub record Saved : Type 0 where
  pub current : Pairs
  pub saved : Option Pairs
