-- How the ids of heads are kept.
use Rattle.std.specs.Prelude.{◌≡◌, ◌↔◌, ℕ, List, Contains, Option, Some}
use Rattle.hg_types.specs.declared.node.Node.{Node}
use Rattle.hg_log.specs.Changeset.{Changeset}
use Rattle.hg_log.specs.Heads.{IsHead}
use Rattle.hg_log.specs.Rows.{HasNode}

-- the ids of the heads, and no others
abbrev pub AreHeadIds : List Changeset → List Node → Type 0
AreHeadIds rows nodes = (node : Node) → Contains nodes node ↔ IsHead rows node.0

-- the id of that row, where there is a number, is left out, and no other
abbrev pub AreLeft : List Changeset → Option ℕ → List Node → List Node → Type 0
AreLeft rows rev old new =
    (node : Node) → Contains new node ↔ (Contains old node × ((r : ℕ) → rev ≡ Some r → ¬ (HasNode rows r node.0)))
