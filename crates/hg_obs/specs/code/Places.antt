-- How the list of markers finds the first of each predecessor, and what becomes of the places in a table.
use Rattle.std.specs.Prelude.{◌≡◌, ℕ, suc, Bool, true, false, ◌==◌, List, [], ◌∷◌, Option, Some, None}
use Rattle.std.specs.Prelude.{if◌then◌else◌}
use Rattle.std.specs.Map.{lookup}
use Rattle.hg_types.specs.declared.node.Node.{Node}
use Rattle.hg_obs.specs.declared.marker.Marker.{Marker}
use Rattle.hg_obs.specs.Same.{same_node}

-- the place of the first marker with that predecessor, where the list begins at place `from`
abbrev pub place_from : {A : Type 0} → ℕ → Node → List (Marker A) → Option ℕ
place_from from node [] = None
place_from from node (m ∷ ms) = if same_node node m.predecessor then Some from
    else place_from (suc from) node ms

-- a look-up of each id finds the place of the first marker that has it as its predecessor
abbrev pub ArePlaces : {A : Type 0} → List (Node × ℕ) → List (Marker A) → Type 0
ArePlaces entries markers = (node : Node) → lookup (same_node node) entries ≡ place_from 0 node markers

-- the first of two places, where there is one
abbrev pub or_else : Option ℕ → Option ℕ → Option ℕ
or_else None after = after
or_else (Some place) after = Some place

-- the place found, unless it is this one and is to be forgotten
abbrev pub without : Bool → ℕ → Option ℕ → Option ℕ
without false place found = found
without true place None = None
without true place (Some other) = if other == place then None else Some other
