-- How the list of markers finds those that are not the first of their predecessor.
use Rattle.std.specs.Prelude.{◌≡◌, ℕ, suc, Bool, ◌&&◌, List, [], ◌∷◌, ◌++◌, Option, Some, None, replicate}
use Rattle.std.specs.Prelude.{if◌then◌else◌, fold}
use Rattle.std.specs.List.{list_any, IsDistinct}
use Rattle.std.specs.Map.{lookup}
use Rattle.std.specs.RandomState.{initial_hasher}
use Rattle.std.specs.Hash.DefaultHasher.{write, finish}
use Rattle.std.specs.Int.{w64, to_be_bytes}
use Rattle.std.specs.declared.random_state.RandomState.{RandomState}
use Rattle.hg_types.specs.declared.node.Node.{Node}
use Rattle.hg_obs.specs.declared.marker.Marker.{Marker}
use Rattle.hg_obs.specs.code.Places.{ArePlaces}
use Rattle.hg_obs.specs.Same.{is_same, same_node, marker_writes}

-- a marker of the list has the predecessor of this one
abbrev pub has_predecessor : {A : Type 0} → List (Marker A) → Marker A → Bool
has_predecessor markers m = list_any (λ x. same_node m.predecessor x.predecessor) markers

-- the id that stands for a marker: its hash by random keys, and zeros
abbrev pub seal_of : {A : Type 0} → RandomState → Marker A → Node
seal_of state m = record {
  0 = to_be_bytes w64 (finish (fold write (initial_hasher state) (marker_writes m)))
      ++ replicate 12 0;
}

-- the place of the first marker with that seal which is not the first of its predecessor, where the list
-- begins at place `from`, after those before it
abbrev pub later_from : {A : Type 0} → (Marker A → Node) → List (Marker A) → ℕ → Node → List (Marker A)
    → Option ℕ
later_from seal before from node [] = None
later_from seal before from node (m ∷ ms) = if has_predecessor before m && same_node node (seal m)
    then Some from else later_from seal (before ++ m ∷ []) (suc from) node ms

-- a look-up of each id finds that place
abbrev pub AreLaterPlaces : {A : Type 0} → (Marker A → Node) → List (Node × ℕ) → List (Marker A) → Type 0
AreLaterPlaces seal entries markers = (node : Node)
    → lookup (same_node node) entries ≡ later_from seal [] 0 node markers

-- how the list is kept: the place of the first marker of each predecessor, the places of the others by their
-- seals, and no marker twice
pub record AreKept {A : Type 0} (state : RandomState) (markers : List (Marker A)) (firsts others
    : List (Node × ℕ)) : Type 0 where
  pub firsts_found : ArePlaces firsts markers
  pub others_found : AreLaterPlaces (seal_of state) others markers
  pub distinct : IsDistinct is_same markers
