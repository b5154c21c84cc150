-- A list of distinct markers: what a merge makes of it, and which changesets it makes obsolete.
use Rattle.std.specs.Prelude.{◌≡◌, ◌≢◌, Bool, not, List, [], ◌∷◌, ◌++◌, filter, Any, AllPairs}
use Rattle.std.specs.List.{list_any, AllByRecursion}
use Rattle.hg_types.specs.declared.node.Node.{Node}
use Rattle.hg_obs.specs.declared.marker.Marker.{Marker}
use Rattle.hg_obs.specs.Marker.{IsMarker}
use Rattle.hg_obs.specs.Same.{is_same}

-- the marker is in the list
abbrev pub is_in : {A : Type 0} → List (Marker A) → Marker A → Bool
is_in markers m = list_any (is_same m) markers

-- each marker once, at its first place
abbrev pub firsts : {A : Type 0} → List (Marker A) → List (Marker A)
firsts [] = []
firsts (m ∷ ms) = m ∷ filter (λ n. not (is_same m n)) (firsts ms)

-- those that are not in the list yet, each once, at its first place
abbrev pub fresh : {A : Type 0} → List (Marker A) → List (Marker A) → List (Marker A)
fresh old added = filter (λ m. not (is_in old m)) (firsts added)

-- the list after a merge
abbrev pub merged : {A : Type 0} → List (Marker A) → List (Marker A) → List (Marker A)
merged old added = old ++ fresh old added

-- the id is the predecessor of a marker of the list
abbrev pub IsPredecessor : {A : Type 0} → List (Marker A) → Node → Type 0
IsPredecessor markers node = Any (λ m. m.predecessor ≡ node) markers

-- markers that a repository may have: distinct ones, and each is one that marker data may have
pub record AreLawful {A : Type 0} (markers : List (Marker A)) : Type 0 where
  pub distinct : AllPairs (λ a b. a ≢ b) markers
  pub each : AllByRecursion IsMarker markers
