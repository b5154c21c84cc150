-- The bytes of a marker, and which markers marker data may have.
use Rattle.std.specs.Prelude.{◌≡◌, ◌≢◌, ◌<◌, ◌^◌, ◌==◌, ℕ, Bool, true, List, [], ◌∷◌, ◌++◌, length}
use Rattle.std.specs.List.{AllByRecursion, flat_map, list_all, list_any, slice_split}
use Rattle.std.specs.Int.{w32, to_be_bytes}
use Rattle.hg_types.specs.declared.node.Node.{Node}
use Rattle.hg_types.specs.NullId.{null_node}
use Rattle.hg_obs.specs.declared.marker.Marker.{Marker}

-- ids, joined
abbrev pub ids_bytes : List Node → List ℕ
ids_bytes ids = flat_map (λ id. id.0) ids

-- the number of successors, the size of the metadata, the flags, the predecessor, the successors, the
-- metadata
abbrev pub marker_bytes : {A : Type 0} → Marker A → List ℕ
marker_bytes m =
    length m.successors ∷ (to_be_bytes w32 (length m.meta)
    ++ (m.flags ∷ (m.predecessor.0 ++ (ids_bytes m.successors ++ m.meta))))

-- a piece of metadata is empty, or it has a colon
abbrev pub is_piece : List ℕ → Bool
is_piece [] = true
is_piece (byte ∷ bytes) = list_any (λ b. b == 58) (byte ∷ bytes)

-- each piece between NULs is one
abbrev pub is_metadata : List ℕ → Bool
is_metadata meta = list_all is_piece (slice_split (λ b. b == 0) meta)

-- the numbers that stand before the rest of a marker fit their places
pub record MarkerFits {A : Type 0} (m : Marker A) : Type 0 where
  pub successors : length m.successors < 2 ^ 8
  pub meta : length m.meta < 2 ^ 32

-- the ids are ids
pub record HasIds {A : Type 0} (m : Marker A) : Type 0 where
  pub predecessor : length m.predecessor.0 ≡ 20
  pub successors : AllByRecursion (λ id. length id.0 ≡ 20) m.successors

-- a marker that marker data may have
pub record IsMarker {A : Type 0} (m : Marker A) : Type 0 where
  pub fits : MarkerFits m
  pub ids : HasIds m
  pub metadata : is_metadata m.meta ≡ true
  pub successors : AllByRecursion (λ id. id ≢ null_node) m.successors
