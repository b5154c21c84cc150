-- Marker data as its markers joined, and what is wrong with data that is none.
use Rattle.std.specs.Prelude.{◌≡◌, ◌≢◌, ◌<◌, ◌⊎◌, ℕ, true, false, List, [], ◌∷◌, ◌++◌, length, Contains}
use Rattle.std.specs.List.{AllByRecursion, flat_map}
use Rattle.hg_types.specs.NullId.{null_node}
use Rattle.hg_obs.specs.declared.marker.Marker.{Marker}
use Rattle.hg_obs.specs.declared.fault.MarkerFault.{MarkerFault}
use Rattle.hg_obs.specs.declared.fault.MarkerFault.TheVariants.{BadVersion, Short, BadMetadata, NullSuccessor}
use Rattle.hg_obs.specs.declared.fault.MarkerFault.TheVariants.{NoMemory}
use Rattle.hg_obs.specs.Marker.{marker_bytes, is_metadata, MarkerFits, HasIds, IsMarker}

-- the data is the version byte 0 and these markers, joined
pub record AreMarkers {A : Type 0} (bytes : List ℕ) (markers : List (Marker A)) : Type 0 where
  pub spelled : bytes ≡ 0 ∷ flat_map marker_bytes markers
  pub each : AllByRecursion IsMarker markers

-- bytes of a marker stand at the front, whether it is a good one or not
pub record BeginsWithMarker {A : Type 0} (rest : List ℕ) (m : Marker A) : Type 0 where
  pub more : List ℕ
  pub spelled : rest ≡ marker_bytes m ++ more
  pub fits : MarkerFits m
  pub ids : HasIds m

-- what can be wrong with the first marker of what is left
abbrev pub IsMarkerFault : (A : Type 0) → MarkerFault → List ℕ → Type 0
-- there are not the bytes of a whole one
IsMarkerFault A Short rest = (m : Marker A) → BeginsWithMarker rest m → ⊥
IsMarkerFault A BadMetadata rest = (m : Marker A) × BeginsWithMarker rest m × (is_metadata m.meta ≡ false)
IsMarkerFault A NullSuccessor rest = (m : Marker A) × BeginsWithMarker rest m × (is_metadata m.meta ≡ true)
    × Contains m.successors null_node
IsMarkerFault A BadVersion rest = ⊥
IsMarkerFault A NoMemory rest = ⊥

-- after the version byte stand good markers, and then a faulty one
pub record IsFaultBehind (A : Type 0) (fault : MarkerFault) (bytes : List ℕ) : Type 0 where
  pub before : List (Marker A)
  pub each : AllByRecursion IsMarker before
  pub rest : List ℕ
  pub some : 0 < length rest
  pub spelled : bytes ≡ 0 ∷ (flat_map marker_bytes before ++ rest)
  pub faulty : IsMarkerFault A fault rest

-- the first fault of the data
abbrev pub IsFault : (A : Type 0) → MarkerFault → List ℕ → Type 0
IsFault A BadVersion bytes = (version : ℕ) × (rest : List ℕ) × (bytes ≡ version ∷ rest) × (version ≢ 0)
IsFault A Short bytes = (bytes ≡ []) ⊎ IsFaultBehind A Short bytes
IsFault A BadMetadata bytes = IsFaultBehind A BadMetadata bytes
IsFault A NullSuccessor bytes = IsFaultBehind A NullSuccessor bytes
-- it says nothing of the data
IsFault A NoMemory bytes = Unit {0}
