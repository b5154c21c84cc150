-- Obsolete and hidden changesets.
use Rattle.std.specs.Prelude.{◌≡◌, ◌↔◌, ℕ, ◌<◌, Bool, true, false, List, length, slice_index_or}
use Rattle.hg_types.specs.declared.phase.Phase.{Phase}
use Rattle.hg_types.specs.declared.phase.Phase.TheVariants.{Public, Draft, Secret}
use Rattle.hg_log.specs.Ancestors.{IsAncestor}
use Rattle.hg_log.specs.Changeset.{Changeset}
use Rattle.hg_log.specs.HeadCount.{id_at}
use Rattle.hg_phases.specs.Order.{phase_at}
use Rattle.hg_obs.specs.declared.marker.Marker.{Marker}
use Rattle.hg_obs.specs.Markers.{IsPredecessor}

-- the phase is public
abbrev pub is_public : Phase → Bool
is_public Public = true
is_public Draft = false
is_public Secret = false

-- a marker has the changeset as its predecessor
abbrev pub IsMarked : {A : Type 0} → List Changeset → List (Marker A) → ℕ → Type 0
IsMarked rows markers r = IsPredecessor markers (record { 0 = id_at rows r })

-- and it is not public
pub record IsObsolete {A : Type 0} (rows : List Changeset) (markers : List (Marker A)) (phases : List Phase)
    (r : ℕ) : Type 0 where
  pub marked : IsMarked rows markers r
  pub not_public : is_public (phase_at phases r) ≡ false

-- the changeset is obsolete, and all of its descendants are
abbrev pub IsHidden : {A : Type 0} → List Changeset → List (Marker A) → List Phase → ℕ → Type 0
IsHidden rows markers phases r = (d : ℕ) → IsAncestor rows r d → IsObsolete rows markers phases d

-- for each changeset, whether it is hidden
pub record AreHidden {A : Type 0} (rows : List Changeset) (markers : List (Marker A)) (phases : List Phase)
    (hidden : List Bool) : Type 0 where
  pub as_long : length hidden ≡ length rows
  pub each : (r : ℕ) → r < length rows → (slice_index_or hidden r false ≡ true) ↔ IsHidden rows markers phases r
