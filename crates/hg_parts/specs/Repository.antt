-- The repository as a value, and when it is lawful.
use Rattle.std.specs.Prelude.{◌≡◌, List, [], length}
use Rattle.hg_types.specs.declared.limits.Settings.{Settings}
use Rattle.hg_types.specs.declared.phase.Phase.{Phase}
use Rattle.hg_log.specs.Changeset.{Changeset}
use Rattle.hg_log.specs.Rows.{AreLawful as AreLawfulRows}
use Rattle.hg_log.specs.Parents.{parents_of}
use Rattle.hg_phases.specs.Phases.{AreLawful as AreLawfulPhases}
use Rattle.hg_obs.specs.declared.marker.Marker.{Marker}
use Rattle.hg_obs.specs.Markers.{AreLawful as AreLawfulMarkers}
use Rattle.hg_keys.specs.Bookmarks.{Pairs, AreInOrder}
use Rattle.hg_keys.specs.Known.{AreOnKnown}

-- A repository: how it is set up, its changesets in the order in which they came, the phase of each, its
-- markers, and its bookmarks in the order of their names.
pub record Repository (A : Type 0) : Type 0 where
  pub settings : Settings
  pub rows : List Changeset
  pub phases : List Phase
  pub markers : List (Marker A)
  pub bookmarks : Pairs

-- the repository without anything
abbrev pub empty_with : {A : Type 0} → Settings → Repository A
empty_with settings = record { settings = settings; rows = []; phases = []; markers = []; bookmarks = [] }

-- Ids are distinct and agree with their hash, and parents are null or earlier rows. Each row has a phase,
-- and none a lower one than a parent. Markers are distinct and have their format. Each name is there once,
-- and on a known changeset.
pub record IsLawful {A : Type 0} (repo : Repository A) : Type 0 where
  pub rows : AreLawfulRows repo.rows
  pub count : length repo.phases ≡ length repo.rows
  pub phases : AreLawfulPhases (parents_of repo.rows) repo.phases
  pub markers : AreLawfulMarkers repo.markers
  pub names : AreInOrder repo.bookmarks
  pub bookmarks : AreOnKnown repo.rows repo.bookmarks
