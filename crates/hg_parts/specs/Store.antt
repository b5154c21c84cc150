-- What parts change in place, the moment to which it can go back, and what every part keeps of it.
use Rattle.std.specs.Prelude.{◌≡◌, ◌≤◌, [], take, length, Some, None}
use Rattle.hg_types.specs.declared.limits.Limits.{Limits}
use Rattle.hg_types.specs.declared.limits.Settings.{Settings}
use Rattle.hg_phases.specs.Phases.{AreFor, no_rows}
use Rattle.hg_obs.specs.Markers.{AreLawful as AreLawfulMarkers}
use Rattle.hg_parts.specs.declared.store.Store.{Store}
use Rattle.hg_parts.specs.declared.store.StoreSavepoint.{StoreSavepoint}
use Rattle.hg_parts.specs.Repository.{Repository}
use Rattle.hg_keys.specs.Known.{AreOnKnown}

-- the repository that a store holds
abbrev pub repository_of : {A : Type 0} → Settings → Store A → Repository A
repository_of settings store = record {
  settings = settings;
  rows = store.log.rows;
  phases = store.phases.current.phases;
  markers = store.markers;
  bookmarks = store.bookmarks.current;
}

-- The store holds a lawful repository with those settings: each row has a phase, markers have their format,
-- and each bookmark is on a known changeset.
pub record IsSound {A : Type 0} (settings : Settings) (store : Store A) : Type 0 where
  pub fits : AreFor store.log.rows store.phases.current
  pub count : length store.phases.current.phases ≡ length store.log.rows
  pub limits : store.log.limits ≡ settings.limits
  pub markers : AreLawfulMarkers store.markers
  pub bookmarks : AreOnKnown store.log.rows store.bookmarks.current

-- Rows and markers came at their ends, if at all, and the savepoints of phases and bookmarks stay.
pub record IsGrown {A : Type 0} (old new : Store A) : Type 0 where
  pub rows_within : length old.log.rows ≤ length new.log.rows
  pub rows_front : take (length old.log.rows) new.log.rows ≡ old.log.rows
  pub limits : new.log.limits ≡ old.log.limits
  pub markers_within : length old.markers ≤ length new.markers
  pub markers_front : take (length old.markers) new.markers ≡ old.markers
  pub phases_saved : new.phases.saved ≡ old.phases.saved
  pub bookmarks_saved : new.bookmarks.saved ≡ old.bookmarks.saved

-- ---- the way back

-- the store without anything
abbrev pub empty_store : {A : Type 0} → Limits → Store A
empty_store limits = record {
  log = record { rows = []; limits = limits };
  phases = record { current = no_rows; saved = None };
  markers = [];
  bookmarks = record { current = []; saved = None };
}

-- the same, with a savepoint at what it is
abbrev pub with_savepoints : {A : Type 0} → Store A → Store A
with_savepoints store = record {
  log = store.log;
  phases = record { current = store.phases.current; saved = Some store.phases.current };
  markers = store.markers;
  bookmarks = record { current = store.bookmarks.current; saved = Some store.bookmarks.current };
}

-- the same without a savepoint
abbrev pub without_savepoints : {A : Type 0} → Store A → Store A
without_savepoints store = record {
  log = store.log;
  phases = record { current = store.phases.current; saved = None };
  markers = store.markers;
  bookmarks = record { current = store.bookmarks.current; saved = None };
}

-- The savepoint was made when the store was `before`, and since then it has grown at most.
pub record CanGoBack {A : Type 0} (before : Store A) (savepoint : StoreSavepoint) (now : Store A) : Type 0 where
  pub rows : savepoint.rows ≡ length before.log.rows
  pub markers : savepoint.markers ≡ length before.markers
  pub grown : IsGrown (with_savepoints before) now
