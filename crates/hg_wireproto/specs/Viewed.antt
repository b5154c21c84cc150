-- What is reported of when the repository is out of reach.
use Rattle.std.specs.Prelude.{◌≡◌, ◌<◌, ◌≤◌, ℕ, Bool, true, ◌&&◌, List, length, nat_lt, take, Contains, filter}
use mathlib.Core.List.{IsPrefix}
use Rattle.hg_types.specs.declared.phase.Phase.{Phase}
use Rattle.hg_log.specs.Changeset.{Changeset}
use Rattle.hg_phases.specs.Order.{phase_at}
use Rattle.hg_obs.specs.declared.marker.Marker.{Marker}
use Rattle.hg_wireproto.specs.Hidden.{IsObsolete, is_public}

-- changesets, markers, and the phases of the changesets, as they were at one time
pub record Viewed (A : Type 0) : Type 0 where
  pub rows : List Changeset
  pub markers : List (Marker A)
  pub phases : List Phase

-- changesets, markers and phases; how many changesets and markers were there before; and of the changesets that were
-- obsolete then, those that are public now
pub record Since (A : Type 0) : Type 0 where
  pub first : ℕ
  pub known : ℕ
  pub public : List ℕ
  pub rows : List Changeset
  pub markers : List (Marker A)
  pub phases : List Phase

-- all changesets of the view that are obsolete are among these
abbrev pub AreSeen : {A : Type 0} → Viewed A → List ℕ → Type 0
AreSeen view seen =
    (r : ℕ) → r < length view.rows → IsObsolete view.rows view.markers view.phases r → Contains seen r

-- the changeset is one of the first, and is public
abbrev pub is_shown : ℕ → List Phase → ℕ → Bool
is_shown first phases r = nat_lt r first && is_public (phase_at phases r)

-- those of the first that are public, of changesets that were obsolete
abbrev pub shown_of : ℕ → List Phase → List ℕ → List ℕ
shown_of first phases seen = filter (is_shown first phases) seen

-- changesets that were public are public
pub record StayPublic (old new : List Phase) : Type 0 where
  pub as_many : length old ≤ length new
  pub each : (r : ℕ) → r < length old → is_public (phase_at old r) ≡ true → is_public (phase_at new r) ≡ true

-- The view is of those that were there before. Each changeset that was public is, and each that was obsolete and is
-- public now is listed.
pub record IsBefore {A : Type 0} (view : Viewed A) (came : Since A) : Type 0 where
  pub rows : view.rows ≡ take came.first came.rows
  pub markers : view.markers ≡ take came.known came.markers
  pub stay : (r : ℕ) → r < came.first → is_public (phase_at view.phases r) ≡ true
      → is_public (phase_at came.phases r) ≡ true
  pub listed : (r : ℕ) → r < came.first → IsObsolete view.rows view.markers view.phases r
      → is_public (phase_at came.phases r) ≡ true → Contains came.public r

-- the view is of the first of these, and what was public then is public
pub record IsFrontOf {A : Type 0} (view : Viewed A) (changesets : List Changeset) (marks : List (Marker A))
    (phases : List Phase) : Type 0 where
  pub rows : IsPrefix view.rows changesets
  pub markers : IsPrefix view.markers marks
  pub stay : StayPublic view.phases phases
