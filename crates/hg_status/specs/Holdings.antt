-- How much a repository holds, as it is shown.
use Rattle.std.specs.Prelude.{◌≡◌, ℕ, ◌==◌, List, length, min, take, if◌then◌else◌}
use Rattle.hg_types.specs.declared.phase.Phase.{Phase}
use Rattle.hg_log.specs.Changeset.{Changeset}
use Rattle.hg_log.specs.HeadCount.{head_count}
use Rattle.hg_obs.specs.declared.marker.Marker.{Marker}
use Rattle.hg_keys.specs.Bookmarks.{Pairs}
use Rattle.hg_status.specs.declared.holdings.Holdings.{Holdings}
use Rattle.hg_status.specs.Heads.{AreOf, shown_revs}

-- how many changesets are nobody's parent: none where there are no changesets
unfoldable pub heads_of : List Changeset → ℕ
heads_of rows = if length rows == 0 then 0 else head_count rows

-- each number is that of the repository
pub record AreCounted {A : Type 0} (rows : List Changeset) (obsolete : List (Marker A)) (pairs : Pairs)
    (holdings : Holdings A) : Type 0 where
  pub changesets : holdings.changesets ≡ length rows
  pub heads : holdings.heads ≡ heads_of rows
  pub bookmarks : holdings.bookmarks ≡ length pairs
  pub markers : holdings.markers ≡ length obsolete

-- The heads are those of the repository's last heads, with the bookmarks that are on them, of the first 10,000.
pub record AreShown {A : Type 0} (rows : List Changeset) (phases : List Phase) (pairs : Pairs) (holdings : Holdings A) :
    Type 0 where
  pub looked_at : holdings.looked_at ≡ min (length pairs) 10000
  pub heads : AreOf rows phases (take holdings.looked_at pairs) (shown_revs rows) holdings.shown
