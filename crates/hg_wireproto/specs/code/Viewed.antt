-- How the code keeps what it reports of changesets and markers.
use Rattle.std.specs.Prelude.{◌≡◌, ◌⊎◌, ℕ, ◌<◌, ◌≤◌, ◌^◌, ◌+◌, ◌-◌, true, List, [], ◌∷◌, length, slice_index}
use Rattle.std.specs.Prelude.{slice_index_or, take}
use Rattle.std.specs.Prelude.{All, Contains, IfSome}
use Rattle.hg_types.specs.declared.phase.Phase.{Phase}
use Rattle.hg_log.specs.Changeset.{Changeset, Log}
use Rattle.hg_log.specs.Parents.{parents_of}
use Rattle.hg_log.specs.Rows.{AreLawful, HasNode}
use Rattle.hg_phases.specs.Order.{phase_at}
use Rattle.hg_phases.specs.Phases.{Saved}
use Rattle.hg_obs.specs.declared.marker.Marker.{Marker}
use Rattle.hg_wireproto.specs.declared.since.ViewRow.{ViewRow}
use Rattle.hg_wireproto.specs.code.Branches.{branch_at}
use Rattle.hg_wireproto.specs.Hidden.{IsMarked, IsObsolete, is_public}
use Rattle.hg_wireproto.specs.code.Hiding.{TellsKept}

-- what a view was made of is noted alone
abbrev pub rows_in : {A : Type 0} → List (Log × List (Marker A)) → List Changeset
rows_in [] = []
rows_in (noted ∷ more) = noted.0.rows

abbrev pub markers_in : {A : Type 0} → List (Log × List (Marker A)) → List (Marker A)
markers_in [] = []
markers_in (noted ∷ more) = noted.1

abbrev pub phases_in : {A : Type 0} → List (Saved × List (Marker A)) → List Phase
phases_in [] = []
phases_in (noted ∷ more) = noted.0.current.phases

-- the entry has the id and the parents of the row
pub record IsEntry (rows : List Changeset) (r : ℕ) (entry : ViewRow) : Type 0 where
  pub has : HasNode rows r entry.node.0
  pub first : entry.p1 ≡ (parents_of rows r).0
  pub second : entry.p2 ≡ (parents_of rows r).1
  pub first_earlier : IfSome entry.p1 (λ p. p < r)
  pub second_earlier : IfSome entry.p2 (λ p. p < r)

-- there is an entry for each of the first n rows
pub record AreEntries (rows : List Changeset) (n : ℕ) (entries : List ViewRow) : Type 0 where
  pub as_long : length entries ≡ n
  pub each : (r : ℕ) (other : ViewRow) → r < n → IsEntry rows r (slice_index_or entries r other)

-- there is the name of the branch of each of the first n rows
pub record AreNames (rows : List Changeset) (n : ℕ) (names : List (List ℕ)) : Type 0 where
  pub as_long : length names ≡ n
  pub each : (r : ℕ) → r < n → slice_index_or names r [] ≡ branch_at rows r

-- all that is kept is that of these rows and markers
pub record IsKeptOf {A : Type 0} (rows : List Changeset) (markers : List (Marker A)) (phases : List Phase)
    (entries : List ViewRow)
    (names : List (List ℕ)) (kept : List ℕ) : Type 0 where
  pub lawful : AreLawful rows
  pub few : length rows < 2 ^ 31
  pub count : length rows ≤ length phases
  pub are_entries : AreEntries rows (length rows) entries
  pub are_names : AreNames rows (length rows) names
  pub kept_long : length kept ≡ length rows
  pub are_kept : (r : ℕ) → r < length rows → TellsKept rows markers phases r (slice_index kept r)

-- ---- what came to them

-- there is an entry for each of n rows from that one on
pub record AreEntriesFrom (rows : List Changeset) (first n : ℕ) (entries : List ViewRow) : Type 0 where
  pub as_long : length entries ≡ n
  pub each : (i : ℕ) (other : ViewRow) → i < n → IsEntry rows (first + i) (slice_index_or entries i other)

-- there is the name of the branch of each of n rows from that one on
pub record AreNamesFrom (rows : List Changeset) (first n : ℕ) (names : List (List ℕ)) : Type 0 where
  pub as_long : length names ≡ n
  pub each : (i : ℕ) → i < n → slice_index_or names i [] ≡ branch_at rows (first + i)

-- it is said of each of n rows from that one on whether it is kept
pub record AreKeptFrom {A : Type 0} (rows : List Changeset) (markers : List (Marker A)) (phases : List Phase)
    (first n : ℕ)
    (kept : List ℕ) : Type 0 where
  pub as_long : length kept ≡ n
  pub each : (i : ℕ) → i < n → TellsKept rows markers phases (first + i) (slice_index kept i)

-- Of the first rows, those are listed that are obsolete by markers that are not known; what is listed is one of them
-- and is obsolete.
pub record AreListed {A : Type 0} (rows : List Changeset) (markers : List (Marker A)) (phases : List Phase)
    (first known : ℕ)
    (revs : List ℕ) : Type 0 where
  pub each : (r : ℕ) → r < first → IsObsolete rows markers phases r
      → IsMarked rows (take known markers) r ⊎ Contains revs r
  pub within : All (λ r. r < first) revs
  pub obsolete : All (λ r. IsObsolete rows markers phases r) revs

-- of the first rows these are public
pub record ArePublic (phases : List Phase) (first : ℕ) (revs : List ℕ) : Type 0 where
  pub within : All (λ r. r < first) revs
  pub each : All (λ r. is_public (phase_at phases r) ≡ true) revs

-- all that is kept is what came to the first rows and the known markers
pub record IsSinceOf {A : Type 0} (first known : ℕ) (public : List ℕ) (rows : List Changeset)
    (markers : List (Marker A)) (phases : List Phase) (entries : List ViewRow) (names : List (List ℕ))
    (kept revs : List ℕ) : Type 0 where
  pub lawful : AreLawful rows
  pub few : length rows < 2 ^ 31
  pub count : length rows ≤ length phases
  pub first_within : first ≤ length rows
  pub known_within : known ≤ length markers
  pub are_entries : AreEntriesFrom rows first (length rows - first) entries
  pub are_names : AreNamesFrom rows first (length rows - first) names
  pub are_kept : AreKeptFrom rows markers phases first (length rows - first) kept
  pub are_listed : AreListed rows markers phases first known revs
  pub are_public : ArePublic phases first public
