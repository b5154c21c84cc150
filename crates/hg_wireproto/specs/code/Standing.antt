-- How a row stands among the first rows, by those from it on.
use Rattle.std.specs.Prelude.{◌≡◌, ◌≢◌, ◌↔◌, ℕ, ◌<◌, ◌≤◌, ◌+◌, ◌-◌, true, false, List, length, Option, Some}
use Rattle.std.specs.Prelude.{slice_index_or}
use Rattle.hg_log.specs.Changeset.{Changeset}
use Rattle.hg_log.specs.Parents.{parents_of, Leads}
use Rattle.hg_types.specs.declared.phase.Phase.{Phase}
use Rattle.hg_obs.specs.declared.marker.Marker.{Marker}
use Rattle.hg_wireproto.specs.declared.standing.Line.{Line}
use Rattle.hg_wireproto.specs.declared.standing.Standing.{Standing}
use Rattle.hg_wireproto.specs.declared.standing.Standing.TheVariants.{Hidden, Head, Covered}
use Rattle.hg_wireproto.specs.code.Branches.{branch_at}
use Rattle.hg_wireproto.specs.code.Covered.{IsHeadTo, IsHiddenTo}

-- the row is hidden, it is a head of its branch, or it is neither, among the first n rows
abbrev pub IsStanding : {A : Type 0} → List Changeset → List (Marker A) → List Phase → ℕ → ℕ → Standing → Type 0
IsStanding rows markers phases n r Hidden = IsHiddenTo rows markers phases n r
IsStanding rows markers phases n r Head = IsHeadTo rows markers phases n r
IsStanding rows markers phases n r Covered =
    (¬ (IsHiddenTo rows markers phases n r)) × (¬ (IsHeadTo rows markers phases n r))

-- row a leads to another of its branch, and that leads to row r
pub record IsBehind (rows : List Changeset) (a r : ℕ) : Type 0 where
  pub other : ℕ
  pub proper : other ≢ a
  pub named : branch_at rows other ≡ branch_at rows a
  pub leads : Leads (parents_of rows) a other
  pub on : Leads (parents_of rows) other r

-- it is said whether row a leads to row r, and whether it does over another of its branch
pub record IsLine (rows : List Changeset) (a r : ℕ) (line : Line) : Type 0 where
  pub below : (line.below ≡ true) ↔ Leads (parents_of rows) a r
  pub behind : (line.behind ≡ true) ↔ IsBehind rows a r

-- it is said of each row from row a on
abbrev pub AreLines : List Changeset → ℕ → List Line → Type 0
AreLines rows a lines = (k : ℕ) (other : Line) → k < length lines → IsLine rows a (a + k) (slice_index_or lines k other)

-- the line of that parent, where there is one from row a on; else neither is said of it
pub record IsLineAt (lines : List Line) (a : ℕ) (parent : Option ℕ) (line : Line) : Type 0 where
  pub there : (p : ℕ) → parent ≡ Some p → a ≤ p → line ≡ slice_index_or lines (p - a) line
  pub earlier : ((p : ℕ) → parent ≡ Some p → p < a) → (line.below ≡ false) × (line.behind ≡ false)
