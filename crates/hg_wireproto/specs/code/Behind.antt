-- Sets of changesets, each a bit of a number, and those that descendants are in.
use Rattle.std.specs.Prelude.{◌≡◌, ◌≢◌, ◌⊎◌, ◌↔◌, ℕ, ◌<◌, List, length, Option, Some, slice_index}
use Rattle.std.specs.Int.{bit_at}
use Rattle.hg_log.specs.Ancestors.{IsAncestor}
use Rattle.hg_log.specs.Changeset.{Changeset}

-- the row is in the set of that number
abbrev pub IsIn : List ℕ → ℕ → ℕ → Type 0
IsIn sets r k = bit_at (slice_index sets r) k ≡ 1

-- a proper descendant of the row is
pub record HasBehind (rows : List Changeset) (sets : List ℕ) (r k : ℕ) : Type 0 where
  pub other : ℕ
  pub descends : IsAncestor rows r other
  pub proper : other ≢ r
  pub is_in : IsIn sets other k

-- each bit says whether one is
pub record AreBehind (rows : List Changeset) (sets behind : List ℕ) : Type 0 where
  pub as_long : length behind ≡ length rows
  pub each : (r k : ℕ) → r < length rows → IsIn behind r k ↔ HasBehind rows sets r k

-- sets are added to those of one row, where there is one
pub record AreAdded (row : Option ℕ) (sets : ℕ) (old new : List ℕ) : Type 0 where
  pub as_long : length new ≡ length old
  pub each : (r k : ℕ) → IsIn new r k ↔ (IsIn old r k ⊎ ((row ≡ Some r) × (bit_at sets k ≡ 1)))
