-- Which rows are marked, of those from a top row down.
use Rattle.std.specs.Prelude.{◌≡◌, ◌⊎◌, ◌↔◌, ℕ, ◌-◌, ◌<◌, ◌≤◌, Bool, true, false}
use Rattle.std.specs.Prelude.{List, Option, Some, slice_index_or}

-- the mark of a row stands as far after the first as the row below the top
-- a row for which none stands is not marked
pub record IsMarked (top : ℕ) (marks : List Bool) (row : ℕ) : Type 0 where
  pub below : row ≤ top
  pub is : slice_index_or marks (top - row) false ≡ true

-- one row more is marked, where there is one that stands after a certain row
abbrev pub AreMarked : ℕ → ℕ → Option ℕ → List Bool → List Bool → Type 0
AreMarked after top row old new =
    (r : ℕ) → IsMarked top new r ↔ (IsMarked top old r ⊎ ((row ≡ Some r) × (after < r)))
