-- The way back: what was replaced since the savepoint.
use Rattle.std.specs.Prelude.{◌≡◌, ℕ, ◌<◌, ◌≤◌, ◌^◌, List, [], ◌∷◌, All, length, take}
use Rattle.std.specs.Prelude.{slice_index, slice_set, map, filter, nat_lt}
use Rattle.hg_phases.specs.declared.standing.Standing.{Standing}
use Rattle.hg_phases.specs.declared.tape.Replaced.{Replaced}

-- the rows before what was replaced, of which the last comes back first
abbrev pub undone : List Replaced → List Standing → List Standing
undone [] rows = rows
undone (change ∷ changes) rows = slice_set (undone changes rows) change.row change.standing

-- what the rows were at the savepoint, of which there were so many
abbrev pub base_of : ℕ → List Standing → List Replaced → List Standing
base_of saved rows kept = take saved (undone kept rows)

-- those changes that are of the first rows
abbrev pub of_saved : ℕ → List Replaced → List Replaced
of_saved saved changes = filter (λ change. nat_lt change.row saved) changes

-- the rows of changes, in order
abbrev pub rows_of : List Replaced → List ℕ
rows_of changes = map (λ change. change.row) changes

-- Rows and the changes that led to them, and the same some changes later: both lead back to the same rows, and
-- the changes that were there are the first.
pub record TapeFollows (rows : List Standing) (changes : List Replaced) (new : List Standing)
    (more : List Replaced) : Type 0 where
  pub as_long : length new ≡ length rows
  pub back : undone more new ≡ undone changes rows
  pub within : All (λ change. change.row < length rows) changes → All (λ change. change.row < length rows) more
  pub longer : length changes ≤ length more
  pub first : (k : ℕ) → k < length changes → slice_index (rows_of more) k ≡ slice_index (rows_of changes) k

-- The rows of the savepoint are there, and what is kept is of them.
pub record IsSound (rows : List Standing) (kept : List Replaced) (saved : ℕ) : Type 0 where
  pub few : length rows ≤ 2 ^ 32
  pub within : saved ≤ length rows
  pub replaced : All (λ change. change.row < saved) kept
