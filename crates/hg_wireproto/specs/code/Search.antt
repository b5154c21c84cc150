-- How the heads of branches in doubt are found. A branch is known by its first row.
use Rattle.std.specs.Prelude.{◌≡◌, ◌↔◌, ℕ, ◌<◌, ◌≤◌, ◌/◌, ◌%◌, List, [], length, Option, Some, None, Contains}
use Rattle.std.specs.Prelude.{slice_index, slice_index_or}
use Rattle.hg_log.specs.Ancestors.{IsAncestor}
use Rattle.hg_log.specs.Changeset.{Changeset}

-- no row is in two of the lists
abbrev pub AreApart : List (List ℕ) → Type 0
AreApart lists = (i j r : ℕ) → i < length lists → j < length lists → Contains (slice_index_or lists i []) r
    → Contains (slice_index_or lists j []) r → i ≡ j

-- the row is in a list that begins with that one
pub record IsListedFrom (lists : List (List ℕ)) (r f : ℕ) : Type 0 where
  pub place : ℕ
  pub within : place < length lists
  pub has : Contains (slice_index_or lists place []) r
  pub first : slice_index (slice_index_or lists place []) 0 ≡ f

abbrev pub HasFirst : List (Option ℕ) → ℕ → ℕ → Type 0
HasFirst firsts r f = slice_index_or firsts r None ≡ Some f

-- each row of a list has the first one of that
abbrev pub AreFirstsOf : List (List ℕ) → List (Option ℕ) → Type 0
AreFirstsOf lists firsts = (r f : ℕ) → HasFirst firsts r f ↔ IsListedFrom lists r f

-- that first row is the one of that number in a group of 512
pub record IsNumber (first : Option ℕ) (group k : ℕ) : Type 0 where
  pub row : ℕ
  pub is : first ≡ Some row
  pub of_group : row / 512 ≡ group
  pub number : row % 512 ≡ k

-- all rows of the branches of a group are from a row on, and before another
abbrev pub AreBetween : List (Option ℕ) → ℕ → ℕ → ℕ → Type 0
AreBetween firsts group first end = (r f : ℕ) → HasFirst firsts r f → f / 512 ≡ group → (first ≤ r) × (r < end)

-- the row is of a branch of the group, and no other one of that is a descendant
pub record IsLastIn (rows : List Changeset) (firsts : List (Option ℕ)) (group r : ℕ) : Type 0 where
  pub first : ℕ
  pub has : HasFirst firsts r first
  pub of_group : first / 512 ≡ group
  pub last : (d : ℕ) → HasFirst firsts d first → IsAncestor rows r d → d ≡ r
