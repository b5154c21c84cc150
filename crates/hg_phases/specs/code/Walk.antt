-- What an advance does to rows on the way: which are lowered, and which get the standing that their phases
-- make.
use Rattle.std.specs.Prelude.{◌≡◌, ◌⊎◌, ℕ, ◌<◌, ◌≤◌, List, [], ◌∷◌, ◌++◌, length, All, Option, Some}
use Rattle.std.specs.Prelude.{slice_index, slice_set}
use Rattle.hg_types.specs.declared.phase.Phase.{Phase}
use Rattle.hg_types.specs.Phase.{number_of}
use Rattle.hg_log.specs.Parents.{IsParentIn}
use Rattle.hg_phases.specs.declared.standing.Standing.{Standing}
use Rattle.hg_phases.specs.Order.{phase_at, phase_above}
use Rattle.hg_phases.specs.Phases.{advanced}
use Rattle.hg_phases.specs.Standing.{standing_of, standing_at, phases_told}

-- what a row is by its phase and those of its parents
abbrev pub standing_in : (ℕ → Option ℕ × Option ℕ) → List Phase → ℕ → Standing
standing_in parents phases r = standing_of (phase_at phases r) (phase_above parents phases r)

-- each row is that
abbrev pub AreStanding : (ℕ → Option ℕ × Option ℕ) → List Standing → Type 0
AreStanding parents rows =
    (r : ℕ) → r < length rows → standing_at rows r ≡ standing_in parents (phases_told rows) r

-- the row is there and above the target, and gets it; it is listed after the others
pub record IsMoved (target : Phase) (row : Option ℕ) (old : List Standing) (listed : List ℕ)
    (new : List Standing) (more : List ℕ) : Type 0 where
  pub rev : ℕ
  pub here : row ≡ Some rev
  pub within : rev < length old
  pub above : number_of target < number_of (phase_at (phases_told old) rev)
  pub rows : new ≡ slice_set old rev (standing_of target target)
  pub list : more ≡ listed ++ rev ∷ []

-- there is no such row, and nothing changes
pub record IsLeft (target : Phase) (row : Option ℕ) (old : List Standing) (listed : List ℕ)
    (new : List Standing) (more : List ℕ) : Type 0 where
  pub below : (rev : ℕ) → row ≡ Some rev → number_of (phase_at (phases_told old) rev) ≤ number_of target
  pub rows : new ≡ old
  pub list : more ≡ listed

abbrev pub IsLowered : Phase → Option ℕ → List Standing → List ℕ → List Standing → List ℕ → Type 0
IsLowered target row old listed new more =
    IsMoved target row old listed new more ⊎ IsLeft target row old listed new more

-- the row stands at some place of the list
abbrev pub IsListed : List ℕ → ℕ → Type 0
IsListed listed r = (k : ℕ) × (k < length listed) × (slice_index listed k ≡ r)

-- the row is above the target
abbrev pub IsHigher : Phase → List Phase → ℕ → Type 0
IsHigher target phases r = number_of target < number_of (phase_at phases r)

-- each listed row has that phase
abbrev pub AreAt : Phase → List Phase → List ℕ → Type 0
AreAt target phases listed = (k : ℕ) → k < length listed → phase_at phases (slice_index listed k) ≡ target

-- the phases are those after an advance; the listed rows were above the target and have it now, and each other
-- one is as before
pub record AreLowered (parents : ℕ → Option ℕ × Option ℕ) (target : Phase) (heads : List ℕ)
    (old new : List Standing) (listed : List ℕ) : Type 0 where
  pub as_long : length new ≡ length old
  pub within : All (λ row. row < length old) listed
  pub phases : phases_told new ≡ advanced parents target heads (phases_told old)
  pub above : (k : ℕ) → k < length listed → IsHigher target (phases_told old) (slice_index listed k)
  pub lowered : AreAt target (phases_told new) listed
  pub each : (r : ℕ) → r < length old → (standing_at new r ≡ standing_at old r) ⊎ IsListed listed r

-- the phases are the same, and each row is what they make it, or as before and not one of those that are asked
-- for
pub record AreRestood (parents : ℕ → Option ℕ × Option ℕ) (Asked : ℕ → Type 0) (old new : List Standing)
    : Type 0 where
  pub as_long : length new ≡ length old
  pub phases : phases_told new ≡ phases_told old
  pub each : (r : ℕ) → r < length old → (standing_at new r ≡ standing_in parents (phases_told old) r)
      ⊎ ((standing_at new r ≡ standing_at old r) × (¬ (Asked r)))

-- it is that row, and is above the target
abbrev pub IsHigherRow : Phase → List Phase → ℕ → ℕ → Type 0
IsHigherRow target phases row r = (r ≡ row) × IsHigher target phases r

-- the row is above the target, and the other one is a parent of it
abbrev pub IsHigherChild : (ℕ → Option ℕ × Option ℕ) → Phase → List Phase → ℕ → ℕ → Type 0
IsHigherChild parents target phases row r = IsParentIn parents row r × IsHigher target phases r

-- one of the first n listed rows is the row, or is a parent of it while it is above the target
pub record IsTouched (parents : ℕ → Option ℕ × Option ℕ) (target : Phase) (phases : List Phase)
    (listed : List ℕ) (n r : ℕ) : Type 0 where
  pub place : ℕ
  pub within : place < n
  pub is : (slice_index listed place ≡ r) ⊎ IsHigherChild parents target phases (slice_index listed place) r
