-- Where code finds a row, and what a step makes of it.
use Rattle.std.specs.Prelude.{ℕ, Bool, true, false, ◌≡◌, ◌≢◌, ◌==◌, ◌<◌, map, List, [], ◌∷◌, length}
use Rattle.std.specs.Prelude.{position, slice_index_or, Some, Result, Ok, Err}
use Rattle.std.specs.List.{AllByRecursion}
use Rattle.hg_types.specs.declared.part.Part.{Part}
use Rattle.hg_parts.specs.declared.item.Taken.{Taken}
use Rattle.hg_parts.specs.declared.prepared.Prepared.{Prepared}
use Rattle.hg_push.specs.declared.outcome.Reason.{Reason}
use Rattle.hg_push.specs.declared.outcome.Reason.TheVariants.{Refused, Cut, WrongIndex, NoMemory}
use Rattle.hg_push.specs.declared.outcome.Standing.{Standing}
use Rattle.hg_push.specs.declared.outcome.Standing.TheVariants.{Open as is_open_now}
use Rattle.hg_push.specs.declared.row.State.{State}
use Rattle.hg_push.specs.declared.row.State.TheVariants.{Open, Closed}
use Rattle.hg_push.specs.declared.row.Row.{Row}
use Rattle.hg_push.specs.History.{Running, Serial, decided, kept, told, takes_memory, parts_after}
use Rattle.hg_push.specs.Rows.{Stages, TellsState, is_open, standing_of}

-- the parts that an open push staged
abbrev pub staged_in : {A D E : Type 0} → State D E A → List (Prepared A)
staged_in (Open staged) = staged
staged_in (Closed outcome) = []

-- the first row of p is at this place, and is open
abbrev pub IsOpenAt : {A D E : Type 0} → ℕ → List (Row D E A) → ℕ → Type 0
IsOpenAt {A} {D} {E} p rows i = (position (λ r. r.push == p) rows ≡ Some i)
    × ((r : Row D E A) → r ≡ slice_index_or rows i r → is_open r.state ≡ true)

-- memory was refused
abbrev pub is_no_memory : {E : Type 0} → Reason E → Bool
is_no_memory NoMemory = true
is_no_memory (Refused e) = false
is_no_memory WrongIndex = false
is_no_memory (Cut reason) = false

-- how a push with these parts ends at an end mark with this index, and what it leaves of the repository
abbrev pub EndsAs : {A R D E : Type 0} → Running A R D E → R → List (Part A) → ℕ → Result D (Reason E) → R →
    Type 0
EndsAs run old ps index (Ok done) new = (index ≡ length ps) × (run old ps ≡ Ok (new, done))
EndsAs run old ps index (Err NoMemory) new = (index ≡ length ps) × (new ≡ old)
EndsAs run old ps index (Err (Refused e)) new = (index ≡ length ps) × (run old ps ≡ Err e) × (new ≡ old)
EndsAs run old ps index (Err WrongIndex) new = (index ≢ length ps) × (new ≡ old)
EndsAs run old ps index (Err (Cut reason)) new = ⊥

-- What a place does to its row, which is open with these parts, and to the state.
pub record StepsWith {A R D E : Type 0} (run : Running A R D E) (old : Serial R) (row : Row D E A)
    (ps : List (Part A)) (x : Taken A) (new : Serial R) (row' : Row D E A) : Type 0 where
  pub may : x.refused ≡ true → takes_memory (length ps) x.item.index x.item.what ≡ true
  pub state : new ≡ kept old row.push (decided run old.repo ps x)
  pub told : TellsState (parts_after ps x) (told (decided run old.repo ps x)) row'.state

-- The same, whatever parts the staged list stands for.
pub record StepsRow {A R D E : Type 0} (run : Running A R D E) (old : Serial R) (row : Row D E A)
    (x : Taken A) (new : Serial R) (row' : Row D E A) : Type 0 where
  pub push : row'.push ≡ row.push
  pub steps : (ps : List (Part A)) → Stages (staged_in row.state) ps → StepsWith run old row ps x new row'

-- where the push stands, by its row
abbrev pub standing_in : {A D E : Type 0} → State D E A → Standing
standing_in (Open staged) = is_open_now
standing_in (Closed outcome) = standing_of (Some outcome)

-- the first row of p is at this place, and is closed
abbrev pub IsClosedAt : {A D E : Type 0} → ℕ → List (Row D E A) → ℕ → Type 0
IsClosedAt {A} {D} {E} p rows i = (position (λ r. r.push == p) rows ≡ Some i)
    × ((r : Row D E A) → r ≡ slice_index_or rows i r → is_open r.state ≡ false)

-- each number is below those after it
abbrev pub AreAscending : List ℕ → Type 0
AreAscending [] = Unit {0}
AreAscending (p ∷ ps) = AllByRecursion (λ q. p < q) ps × AreAscending ps

-- the rows stand in the order of their numbers
abbrev pub AreInOrder : {A D E : Type 0} → List (Row D E A) → Type 0
AreInOrder rows = AreAscending (map (λ r. r.push) rows)
