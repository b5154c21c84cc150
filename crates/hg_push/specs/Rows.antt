-- The rows of a book.
use Rattle.std.specs.Prelude.{ℕ, Bool, true, false, ◌≡◌, ◌==◌, List, find}
use Rattle.std.specs.Prelude.{filter, not, Option, None, Some}
use Rattle.std.specs.Prelude.{IsSome}
use Rattle.hg_types.specs.declared.part.Part.{Part}
use Rattle.hg_parts.specs.declared.prepared.Prepared.{Prepared}
use Rattle.hg_parts.specs.Prepared.{AreMadeOf}
use Rattle.hg_push.specs.declared.outcome.Outcome.{Outcome}
use Rattle.hg_push.specs.declared.outcome.Outcome.TheVariants.{Done as done_as, Aborted as aborted_as}
use Rattle.hg_push.specs.declared.outcome.Standing.{Standing}
use Rattle.hg_push.specs.declared.outcome.Standing.TheVariants.{Open as is_open_now, Done as is_done_now}
use Rattle.hg_push.specs.declared.outcome.Standing.TheVariants.{Aborted as is_aborted_now}
use Rattle.hg_push.specs.declared.row.State.{State}
use Rattle.hg_push.specs.declared.row.State.TheVariants.{Open, Closed}
use Rattle.hg_push.specs.declared.row.Row.{Row}

-- the row of p
abbrev pub row_of : {A D E : Type 0} → ℕ → List (Row D E A) → Option (Row D E A)
row_of p rows = find (λ r. r.push == p) rows

-- the push is open
abbrev pub is_open : {A D E : Type 0} → State D E A → Bool
is_open (Open staged) = true
is_open (Closed outcome) = false

-- p has no row, or a closed one
abbrev pub IsShut : {A D E : Type 0} → ℕ → List (Row D E A) → Type 0
IsShut {A} {D} {E} p rows = (r : Row D E A) → row_of p rows ≡ Some r → is_open r.state ≡ false

-- the list that is staged of a push stands for these parts: each may have been made of the one in its place
abbrev pub Stages : {A : Type 0} → List (Prepared A) → List (Part A) → Type 0
Stages staged parts = AreMadeOf parts staged

-- what is kept of a push has its parts while it is open, and how it ended
abbrev pub TellsState : {A D E : Type 0} → List (Part A) → Option (Outcome D E) → State D E A → Type 0
TellsState ps how (Open staged) = (how ≡ None) × Stages staged ps
TellsState ps how (Closed outcome) = how ≡ Some outcome

-- a push without a row has ended
abbrev pub RowTells : {A D E : Type 0} → List (Part A) → Option (Outcome D E) → Option (Row D E A) → Type 0
RowTells ps how None = IsSome how
RowTells ps how (Some row) = TellsState ps how row.state

-- the standing of an opened push that ended so, or not yet
abbrev pub standing_of : {D E : Type 0} → Option (Outcome D E) → Standing
standing_of None = is_open_now
standing_of (Some (done_as done)) = is_done_now
standing_of (Some (aborted_as reason)) = is_aborted_now

-- how the push ended, by its row
abbrev pub ending_in : {A D E : Type 0} → State D E A → Option (Outcome D E)
ending_in (Open staged) = None
ending_in (Closed outcome) = Some outcome

-- the reply that waits in a push's row, where it has one: that of a closed push
abbrev pub reply_in : {A D E : Type 0} → Option (Row D E A) → Option (Outcome D E)
reply_in None = None
reply_in (Some row) = ending_in row.state

-- the rows without that of p
abbrev pub rows_without : {A D E : Type 0} → ℕ → List (Row D E A) → List (Row D E A)
rows_without p rows = filter (λ r. not (r.push == p)) rows
