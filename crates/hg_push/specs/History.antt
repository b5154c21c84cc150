-- The history of a book: what was taken from the queue, and what became of each push.
-- The definitions know nothing of a repository but its value and the function that runs a push on it.
use Rattle.std.specs.Prelude.{ℕ, Bool, true, false, ◌≡◌, ◌==◌, ◌&&◌, ◌||◌, not, List, [], ◌∷◌, ◌++◌, length}
use Rattle.std.specs.Prelude.{Option, None, Some, Result, Ok, Err, if◌then◌else◌}
use Rattle.hg_types.specs.declared.part.Part.{Part}
use Rattle.hg_parts.specs.declared.item.What.{What}
use Rattle.hg_parts.specs.declared.item.What.TheVariants.{Part as a_part, End, Cut}
use Rattle.hg_parts.specs.declared.item.Item.{Item}
use Rattle.hg_parts.specs.declared.item.Taken.{Taken}
use Rattle.hg_push.specs.declared.outcome.Reason.{Reason}
use Rattle.hg_push.specs.declared.outcome.Reason.TheVariants.{Refused, Cut as cut, WrongIndex, NoMemory}
use Rattle.hg_push.specs.declared.outcome.Outcome.{Outcome}
use Rattle.hg_push.specs.declared.outcome.Outcome.TheVariants.{Done, Aborted}

-- The places in the order in which they were taken, the newest first.
abbrev pub History : Type 0 → Type 0
History A = List (Taken A)

-- How a repository's value and a push's parts give a new value and an answer, or a refusal.
abbrev pub Running : Type 0 → Type 0 → Type 0 → Type 0 → Type 0
Running A R D E = R → List (Part A) → Result (R × D) E

-- the item is of that push
abbrev pub is_of : {A : Type 0} → ℕ → Taken A → Bool
is_of p x = x.item.push == p

-- an end mark or a cut, and no part
abbrev pub is_mark : {A : Type 0} → What A → Bool
is_mark (a_part part) = false
is_mark End = true
is_mark (Cut reason) = true

-- It closes its push, where that is open.
abbrev pub closes : {A : Type 0} → Taken A → Bool
closes x = x.refused || is_mark x.item.what

-- Closing: p has a place that holds an end mark or a cut, or at which memory was refused.
abbrev pub is_closed : {A : Type 0} → ℕ → History A → Bool
is_closed p [] = false
is_closed p (x ∷ before) = is_closed p before || (is_of p x && closes x)

-- The place x, after those before it, closed p: it is of p, which was open, and it closes it.
pub record IsClosing {A : Type 0} (p : ℕ) (x : Taken A) (before : History A) : Type 0 where
  pub mine : x.item.push ≡ p
  pub shuts : closes x ≡ true
  pub was_open : is_closed p before ≡ false

-- the part, where the item is one
abbrev pub part_in : {A : Type 0} → What A → List (Part A)
part_in (a_part part) = part ∷ []
part_in End = []
part_in (Cut reason) = []

-- the parts of a push after one more place of it, where it was open with these
abbrev pub parts_after : {A : Type 0} → List (Part A) → Taken A → List (Part A)
parts_after ps x = if x.refused then ps else ps ++ part_in x.item.what

-- Parts: the parts of p before the place that closed it, or all where there is none.
abbrev pub parts : {A : Type 0} → ℕ → History A → List (Part A)
parts p [] = []
parts p (x ∷ before) = if is_of p x && not (is_closed p before) then parts_after (parts p before) x
    else parts p before

-- a refusal of a run, as the reason of an aborted push
abbrev pub refused_as : {D E : Type 0} → Result D E → Result D (Reason E)
refused_as (Ok done) = Ok done
refused_as (Err e) = Err (Refused e)

-- what the mark of a push decides, with these parts before it
abbrev pub decided_by : {A R D E : Type 0} → Running A R D E → R → List (Part A) → ℕ → What A →
    Option (Result (R × D) (Reason E))
decided_by run repo ps index (a_part part) = None
decided_by run repo ps index (Cut reason) = Some (Err (cut reason))
decided_by run repo ps index End = Some (if index == length ps then refused_as (run repo ps)
    else Err WrongIndex)

-- What a place decides of its push, which was open with these parts: nothing yet, the run's repository and
-- answer, or why the push is aborted.
abbrev pub decided : {A R D E : Type 0} → Running A R D E → R → List (Part A) → Taken A →
    Option (Result (R × D) (Reason E))
decided run repo ps x = if x.refused then Some (Err NoMemory)
    else decided_by run repo ps x.item.index x.item.what

-- A repository and the numbers of the done pushes, in order.
pub record Serial (R : Type 0) : Type 0 where
  pub repo : R
  pub journal : List ℕ

-- the serial run with one push more, where it is done
abbrev pub kept : {R D E : Type 0} → Serial R → ℕ → Option (Result (R × D) E) → Serial R
kept s p None = s
kept s p (Some (Err reason)) = s
kept s p (Some (Ok done)) = record { repo = done.0; journal = s.journal ++ p ∷ [] }

-- the serial run after one item more
abbrev pub after : {A R D E : Type 0} → Running A R D E → History A → Taken A → Serial R → Serial R
after run before x s =
    if is_closed x.item.push before then s
    else kept s x.item.push (decided run s.repo (parts x.item.push before) x)

-- Serial: the done pushes, run one by one in the order of their closing places. Everything else changes
-- nothing.
abbrev pub serial : {A R D E : Type 0} → Running A R D E → R → History A → Serial R
serial run first [] = record { repo = first; journal = [] }
serial run first (x ∷ before) = after run before x (serial run first before)

-- how the push ended, if it did
abbrev pub told : {R D E : Type 0} → Option (Result (R × D) (Reason E)) → Option (Outcome D E)
told None = None
told (Some (Ok done)) = Some (Done done.1)
told (Some (Err reason)) = Some (Aborted reason)

-- Outcome: how p ended, or None while it is unfinished.
abbrev pub outcome : {A R D E : Type 0} → Running A R D E → R → ℕ → History A → Option (Outcome D E)
outcome run first p [] = None
outcome run first p (x ∷ before) =
    if is_of p x && not (is_closed p before)
    then told (decided run (serial run first before).repo (parts p before) x)
    else outcome run first p before

-- Memory can be refused for an item only where it takes some: its push is not closed, and it is a part, or an
-- end mark whose index is the number of the push's parts.
abbrev pub takes_memory : {A : Type 0} → ℕ → ℕ → What A → Bool
takes_memory count index (a_part part) = true
takes_memory count index End = index == count
takes_memory count index (Cut reason) = false

-- memory can be refused for this item: its push is not closed, and it is a part or the end mark of its
-- place
abbrev pub may_refuse : {A : Type 0} → History A → Item A → Bool
may_refuse before item = not (is_closed item.push before)
    && takes_memory (length (parts item.push before)) item.index item.what

-- Each refusal is at a place where it can be.
abbrev pub IsHistory : {A : Type 0} → History A → Type 0
IsHistory [] = Unit {0}
IsHistory (x ∷ before) = (x.refused ≡ true → may_refuse before x.item ≡ true) × IsHistory before
