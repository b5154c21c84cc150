-- The place of a push in the journal, and how many done pushes an answer rests on.
use Rattle.std.specs.Prelude.{ℕ, false, ◌≡◌, ◌+◌, List, ◌∷◌, ◌++◌, length, Option, None, Some}
use Rattle.hg_push.specs.declared.outcome.Outcome.{Outcome}
use Rattle.hg_push.specs.declared.outcome.Outcome.TheVariants.{Done, Aborted}
use Rattle.hg_push.specs.History.{History, Running, outcome, serial}
use Rattle.hg_push.specs.Changed.{is_done}

-- The push is in the journal, and so many pushes were done before it.
pub record IsPlace {A R D E : Type 0} (run : Running A R D E) (first : R) (h : History A)
    (p place : ℕ) : Type 0 where
  pub front : List ℕ
  pub back : List ℕ
  pub spelled : (serial run first h).journal ≡ front ++ p ∷ back
  pub count : length front ≡ place

-- How many done pushes, the first of the journal, the answer to a push rests on: where it is done, those up
-- to it and with it; where it is aborted, all that are done.
abbrev pub RestsOn : {A R D E : Type 0} → Running A R D E → R → History A → ℕ → Outcome D E → ℕ → Type 0
RestsOn run first h p (Done done) rests = (place : ℕ) × IsPlace run first h p place × (rests ≡ place + 1)
RestsOn run first h p (Aborted reason) rests = rests ≡ length (serial run first h).journal

-- the place of a push, and none where it is not done
abbrev pub TellsPlace : {A R D E : Type 0} → Running A R D E → R → History A → ℕ → Option ℕ → Type 0
TellsPlace run first h p None = is_done (outcome run first p h) ≡ false
TellsPlace run first h p (Some place) = IsPlace run first h p place
