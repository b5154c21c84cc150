-- What became of a push in a history. The queue and a client show a history with the oldest place first, the
-- book with the newest first.
use Rattle.std.specs.Prelude.{◌≡◌, ℕ, List, [], ◌∷◌, ◌++◌, reverse, Option, None}
use Rattle.hg_parts.specs.declared.item.Taken.{Taken}
use Rattle.hg_repo.specs.declared.done.Done.{Done}
use Rattle.hg_parts.specs.declared.refusal.Refusal.{Refusal}
use Rattle.hg_push.specs.declared.outcome.Outcome.{Outcome}
use Rattle.hg_push.specs.History.{History, Serial, serial, outcome}
use Rattle.hg_push.specs.Run.{RepositoryOf, run_push}

module _ {A : Type 0} where
  -- the same history as the book shows it
  abbrev pub newest_first : List (Taken A) → History A
  newest_first h = reverse h

  -- how the push ended, or None while it is unfinished
  abbrev pub ending : RepositoryOf A → ℕ → List (Taken A) → Option (Outcome (Done A) (Refusal A))
  ending first p h = outcome run_push first p (newest_first h)

  -- the repository and the journal that the done pushes give, run one by one from the first repository
  abbrev pub serial_run : RepositoryOf A → List (Taken A) → Serial (RepositoryOf A)
  serial_run first h = serial run_push first (newest_first h)

  -- before its last place the push was unfinished
  abbrev pub ClosesLast : RepositoryOf A → ℕ → List (Taken A) → Type 0
  ClosesLast first p h = (front : List (Taken A)) × (last : Taken A) × (h ≡ front ++ last ∷ [])
      × (ending first p front ≡ None)
