-- What is done in the folder of a store besides the calls on its open file.
use Rattle.std.specs.Prelude.{◌≡◌, ◌⊎◌, List, ◌∷◌}
use Rattle.hg_store.specs.declared.start.StoreFault.{StoreFault}
use Rattle.hg_store.specs.declared.start.StoreFault.TheVariants.{Missing}
use Rattle.hg_store.specs.Calls.{Event, missed, renewed}
use Rattle.hg_store.specs.Tails.{IsKeptAtMost}

-- A store was looked for, and nothing was done: where there was none that is noted.
abbrev pub IsMissedFor : StoreFault → List Event → List Event → Type 0
IsMissedFor Missing before now = now ≡ missed ∷ before
IsMissedFor other before now = now ≡ before

-- a file was made that may take the place of a store, or nothing was done
abbrev pub IsMadeAtMost : List Event → List Event → Type 0
IsMadeAtMost before now = (now ≡ before) ⊎ (now ≡ renewed ∷ before)

-- a store was looked for, and there was none, or its tail was kept at most
abbrev pub IsMissedAtMost : List Event → List Event → Type 0
IsMissedAtMost before now = IsKeptAtMost before now ⊎ (now ≡ missed ∷ before)

-- Nothing took the place of a store that was there: where a file was made that may take it, it was looked for
-- just before, and there was none.
abbrev pub IsMadeWhereNone : List Event → List Event → Type 0
IsMadeWhereNone before now = IsKeptAtMost before now
    ⊎ ((made : List Event) × IsMadeAtMost (missed ∷ before) made × IsMissedAtMost made now)
