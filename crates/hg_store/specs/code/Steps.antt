-- What a crash may leave while a call is made.
use Rattle.std.specs.Prelude.{ℕ, ◌⊎◌, List}
use Rattle.hg_store.specs.Device.{Cut, Torn}

-- what a crash may leave that came before a write of these bytes, or while it was made
abbrev pub MayBeTorn : ℕ → List ℕ → (List ℕ → Type 0) → List ℕ → Type 0
MayBeTorn at bytes old c = old c ⊎ ((d : List ℕ) × old d × Torn at bytes d c)

-- what a crash may leave that came before a cut to a length, or while it was made
abbrev pub MayBeCut : ℕ → (List ℕ → Type 0) → List ℕ → Type 0
MayBeCut len old c = old c ⊎ ((d : List ℕ) × old d × Cut len d c)
