-- Sets of numbers below 512, each a bit of one of eight words.
use Rattle.std.specs.Prelude.{◌≡◌, ℕ, ◌/◌, ◌%◌, List, [], map, slice_index, slice_index_or}
use Rattle.std.specs.Int.{bit_at}
use Rattle.hg_wireproto.specs.declared.set.NumberSet.{NumberSet}

abbrev pub HasNumber : List ℕ → ℕ → Type 0
HasNumber words k = bit_at (slice_index words (k / 64)) (k % 64) ≡ 1

-- the set of that place has the number
abbrev pub IsAt : List NumberSet → ℕ → ℕ → Type 0
IsAt sets i k = HasNumber (slice_index_or (map (λ s. s.words) sets) i []) k

-- no set has a number
abbrev pub AreEmpty : List NumberSet → Type 0
AreEmpty sets = (i k : ℕ) → ¬ (IsAt sets i k)
