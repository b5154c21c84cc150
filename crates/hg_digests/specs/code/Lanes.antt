-- Four messages side by side: each word is a vector, with one lane for each message.
use Rattle.std.specs.Prelude.{ℕ, List, ◌<◌, map, [], slice_index, slice_index_or}
use Rattle.sha1.specs.Sha1.{IsRoundsAt}

-- lane j of vector k
abbrev pub lane_at : List (List ℕ) → ℕ → ℕ → ℕ
lane_at vectors k j = slice_index (slice_index_or vectors k []) j

-- lane j of each vector
abbrev pub lane : ℕ → List (List ℕ) → List ℕ
lane j vectors = map (λ vector. slice_index vector j) vectors

-- list j, one for each message
abbrev pub own : List (List ℕ) → ℕ → List ℕ
own lists j = slice_index_or lists j []

-- in each lane, after t rounds of its block from its hash value, the window is w and the working variables are v
abbrev pub AreRoundsAt : List (List ℕ) → List (List ℕ) → List (List ℕ) → List (List ℕ) → ℕ → Type 0
AreRoundsAt blocks hashes w v t =
    (j : ℕ) → j < 4 → IsRoundsAt (own blocks j) (own hashes j) (lane j w) (lane j v) t
