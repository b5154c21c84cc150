-- How the code keeps which changesets are not obsolete: a number for each, whose lowest bit says it.
use Rattle.std.specs.Prelude.{◌≡◌, ◌⊎◌, ℕ, ◌<◌, List, length, slice_index, All, Contains}
use Rattle.std.specs.Int.{bit_at}

-- those whose bit is 0 are listed
pub record AreListedZeros (sets revs : List ℕ) : Type 0 where
  pub within : All (λ r. r < length sets) revs
  pub each : (r : ℕ) → r < length sets → bit_at (slice_index sets r) 0 ≡ 0 → Contains revs r

-- these have that number now, and the others their own
pub record AreSaid (set : ℕ) (revs old new : List ℕ) : Type 0 where
  pub as_long : length new ≡ length old
  pub listed : (r : ℕ) → Contains revs r → slice_index new r ≡ set
  pub others : (r : ℕ) → (slice_index new r ≡ slice_index old r) ⊎ Contains revs r

-- that one is listed too, where its bit is 0, and no other
pub record IsListedZero (sets : List ℕ) (rev : ℕ) (old new : List ℕ) : Type 0 where
  pub within : All (λ r. r < length sets) old → All (λ r. r < length sets) new
  pub stays : (r : ℕ) → Contains old r → Contains new r
  pub listed : bit_at (slice_index sets rev) 0 ≡ 0 → Contains new rev
