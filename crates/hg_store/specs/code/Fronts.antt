-- What stays at the front of a file while more is written after it.
use Rattle.std.specs.Prelude.{ℕ, ◌≡◌, List, length, take}
use Rattle.hg_store.specs.Device.{LeavesOnly}

-- the bytes begin with these
abbrev pub Begins : List ℕ → List ℕ → Type 0
Begins front bytes = take (length front) bytes ≡ front

-- whatever a crash leaves begins with these
abbrev pub Begin : List ℕ → (List ℕ → Type 0) → Type 0
Begin front outcomes = (c : List ℕ) → outcomes c → Begins front c

-- What a crash leaves begins with these bytes, now and at each moment since old.
pub record KeepsFront {D : Type 0} (moment : D → ℕ) (left_since : D → ℕ → List ℕ → Type 0)
    (may_leave : D → List ℕ → Type 0) (front : List ℕ) (old new : D) : Type 0 where
  pub outcomes : Begin front (may_leave new)
  pub any_moment : LeavesOnly moment left_since old new (Begins front)
