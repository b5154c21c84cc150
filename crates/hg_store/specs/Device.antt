-- What the calls of a device do to its file, and what a crash may do between two syncs.
use Rattle.std.specs.Prelude.{◌<◌, ◌≡◌, ◌⊎◌, ℕ, ◌+◌, ◌≤◌, max, List, ◌++◌, length, take, drop, Result, IsErrOf}
use Rattle.hg_store.specs.declared.device.DeviceError.{DeviceError}
use Rattle.hg_store.specs.declared.device.DeviceError.TheVariants.{Failed, Full}

-- new is old with these bytes at this offset
abbrev pub Overwrites : List ℕ → ℕ → List ℕ → List ℕ → Type 0
Overwrites old at bytes new = new ≡ take at old ++ bytes ++ drop (at + length bytes) old

-- After a write of these bytes that a crash cuts short: any bytes in the range and past the old end, the
-- same elsewhere. A write of one byte is not cut short: it is made, or it is not.
pub record Torn (at : ℕ) (bytes old new : List ℕ) : Type 0 where
  pub before : take at new ≡ take at old
  pub after : drop (at + length bytes) new ≡ drop (at + length bytes) old
  pub no_shorter : length old ≤ length new
  pub no_longer : length new ≤ max (length old) (at + length bytes)
  pub one_byte : length bytes ≡ 1 → (new ≡ old) ⊎ Overwrites old at bytes new

-- after a cut: some length between
pub record Cut (n : ℕ) (old new : List ℕ) : Type 0 where
  pub no_shorter : (n ≤ length new) ⊎ (new ≡ old)
  pub front : take (length new) old ≡ new

-- each new outcome of a crash is an old outcome after a step
abbrev pub CrashesFollow : (List ℕ → List ℕ → Type 0) → (List ℕ → Type 0) → (List ℕ → Type 0) → Type 0
CrashesFollow step old new = (c : List ℕ) → new c → (d : List ℕ) × old d × step d c

-- a crash leaves this and nothing else
abbrev pub Only : List ℕ → (List ℕ → Type 0) → Type 0
Only file outcomes = (c : List ℕ) → outcomes c → c ≡ file

-- Time goes on: a crash since t might have left what it might have left before, or what it may leave now.
pub record Elapses (before now : ℕ) (past since : ℕ → List ℕ → Type 0)
    (may_leave : List ℕ → Type 0) : Type 0 where
  pub later : before ≤ now
  pub nothing_else : (t : ℕ) (c : List ℕ) → t ≤ before → since t c → past t c ⊎ may_leave c
  pub keeps : (t : ℕ) (c : List ℕ) → t ≤ before → past t c → since t c

-- A crash at any moment since old leaves a file that has P.
pub record LeavesOnly {D : Type 0} (moment : D → ℕ) (left_since : D → ℕ → List ℕ → Type 0) (old new : D)
    (P : List ℕ → Type 0) : Type 0 where
  pub later : moment old ≤ moment new
  pub each : (c : List ℕ) → left_since new (moment old) c → P c
  -- for a run that began earlier
  pub before : (t : ℕ) (c : List ℕ) → t ≤ moment old → left_since new t c → left_since old t c ⊎ P c

-- a read returns the same, and a crash leaves nothing else than before
pub record IsUnchanged {D : Type 0} (seen : D → List ℕ) (may_leave : D → List ℕ → Type 0) (old new : D) : Type 0
  where
    pub same : seen new ≡ seen old
    pub outcomes : (c : List ℕ) → may_leave new c → may_leave old c

-- `Failed` is reported only where the disk has failed since, and `Full` is not reported
pub record HasCause {T : Type 0} (before now : ℕ) (result : Result T DeviceError) : Type 0 where
  pub later : before ≤ now
  pub failed : IsErrOf result Failed → before < now
  pub not_full : IsErrOf result Full → ⊥
