-- Gates that are written once more.
use Rattle.std.specs.Prelude.{ℕ, ◌≡◌, ◌⊎◌, ◌+◌, ◌<◌, ◌≤◌, true, List, [], ◌∷◌, ◌++◌, length, slice_index_or, take}
use Rattle.hg_store.specs.Calls.{Continue, Event, LeftSince, MayLeave, began, state_of, synced, wrote}
use Rattle.hg_store.specs.Device.{Only}
use Rattle.hg_store.specs.Entries.{Entry}
use Rattle.hg_store.specs.Files.{stored}
use Rattle.hg_store.specs.declared.head.Head.{Head}

-- More calls left a file as it was, at each moment: all of it is on the disk.
pub record IsStill (before now : List Event) : Type 0 where
  pub more : Continue before now
  pub same : (state_of now).seen ≡ (state_of before).seen
  pub durable : Only (state_of before).seen (MayLeave (state_of now))
  pub any_moment : (t : ℕ) (left : List ℕ) → t ≤ length before → LeftSince now t left
      → LeftSince before t left ⊎ (left ≡ (state_of before).seen)

-- the call is one of these
abbrev pub IsAmong : Event → List Event → Type 0
IsAmong call [] = ⊥
IsAmong call (first ∷ others) = (call ≡ first) ⊎ IsAmong call others

-- The open gates of the last records of a store, as many as a batch has at most, were written once more, and then the
-- file was synced, by the calls after those before.
pub record AreOpenedAgain (head : Head) (records : List Entry) (before now : List Event) : Type 0 where
  pub made : List Event
  pub calls : now ≡ synced true ∷ (made ++ before)
  pub each : (k : ℕ) → k < length records → length records ≤ k + 64
      → IsAmong (wrote (length (stored head (take k records))) (255 ∷ []) true) made

-- The gates of the last of some records stand at these places, one after the other: those of all but so many, as many
-- as a batch has at most.
pub record HasGates (head : Head) (records : List Entry) (places : List ℕ) : Type 0 where
  pub skipped : ℕ
  pub all : skipped + length places ≡ length records
  pub enough : (skipped ≡ 0) ⊎ (64 ≤ length places)
  pub each : (k place : ℕ) → k < length places → place ≡ slice_index_or places k place
      → place ≡ length (stored head (take (skipped + k) records))

-- The same of a file that was read just before.
pub record AreOpenedAfter (head : Head) (records : List Entry) (before now : List Event) : Type 0 where
  pub bytes : List ℕ
  pub earlier : List Event
  pub read_first : Continue (began bytes ∷ before) earlier
  pub again : AreOpenedAgain head records earlier now
