-- A store that is followed while another process holds it, and is then taken over.
use Rattle.std.specs.Prelude.{ℕ, ◌≡◌, ◌+◌, ◌<◌, ◌≤◌, List, [], ◌∷◌, ◌++◌, length, take}
use Rattle.std.specs.List.{AllByRecursion}
use Rattle.hg_store.specs.Again.{IsAmong}
use Rattle.hg_store.specs.Calls.{Event, looked, was_held}
use Rattle.hg_store.specs.Entries.{Entry}
use Rattle.hg_store.specs.Files.{digest_behind, stored}
use Rattle.hg_store.specs.Records.{AreNumbers, numbers_bytes, open_gate}
use Rattle.hg_store.specs.declared.head.Head.{Head}
use Rattle.hg_store.specs.declared.head.Version.TheVariants.{Second}
use Rattle.hg_store.specs.declared.host.Hold.{Hold}
use Rattle.hg_store.specs.declared.host.Hold.TheVariants.{Held}
use Rattle.hg_store.specs.declared.numbers.Numbers.{Numbers}

-- A file was asked for: it is held by the last call, or nothing was done.
abbrev pub IsAskedFor : Hold → List Event → List Event → Type 0
IsAskedFor Held before now = now ≡ was_held ∷ before
IsAskedFor other before now = now ≡ before

-- the call changed nothing: a file was looked at
abbrev pub IsLook : Event → Type 0
IsLook call = (at : ℕ) × (bytes : List ℕ) × (call ≡ looked at bytes)

-- More calls looked at a file.
pub record LooksOnly (before now : List Event) : Type 0 where
  pub made : List Event
  pub calls : now ≡ made ++ before
  pub each : AllByRecursion IsLook made

-- Each of the last gates of a store was looked at, as many as a batch has at most, and was open.
pub record AreOpen (head : Head) (records : List Entry) (before now : List Event) : Type 0 where
  pub made : List Event
  pub calls : now ≡ made ++ before
  pub each : (k : ℕ) → k < length records → length records ≤ k + 64
      → IsAmong (looked (length (stored head (take k records))) (255 ∷ [])) made

-- The bytes begin with an open gate, and the numbers and the name of a record, and then they have this digest.
pub record HasHeading (digest bytes : List ℕ) : Type 0 where
  pub numbers : Numbers
  pub name : List ℕ
  pub behind : List ℕ
  pub are : AreNumbers Second numbers
  pub named : length name ≡ numbers.named
  pub spelled : bytes ≡ open_gate Second ∷ (numbers_bytes Second numbers ++ (name ++ (digest ++ behind)))

-- The records of a store stand in its file still: its last gates were looked at, and then the last record, at its place.
-- It had its digest, which takes in all records before it.
pub record StandsStill (head : Head) (records : List Entry) (before now : List Event) : Type 0 where
  pub at : ℕ
  pub bytes : List ℕ
  pub mid : List Event
  pub opened : AreOpen head records before mid
  pub last : now ≡ looked at bytes ∷ mid
  pub place : (k : ℕ) → k + 1 ≡ length records → at ≡ length (stored head (take k records))
  pub has : HasHeading (digest_behind head records) bytes
