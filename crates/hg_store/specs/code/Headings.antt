-- What stands in a record of version 2 before its bundle.
use Rattle.std.specs.Prelude.{ℕ, ◌≡◌, ◌+◌, ◌<◌, ◌≤◌, List, ◌∷◌, ◌++◌, length}
use Rattle.hg_store.specs.declared.head.Version.TheVariants.{Second}
use Rattle.hg_store.specs.declared.numbers.Numbers.{Numbers}
use Rattle.hg_store.specs.Entries.{Entry}
use Rattle.hg_store.specs.Records.{AreNumbers, numbers_bytes, open_gate}

-- an open gate, the numbers, the name and the digest that is told
abbrev pub heading_bytes : Numbers → List ℕ → List ℕ → List ℕ
heading_bytes numbers name told = open_gate Second ∷ (numbers_bytes Second numbers ++ (name ++ told))

-- the record with that heading and that bundle
abbrev pub entry_with : Numbers → List ℕ → List ℕ → Entry
entry_with numbers name bundle = record { stamp = record { time = numbers.time; name = name }; bundle = bundle }

-- Bytes are the heading of a record, with a digest of as many bytes, at least.
pub record IsHeading (numbers : Numbers) (name told bytes : List ℕ) : Type 0 where
  pub are : AreNumbers Second numbers
  pub spelled : bytes ≡ heading_bytes numbers name told
  pub named : length name ≡ numbers.named
  pub enough : 20 ≤ length told

-- They can be those of a record, with a digest of 20 bytes.
pub record IsLabel (numbers : Numbers) (name told : List ℕ) : Type 0 where
  pub are : AreNumbers Second numbers
  pub named : length name ≡ numbers.named
  pub digest : length told ≡ 20

-- Bytes begin with an open gate, and end before the digest that is told does.
pub data IsCutHeading (bytes : List ℕ) : Type 0 where
  in_numbers : (part : List ℕ) → bytes ≡ open_gate Second ∷ part → length part < 13 → IsCutHeading bytes
  behind_numbers : (numbers : Numbers) (part : List ℕ) → AreNumbers Second numbers →
      bytes ≡ open_gate Second ∷ (numbers_bytes Second numbers ++ part) → length part < numbers.named + 20 →
      IsCutHeading bytes
