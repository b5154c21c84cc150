-- A batch while it is written, and where the records end that it comes after.
use Rattle.std.specs.Prelude.{ℕ, ◌≡◌, List, [], ◌∷◌, ◌++◌, length, drop}
use Rattle.hg_store.specs.Again.{HasGates}
use Rattle.hg_store.specs.Files.{StandsFor, stored}
use Rattle.hg_store.specs.Head.{version_of}
use Rattle.hg_store.specs.Entries.{Entry}
use Rattle.hg_store.specs.Records.{frames}
use Rattle.hg_store.specs.declared.head.Head.{Head}
use Rattle.hg_store.specs.declared.head.Version.{Version}
use Rattle.hg_store.specs.declared.head.Version.TheVariants.{Second}

-- a batch but the gate of its first record, and a shut gate after it
abbrev pub ungated : Version → List ℕ → List Entry → List ℕ
ungated version before batch = drop 1 (frames version before batch) ++ 0 ∷ []

-- the file stands for these records, and the last of them ends there
pub record EndsAt (head : Head) (records : List Entry) (end : ℕ) (file : List ℕ) : Type 0 where
  pub stands : StandsFor head records file
  pub place : end ≡ length (stored head records)

-- the same of a file of version 2, of which it is known where the gates of the last records stand
pub record IsWhole (head : Head) (records : List Entry) (end : ℕ) (gates file : List ℕ) : Type 0 where
  pub version : version_of head ≡ Second
  pub ends : EndsAt head records end file
  pub kept : HasGates head records gates
