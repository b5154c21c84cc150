-- A log on a device.
use Rattle.std.specs.Prelude.{ℕ, ◌≡◌, ◌⊎◌, List, [], ◌∷◌, ◌++◌, length}
use Rattle.std.specs.List.{AllByRecursion}
use Rattle.hg_store.specs.Device.{Only}
use Rattle.hg_store.specs.Entries.{Entry}
use Rattle.hg_store.specs.Head.{IsHead, version_of}
use Rattle.hg_store.specs.Files.{StandsFor, digest_behind, stored}
use Rattle.hg_store.specs.Records.{IsRecord}
use Rattle.hg_store.specs.declared.head.Head.{Head}
use Rattle.hg_store.specs.declared.head.Version.TheVariants.{Second}
use Rattle.hg_store.specs.declared.log.Log.{Log}

-- a store of these records, after which a shut gate stands
abbrev pub at_rest : Head → List Entry → List ℕ
at_rest head records = stored head records ++ 0 ∷ []

-- the file stands for these records, or for these and all of the others after them
abbrev pub IsBeforeOrAfter : Head → List Entry → List Entry → List ℕ → Type 0
IsBeforeOrAfter head records more file =
    StandsFor head records file ⊎ StandsFor head (records ++ more) file

-- The file is of version 2 and has this head, these records and a shut gate, all of it on the device. The gate
-- stands there, and the next record would stand after that digest.
pub record IsSettledAt {D : Type 0} (seen : D → List ℕ) (may_leave : D → List ℕ → Type 0) (head : Head)
    (records : List Entry) (device : D) (end : ℕ) (digest : List ℕ) : Type 0 where
  pub allowed : IsHead head
  pub version : version_of head ≡ Second
  pub each : AllByRecursion (IsRecord (version_of head)) records
  pub file : seen device ≡ at_rest head records
  pub place : end ≡ length (stored head records)
  pub chained : digest ≡ digest_behind head records
  pub durable : Only (seen device) (may_leave device)

-- the same of a log, which knows the place of the gate and the digest
abbrev pub IsSettled : {D : Type 0} → (D → List ℕ) → (D → List ℕ → Type 0) → Head → List Entry → Log D → Type 0
IsSettled seen may_leave head records log =
    IsSettledAt seen may_leave head records log.device log.end log.digest
