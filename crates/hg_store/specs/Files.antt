-- What the bytes of a whole store stand for.
use Rattle.std.specs.Prelude.{ℕ, ◌≡◌, ◌+◌, ◌<◌, ◌≤◌, ◌⊎◌, List, ◌++◌, length, take, ⊤}
use Rattle.std.specs.List.{AllByRecursion}
use Rattle.hg_store.specs.declared.head.Head.{Head}
use Rattle.hg_store.specs.declared.head.Version.TheVariants.{First}
use Rattle.hg_store.specs.declared.read.ReadFault.{ReadFault}
use Rattle.hg_store.specs.declared.read.ReadFault.TheVariants.{Head as HasNoHead, Damaged, NoMemory}
use Rattle.hg_store.specs.Entries.{Entry}
use Rattle.hg_store.specs.Head.{BeginsWithHead, IsRefusedFor, first_digest, head_bytes, version_of}
use Rattle.hg_store.specs.Records.{IsDamaged, IsEnd, IsRecord, IsTorn, ReadsRecords, frames, last_digest}

-- a head, and records after it
abbrev pub stored : Head → List Entry → List ℕ
stored head records = head_bytes head ++ frames (version_of head) (first_digest head) records

-- the digest after which the next record would stand
abbrev pub digest_behind : Head → List Entry → List ℕ
digest_behind head records = last_digest (version_of head) (first_digest head) records

-- The file is this head, these records, and a tail that begins with no whole one.
pub record IsStore (file : List ℕ) (head : Head) (records : List Entry) (tail : List ℕ) : Type 0 where
  pub behind : List ℕ
  pub begins : BeginsWithHead file head behind
  pub reads : ReadsRecords (version_of head) (first_digest head) behind records tail

-- the file stands for these records: it is not torn after them
abbrev pub StandsFor : Head → List Entry → List ℕ → Type 0
StandsFor head records file = (tail : List ℕ) × IsStore file head records tail × IsEnd tail

-- the file is a store of version 1
abbrev pub IsOldStore : List ℕ → Type 0
IsOldStore file = (head : Head) × (records : List Entry) × (tail : List ℕ) × IsStore file head records tail
    × (version_of head ≡ First)

-- After so many whole records stands a torn one.
pub record IsTornStore (file : List ℕ) (whole : ℕ) : Type 0 where
  pub head : Head
  pub records : List Entry
  pub tail : List ℕ
  pub store : IsStore file head records tail
  pub count : whole ≡ length records
  pub torn : IsTorn (version_of head) tail

-- After a head and whole records there is damage.
pub record IsDamagedStore (file : List ℕ) (whole : ℕ) : Type 0 where
  pub head : Head
  pub behind : List ℕ
  pub begins : BeginsWithHead file head behind
  pub records : List Entry
  pub tail : List ℕ
  pub each : AllByRecursion (IsRecord (version_of head)) records
  pub spelled : behind ≡ frames (version_of head) (first_digest head) records ++ tail
  pub count : whole ≡ length records
  pub damaged : IsDamaged (version_of head) (last_digest (version_of head) (first_digest head) records) tail

-- why a file is not read, by the fault that is reported
abbrev pub IsUnread : ReadFault → List ℕ → Type 0
IsUnread (HasNoHead fault) file = IsRefusedFor fault file
IsUnread (Damaged whole) file = IsDamagedStore file whole
IsUnread NoMemory file = ⊤

-- The first n bytes of a store of these records are read as the first of them, as many as are whole there:
-- the next one, if there is one, ends after them.
pub record FrontIsStore (head : Head) (records : List Entry) (n : ℕ) (front : List ℕ) : Type 0 where
  pub count : ℕ
  pub tail : List ℕ
  pub store : IsStore front head (take count records) tail
  pub few : count ≤ length records
  pub whole : length (stored head (take count records)) ≤ n
  pub most : (count ≡ length records) ⊎ (n < length (stored head (take (count + 1) records)))
