-- Records, one after the other, and what bytes stand for.
use Rattle.std.specs.Prelude.{ℕ, ◌≡◌, ◌≢◌, ◌⊎◌, ◌+◌, ◌<◌, ◌^◌, List, [], ◌∷◌, ◌++◌, length}
use Rattle.std.specs.List.{AllByRecursion}
use Rattle.std.specs.Int.{w32, w64, to_be_bytes}
use Rattle.sha1.specs.Sha1.{sha1}
use Rattle.hg_store.specs.Entries.{Entry}
use Rattle.hg_store.specs.declared.head.Version.{Version}
use Rattle.hg_store.specs.declared.head.Version.TheVariants.{First, Second}
use Rattle.hg_store.specs.declared.numbers.Numbers.{Numbers}

-- The byte at a gate where a record follows. A shut gate is 0. In version 2 they are eight bits apart.
abbrev pub open_gate : Version → ℕ
open_gate First = 1
open_gate Second = 255

-- a number of bytes, as four bytes, the high byte first
abbrev pub size_bytes : ℕ → List ℕ
size_bytes size = to_be_bytes w32 size

-- a time, as eight bytes, the high byte first
abbrev pub time_bytes : ℕ → List ℕ
time_bytes time = to_be_bytes w64 time

-- the numbers of a record: how many bytes its bundle has, its time, and how many bytes its name has
abbrev pub numbers_of : Entry → Numbers
numbers_of entry = record {
  size = length entry.bundle;
  time = entry.stamp.time;
  named = length entry.stamp.name;
}

-- Each can be written. In version 1 a record has no time, and a name of no bytes.
abbrev pub AreNumbers : Version → Numbers → Type 0
AreNumbers First numbers = (numbers.size < 2 ^ 32) × (numbers.time ≡ 0) × (numbers.named ≡ 0)
AreNumbers Second numbers = (numbers.size < 2 ^ 32) × (numbers.time < 2 ^ 64) × (numbers.named < 2 ^ 8)

-- the numbers of a record, as they stand after its gate
abbrev pub numbers_bytes : Version → Numbers → List ℕ
numbers_bytes First numbers = size_bytes numbers.size
numbers_bytes Second numbers = size_bytes numbers.size ++ (time_bytes numbers.time ++ numbers.named ∷ [])

-- how many bytes these are
abbrev pub numbers_size : Version → ℕ
numbers_size First = 4
numbers_size Second = 13

-- what stands between the gate of a record and its digest: the numbers and the name
abbrev pub label : Version → Entry → List ℕ
label version entry = numbers_bytes version (numbers_of entry) ++ entry.stamp.name

-- what of that a digest takes in: in version 1 nothing
abbrev pub chained_label : Version → List ℕ → List ℕ
chained_label First label = []
chained_label Second label = label

-- The digest of a record takes in that of the record before, and so all records up to it. That of its bundle
-- is taken first: so it can be made before it is known which record comes before.
abbrev pub digest_of : Version → List ℕ → Entry → List ℕ
digest_of version before entry =
    sha1 (before ++ (chained_label version (label version entry) ++ sha1 entry.bundle))

-- the number of the bytes of its bundle can be written
abbrev pub IsSized : Entry → Type 0
IsSized entry = length entry.bundle < 2 ^ 32

-- its numbers can be written
abbrev pub IsRecord : Version → Entry → Type 0
IsRecord version entry = AreNumbers version (numbers_of entry)

-- a record after one with that digest: an open gate, its numbers and its name, its digest, and its bundle
abbrev pub frame : Version → List ℕ → Entry → List ℕ
frame version before entry =
    open_gate version ∷ label version entry ++ (digest_of version before entry ++ entry.bundle)

-- records, one after the other
abbrev pub frames : Version → List ℕ → List Entry → List ℕ
frames version before [] = []
frames version before (first ∷ others) =
    frame version before first ++ frames version (digest_of version before first) others

-- the digest of the last of them
abbrev pub last_digest : Version → List ℕ → List Entry → List ℕ
last_digest version before [] = before
last_digest version before (first ∷ others) = last_digest version (digest_of version before first) others

-- The records end here: at the end of the file, or at a shut gate, whatever stands after it.
pub data IsEnd (tail : List ℕ) : Type 0 where
  over : tail ≡ [] → IsEnd tail
  shut : (behind : List ℕ) → tail ≡ 0 ∷ behind → IsEnd tail

-- Less than a whole record stands after an open gate: less than its numbers, or less than what they say.
pub data IsTorn (version : Version) (tail : List ℕ) : Type 0 where
  short : (part : List ℕ) → tail ≡ open_gate version ∷ part → length part < numbers_size version →
      IsTorn version tail
  cut_off : (numbers : Numbers) (part : List ℕ) → AreNumbers version numbers →
      tail ≡ open_gate version ∷ numbers_bytes version numbers ++ part →
      length part < numbers.named + 20 + numbers.size → IsTorn version tail

-- The bytes are these records, the first after that digest, and a tail that begins with no whole one.
pub record ReadsRecords (version : Version) (start bytes : List ℕ) (records : List Entry) (tail : List ℕ) :
    Type 0 where
  pub each : AllByRecursion (IsRecord version) records
  pub ends : IsEnd tail ⊎ IsTorn version tail
  pub spelled : bytes ≡ frames version start records ++ tail

-- The bytes begin with this record after one with that digest, and it has the next digest.
pub record IsNext (version : Version) (before bytes : List ℕ) (found : Entry) (after next : List ℕ) : Type 0
  where
    pub spelled : bytes ≡ frame version before found ++ after
    pub is : IsRecord version found
    pub digest : next ≡ digest_of version before found

-- A gate is neither open nor shut, or a whole record stands after another digest than its own.
pub data IsDamaged (version : Version) (before bytes : List ℕ) : Type 0 where
  no_gate : (gate : ℕ) (behind : List ℕ) → bytes ≡ gate ∷ behind → gate ≢ 0 → gate ≢ open_gate version →
      IsDamaged version before bytes
  other_digest : (told : List ℕ) (found : Entry) (after : List ℕ) →
      bytes ≡ open_gate version ∷ label version found ++ (told ++ (found.bundle ++ after)) →
      IsRecord version found → length told ≡ 20 → told ≢ digest_of version before found →
      IsDamaged version before bytes
