-- A store that a reader gives, gone through one record after the other.
use Rattle.std.specs.Prelude.{ℕ, ◌≡◌, ◌≢◌, ◌⊎◌, ◌+◌, ⊤, List, [], ◌∷◌, ◌++◌, Option, length}
use Rattle.std.specs.List.{AllByRecursion}
use Rattle.std.specs.Io.KnownBytes.{Consumes, IsAtEnd}
use Rattle.hg_store.specs.Entries.{Entry}
use Rattle.hg_store.specs.Head.{IsHead, first_digest, head_bytes, version_of}
use Rattle.hg_store.specs.Pieces.{GivesNoHead}
use Rattle.hg_store.specs.Records.{IsDamaged, IsRecord, frames, last_digest}
use Rattle.hg_store.specs.declared.head.Head.{Head}
use Rattle.hg_store.specs.declared.head.Version.{Version}
use Rattle.hg_store.specs.declared.pieces.RecordStop.{RecordStop}
use Rattle.hg_store.specs.declared.pieces.RecordStop.TheVariants.{NoRecord as no_record}
use Rattle.hg_store.specs.declared.record.NoRecord.TheVariants.{Damaged as damaged, End as at_end, Torn as torn}
use Rattle.hg_store_tools.specs.Reading.{EndsSo}
use Rattle.hg_store_tools.specs.declared.fault.Fault.{Fault}
use Rattle.hg_store_tools.specs.declared.fault.Fault.TheVariants.{Head as HasNoHead, Damaged, Failed, NoMemory}
use Rattle.hg_store_tools.specs.declared.fault.StoreEnd.{StoreEnd}
use Rattle.hg_store_tools.specs.declared.fault.StoreEnd.TheVariants.{Whole, Torn}

-- A reader gave this head, and the digest is the one before the first record.
pub record Begins (before after : Option (List ℕ)) (head : Head) (digest : List ℕ) : Type 0 where
  pub is : IsHead head
  pub gone : Consumes before after (head_bytes head)
  pub digest_is : digest ≡ first_digest head

-- why no head was read; of a reader that failed and of memory nothing is said
abbrev pub has_no_begin : Fault → Option (List ℕ) → Option (List ℕ) → Type 0
has_no_begin (HasNoHead fault) before after = GivesNoHead fault before after
has_no_begin NoMemory before after = ⊤
has_no_begin Failed before after = ⊤
has_no_begin other before after = ⊥

-- how a store ends of which so many records are whole
abbrev pub EndsAs : StoreEnd → ℕ → RecordStop → Type 0
EndsAs Whole whole stop = stop ≡ no_record at_end
EndsAs (Torn count) whole stop = (count ≡ whole) × (stop ≡ no_record torn)

-- the fault that is told where a record is not read
abbrev pub FailsAs : Fault → ℕ → RecordStop → Type 0
FailsAs (Damaged place) whole stop = (place ≡ whole) × (stop ≡ no_record damaged)
FailsAs NoMemory whole stop = ⊤
FailsAs Failed whole stop = ⊤
FailsAs other whole stop = ⊥

-- why no record is read after so many of them, the last of which has that digest
abbrev pub IsUnreadAt : Fault → Version → List ℕ → ℕ → List ℕ → Type 0
IsUnreadAt (Damaged place) version digest count tail = (place ≡ count) × IsDamaged version digest tail
IsUnreadAt NoMemory version digest count tail = ⊤
IsUnreadAt Failed version digest count tail = ⊤
IsUnreadAt other version digest count tail = ⊥

-- something is done with each of the records, the first of which is at this place
abbrev pub VisitsEach : {T : Type 0} → (ℕ → Entry → T → T → Type 0) → ℕ → List Entry → T → T → Type 0
VisitsEach step place [] first last = last ≡ first
VisitsEach {T} step place (entry ∷ others) first last =
    (mid : T) × step place entry first mid × VisitsEach step (place + 1) others mid last

-- A reader gave these records of a store and no more, the first at this place and after that digest, and the store ends
-- so. Something was done with each.
pub record VisitsFrom {T : Type 0} (step : ℕ → Entry → T → T → Type 0) (head : Head) (place : ℕ) (digest : List ℕ)
    (before after : Option (List ℕ)) (ending : StoreEnd) (first last : T) : Type 0 where
  pub records : List Entry
  pub tail : List ℕ
  pub each : AllByRecursion (IsRecord (version_of head)) records
  pub gone : Consumes before after (frames (version_of head) digest records ++ tail)
  pub ends : EndsSo ending (version_of head) (place + length records) tail
  pub over : (tail ≡ []) ⊎ (ending ≢ Whole) → IsAtEnd after
  pub visited : VisitsEach step place records first last

-- the same of those after the head
abbrev pub Visits : {T : Type 0} → (ℕ → Entry → T → T → Type 0) → Head → List ℕ → Option (List ℕ) → Option (List ℕ)
    → StoreEnd → T → T → Type 0
Visits step head digest before after ending first last = VisitsFrom step head 0 digest before after ending first last

-- Something was done with each of some records. Then none was read; or it was not done with the next one.
pub data StopsVisitingFrom {T : Type 0} (step : ℕ → Entry → T → T → Type 0)
    (fails : ℕ → Entry → Fault → T → T → Type 0) (head : Head) (place : ℕ) (digest : List ℕ)
    (before after : Option (List ℕ)) (fault : Fault) (first last : T) : Type 0 where
  unread : (records : List Entry) (tail : List ℕ) (mid : Option (List ℕ)) →
      AllByRecursion (IsRecord (version_of head)) records →
      Consumes before mid (frames (version_of head) digest records ++ tail) →
      IsUnreadAt fault (version_of head) (last_digest (version_of head) digest records) (place + length records) tail →
      VisitsEach step place records first last →
      StopsVisitingFrom step fails head place digest before after fault first last
  failed : (records : List Entry) (entry : Entry) (mid : T) →
      AllByRecursion (IsRecord (version_of head)) (records ++ entry ∷ []) →
      Consumes before after (frames (version_of head) digest (records ++ entry ∷ [])) →
      VisitsEach step place records first mid → fails (place + length records) entry fault mid last →
      StopsVisitingFrom step fails head place digest before after fault first last

-- the same of those after the head
abbrev pub StopsVisiting : {T : Type 0} → (ℕ → Entry → T → T → Type 0) → (ℕ → Entry → Fault → T → T → Type 0) → Head
    → List ℕ → Option (List ℕ) → Option (List ℕ) → Fault → T → T → Type 0
StopsVisiting step fails head digest before after fault first last =
    StopsVisitingFrom step fails head 0 digest before after fault first last
