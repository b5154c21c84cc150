-- What a reader gives of a store, where its bytes are known: a head, and then one record after the other.
use Rattle.std.specs.Prelude.{ℕ, ◌≡◌, ◌⊎◌, ◌<◌, ◌≤◌, List, [], length, Option, None, Some, ⊤}
use Rattle.std.specs.Io.KnownBytes.{Consumes, IsAtEnd}
use Rattle.hg_store.specs.Entries.{Entry}
use Rattle.hg_store.specs.declared.head.HeadFault.{HeadFault}
use Rattle.hg_store.specs.declared.head.HeadFault.TheVariants.{TooShort}
use Rattle.hg_store.specs.declared.head.Version.{Version}
use Rattle.hg_store.specs.declared.record.NoRecord.{NoRecord}
use Rattle.hg_store.specs.declared.record.NoRecord.TheVariants.{Damaged, End, Torn}
use Rattle.hg_store.specs.Head.{IsRefusedFor}
use Rattle.hg_store.specs.Records.{IsDamaged, IsEnd, IsRecord, IsTorn, digest_of, frame}

-- the bytes that a reader has to give, where they are known
abbrev pub HasToGive : Option (List ℕ) → List ℕ → Type 0
HasToGive None file = ⊤
HasToGive (Some bytes) file = file ≡ bytes

-- A reader gave so many bytes; or fewer, and is at its end.
pub record ReadsUpTo (count : ℕ) (bytes : List ℕ) (before after : Option (List ℕ)) : Type 0 where
  pub gone : Consumes before after bytes
  pub few : length bytes ≤ count
  pub short : length bytes < count → IsAtEnd after

-- A reader gave fewer bytes than so many, and is at its end.
pub record IsCutShort (count : ℕ) (before after : Option (List ℕ)) : Type 0 where
  pub part : List ℕ
  pub gone : Consumes before after part
  pub less : length part < count
  pub over : IsAtEnd after

-- A reader gave this record after one with that digest, and no byte more. It has the next digest.
pub record GivesRecord (version : Version) (digest : List ℕ) (before after : Option (List ℕ)) (found : Entry)
    (next : List ℕ) : Type 0 where
  pub is : IsRecord version found
  pub gone : Consumes before after (frame version digest found)
  pub digest_is : next ≡ digest_of version digest found

-- what stands where no record is read after one with that digest: the end, a torn record or damage
abbrev pub StopsThere : NoRecord → Version → List ℕ → List ℕ → Type 0
StopsThere End version digest tail = IsEnd tail
StopsThere Torn version digest tail = IsTorn version tail
StopsThere Damaged version digest tail = IsDamaged version digest tail

-- A reader gave these bytes, which are no whole record after one with that digest, whatever it has still to give.
-- Where more bytes would make them one, it is at its end.
pub record GivesNoRecord (stop : NoRecord) (version : Version) (digest : List ℕ) (before after : Option (List ℕ)) :
    Type 0 where
  pub tail : List ℕ
  pub gone : Consumes before after tail
  pub stops : StopsThere stop version digest tail
  pub over : (tail ≡ []) ⊎ (stop ≡ Torn) → IsAtEnd after

-- A reader gave these bytes, which begin with no head. Where they are fewer than those of a head, it is at its end.
pub record GivesNoHead (fault : HeadFault) (before after : Option (List ℕ)) : Type 0 where
  pub bytes : List ℕ
  pub gone : Consumes before after bytes
  pub refused : IsRefusedFor fault bytes
  pub over : fault ≡ TooShort → IsAtEnd after
