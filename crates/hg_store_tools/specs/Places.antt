-- Where records of a store stand, and the index that says so.
use Rattle.std.specs.Prelude.{ℕ, ◌≡◌, ◌⊎◌, ◌+◌, ◌<◌, ◌^◌, List, [], ◌∷◌, ◌++◌, drop, length}
use Rattle.std.specs.List.{AllByRecursion}
use Rattle.std.specs.Int.{w64, to_be_bytes}
use Rattle.sha1.specs.Sha1.{sha1}
use Rattle.hg_store.specs.Entries.{Entry}
use Rattle.hg_store.specs.Files.{digest_behind, stored}
use Rattle.hg_store.specs.Head.{first_digest, head_size, version_of}
use Rattle.hg_store.specs.Records.{IsRecord, frame, frames, last_digest}
use Rattle.hg_store.specs.declared.head.Head.{Head}
use Rattle.hg_store.specs.declared.head.Version.{Version}
use Rattle.hg_store_tools.specs.declared.fault.Fault.{Fault}
use Rattle.hg_store_tools.specs.declared.fault.StoreEnd.{StoreEnd}
use Rattle.hg_store_tools.specs.declared.marks.Mark.{Mark}
use Rattle.hg_store_tools.specs.Reading.{EndsSo, HasFront}
use Rattle.hg_store_tools.specs.Visiting.{IsUnreadAt}

-- ---- where records stand

-- The mark says what is so of the file: so many records stand before it, it is behind them, and its digest is that of
-- the last of them, or of the head. The rest stands behind it.
pub record HasMark (file : List ℕ) (head : Head) (mark : Mark) (rest : List ℕ) : Type 0 where
  pub earlier : List Entry
  pub front : HasFront file head earlier rest
  pub place_is : mark.place ≡ length earlier
  pub offset_is : mark.offset ≡ length (stored head earlier)
  pub digest_is : mark.digest ≡ digest_behind head earlier

-- the mark of the front of a store, behind its head
abbrev pub front_mark : Head → Mark
front_mark head = record { place = 0; offset = head_size (version_of head); digest = first_digest head }

-- The bytes from one mark on are records, each after the one before, and then another stands at the other mark.
pub record LeadsTo (version : Version) (bytes : List ℕ) (first mark : Mark) : Type 0 where
  pub records : List Entry
  pub next : Entry
  pub behind : List ℕ
  pub each : AllByRecursion (IsRecord version) records
  pub is : IsRecord version next
  pub spelled : bytes ≡ frames version first.digest records ++ (frame version mark.digest next ++ behind)
  pub place_is : mark.place ≡ first.place + length records
  pub offset_is : mark.offset ≡ first.offset + length (frames version first.digest records)
  pub digest_is : mark.digest ≡ last_digest version first.digest records

-- the mark behind a record that stands at a mark and has that digest
abbrev pub IsBehind : Version → Mark → Entry → List ℕ → Mark → Type 0
IsBehind version mark entry digest next = (next.place ≡ mark.place + 1)
    × (next.offset ≡ mark.offset + length (frame version mark.digest entry)) × (next.digest ≡ digest)

-- one of the marks
abbrev pub IsAmong : Mark → List Mark → Type 0
IsAmong mark marks = (before : List Mark) × (after : List Mark) × (marks ≡ before ++ mark ∷ after)

-- A record stands at the mark, in a file with that head: to it lead the records from the front, or from a mark that is
-- known.
pub record IsReached (file : List ℕ) (head : Head) (known : List Mark) (mark : Mark) : Type 0 where
  pub first : Mark
  pub told : (first ≡ front_mark head) ⊎ IsAmong first known
  pub leads : LeadsTo (version_of head) (drop first.offset file) first mark

-- From the mark on the rest of a store is these records, each after the one before, and they end so.
pub record IsReadOn (head : Head) (mark : Mark) (rest : List ℕ) (records : List Entry) (ending : StoreEnd) : Type 0 where
  pub tail : List ℕ
  pub each : AllByRecursion (IsRecord (version_of head)) records
  pub spelled : rest ≡ frames (version_of head) mark.digest records ++ tail
  pub ends : EndsSo ending (version_of head) (mark.place + length records) tail

-- From the mark on the rest of a store begins with records, behind which none is read for that reason.
pub record IsUnreadOn (head : Head) (mark : Mark) (rest : List ℕ) (fault : Fault) : Type 0 where
  pub records : List Entry
  pub tail : List ℕ
  pub each : AllByRecursion (IsRecord (version_of head)) records
  pub spelled : rest ≡ frames (version_of head) mark.digest records ++ tail
  pub why : IsUnreadAt fault (version_of head) (last_digest (version_of head) mark.digest records)
      (mark.place + length records) tail

-- ---- the index

-- each number of a mark has eight bytes, and its digest 20
abbrev pub IsMark : Mark → Type 0
IsMark mark = (mark.place < 2 ^ 64) × (mark.offset < 2 ^ 64) × (length mark.digest ≡ 20)

-- the letters HGPLACES
abbrev pub index_magic : List ℕ
index_magic = 72 ∷ 71 ∷ 80 ∷ 76 ∷ 65 ∷ 67 ∷ 69 ∷ 83 ∷ []

-- a mark: its place and its offset as eight bytes each, the high byte first, and its digest
abbrev pub mark_bytes : Mark → List ℕ
mark_bytes mark = to_be_bytes w64 mark.place ++ (to_be_bytes w64 mark.offset ++ mark.digest)

-- marks, one after the other
abbrev pub marks_bytes : List Mark → List ℕ
marks_bytes [] = []
marks_bytes (mark ∷ others) = mark_bytes mark ++ marks_bytes others

-- what stands in an index before its digest
abbrev pub index_front : List Mark → List ℕ
index_front marks = index_magic ++ marks_bytes marks

-- An index of a store whose head has that digest. Its own digest takes that in, and so names the store.
abbrev pub index_bytes : List ℕ → List Mark → List ℕ
index_bytes first marks = index_front marks ++ sha1 (first ++ index_front marks)

-- the marks that an index of a store with that head says; what is no index of it says none
abbrev pub Says : List ℕ → Head → List Mark → Type 0
Says index head known = (known ≡ []) ⊎ (index ≡ index_bytes (first_digest head) known)

-- where a log begins to read in a file that is a store with that head: at its front, or at a record that is reached
-- from there or from a mark of the index
abbrev pub BeginsAt : List ℕ → List ℕ → Head → Mark → Type 0
BeginsAt file index head mark = (mark ≡ front_mark head)
    ⊎ ((known : List Mark) × Says index head known × IsReached file head known mark)

-- The bytes are a new index: each of its marks is one of the old one, or a record stands at it that is reached.
pub record IsIndexOf (file index : List ℕ) (head : Head) (bytes : List ℕ) : Type 0 where
  pub known : List Mark
  pub says : Says index head known
  pub marks : List Mark
  pub spelled : bytes ≡ index_bytes (first_digest head) marks
  pub each : AllByRecursion (λ mark. IsAmong mark known ⊎ IsReached file head known mark) marks
