-- A store that is ended before one of its records, and what is kept of those that it loses.
use Rattle.std.specs.Prelude.{ℕ, true, ◌≡◌, ◌≢◌, ◌⊎◌, ◌<◌, ⊤, Result, Ok, Err, List, [], ◌∷◌, ◌++◌, length, take, drop}
use Rattle.std.specs.List.{AllByRecursion}
use Rattle.hg_store.specs.declared.head.Head.{Head}
use Rattle.hg_store.specs.declared.head.Version.{Version}
use Rattle.hg_store.specs.declared.record.NoRecord.{NoRecord}
use Rattle.hg_store.specs.declared.record.NoRecord.TheVariants.{Damaged, End, Torn}
use Rattle.hg_store.specs.Calls.{Event, IsPlaced, IsPlacedWhole, tail_kept}
use Rattle.hg_store.specs.Entries.{Entry}
use Rattle.hg_store.specs.Files.{digest_behind, stored}
use Rattle.hg_store.specs.Head.{BeginsWithHead, IsRefusedFor, first_digest, version_of}
use Rattle.hg_store.specs.Log.{at_rest}
use Rattle.hg_store.specs.Records.{IsDamaged, IsEnd, IsRecord, IsTorn, frames, last_digest}
use Rattle.hg_store.specs.Tails.{is_blank}
use Rattle.hg_store_tools.specs.declared.cut.CutFault.{CutFault}
use Rattle.hg_store_tools.specs.declared.cut.CutFault.TheVariants.{Kept, New, Store, Tail}
use Rattle.hg_store_tools.specs.declared.fault.Fault.{Fault}
use Rattle.hg_store_tools.specs.declared.fault.Fault.TheVariants.{Damaged as DamagedAt, Failed, Head as HasNoHead}
use Rattle.hg_store_tools.specs.declared.fault.Fault.TheVariants.{NoMemory, NoPlace, Unsent}
use Rattle.hg_store_tools.specs.declared.fault.StoreEnd.{StoreEnd}
use Rattle.hg_store_tools.specs.declared.fault.StoreEnd.TheVariants.{Whole as WholeEnd, Torn as TornEnd}
use Rattle.hg_store_tools.specs.Filling.{Filled, HasRecords, IsFilled, IsUnplaced, StoreFilled}

-- the bundles of records, one after the other
abbrev pub joined : List Entry → List ℕ
joined [] = []
joined (first ∷ others) = first.bundle ++ joined others

-- what stands after the last whole record, which has this digest: the end, a torn record or damage
abbrev pub StopsSo : NoRecord → Version → List ℕ → List ℕ → Type 0
StopsSo End version digest tail = IsEnd tail
StopsSo Torn version digest tail = IsTorn version tail
StopsSo Damaged version digest tail = IsDamaged version digest tail

-- The bytes after a head are these records, the first after that digest, and a tail that begins with no record.
pub record AreFront (version : Version) (start bytes : List ℕ) (records : List Entry) (stop : NoRecord)
    (tail : List ℕ) : Type 0 where
  pub each : AllByRecursion (IsRecord version) records
  pub spelled : bytes ≡ frames version start records ++ tail
  pub stops : StopsSo stop version (last_digest version start records) tail

-- The file begins with this head and these records, and then comes a tail that begins with no record.
pub record IsFront (file : List ℕ) (head : Head) (records : List Entry) (stop : NoRecord) (tail : List ℕ) : Type 0
  where
    pub behind : List ℕ
    pub begins : BeginsWithHead file head behind
    pub front : AreFront (version_of head) (first_digest head) behind records stop tail

-- a record stands at the place, or something that is no whole one
abbrev pub HasPlace : ℕ → ℕ → NoRecord → List ℕ → Type 0
HasPlace at count stop tail = (at < count) ⊎ ((at ≡ count) × ((stop ≢ End) ⊎ (is_blank tail ≢ true)))

-- The file begins with so many records and has the place; the bundles of the records from there on are kept, one
-- after the other, and the tail, and the store of those before it is left.
pub record IsCutOf (file : List ℕ) (at whole : ℕ) (kept left tail : List ℕ) : Type 0 where
  pub head : Head
  pub records : List Entry
  pub stop : NoRecord
  pub front : IsFront file head records stop tail
  pub whole_is : whole ≡ length records
  pub place : HasPlace at whole stop tail
  pub kept_is : kept ≡ joined (drop at records)
  pub left_is : left ≡ at_rest head (take at records)

-- the file begins with so many records and has not the place
pub record HasNoPlace (file : List ℕ) (at count : ℕ) : Type 0 where
  pub head : Head
  pub records : List Entry
  pub stop : NoRecord
  pub tail : List ℕ
  pub front : IsFront file head records stop tail
  pub count_is : count ≡ length records
  pub behind : (count < at) ⊎ ((at ≡ count) × (stop ≡ End) × (is_blank tail ≡ true))

-- the file begins with so many whole records
pub record HasWhole (file : List ℕ) (whole : ℕ) : Type 0 where
  pub head : Head
  pub records : List Entry
  pub stop : NoRecord
  pub tail : List ℕ
  pub front : IsFront file head records stop tail
  pub whole_is : whole ≡ length records

-- The two new files of a cut, how many records were read, where they end in the old store, and the digest of the last.
pub record CutSoFar : Type 0 where
  pub kept : Filled
  pub left : StoreFilled
  pub count : ℕ
  pub end : ℕ
  pub digest : List ℕ

-- no call was made on either file
abbrev pub AreNew : CutSoFar → Type 0
AreNew files = (files.kept.calls ≡ []) × (files.left.file.calls ≡ [])

-- neither file has got a name
abbrev pub AreUnplaced : CutSoFar → Type 0
AreUnplaced files = IsUnplaced files.kept.calls × IsUnplaced files.left.file.calls

-- These records were read: those before the place are written to the new store, and the bundles of the others, one
-- after the other, to the file beside it.
pub record HasCut (head : Head) (at : ℕ) (records : List Entry) (files : CutSoFar) : Type 0 where
  pub left : HasRecords head (take at records) files.left
  pub kept : IsFilled (joined (drop at records)) files.kept
  pub count_is : files.count ≡ length records
  pub end_is : files.end ≡ length (stored head records)
  pub digest_is : files.digest ≡ digest_behind head records

-- the record at a place was written to one of the files
abbrev pub CutsRecord : Version → ℕ → ℕ → Entry → CutSoFar → CutSoFar → Type 0
CutsRecord version at place entry before after = (head : Head) (records : List Entry) → version ≡ version_of head →
    place ≡ length records → HasCut head at records before → HasCut head at (records ++ entry ∷ []) after

-- it was not, or not whole
abbrev pub CutsNoRecord : Fault → CutSoFar → CutSoFar → Type 0
CutsNoRecord fault before after =
    ((fault ≡ Unsent) ⊎ (fault ≡ NoMemory)) × (AreUnplaced before → AreUnplaced after)

-- what stood after so many whole records is only bytes that are 0, and nothing was done, or it was kept
abbrev pub IsRestKept : ℕ → List ℕ → List Event → List Event → Type 0
IsRestKept whole tail before after =
    ((is_blank tail ≡ true) × (after ≡ before)) ⊎ (after ≡ tail_kept whole tail ∷ before)

-- What came of a cut of a file. Neither new file got a name, and no tail was kept. Or what stands after its whole
-- records is kept, unless it is only bytes that are 0, and each new file got its name with all that it is to have on
-- the disk, the new store not before the other.
pub data IsCutInto (file : List ℕ) (at : ℕ) (before after : List Event) (files : CutSoFar) : Type 0 where
  unplaced : AreUnplaced files → after ≡ before → IsCutInto file at before after files
  placed : (whole : ℕ) (kept left tail : List ℕ) → IsCutOf file at whole kept left tail →
      IsRestKept whole tail before after → IsPlacedWhole kept files.kept.calls →
      IsPlacedWhole left files.left.file.calls → IsUnplaced files.left.file.calls ⊎ IsPlaced files.kept.calls →
      IsCutInto file at before after files

-- why a file is not cut; of memory, of the reader and of the new files nothing is said
abbrev pub IsUncut : CutFault → List ℕ → ℕ → Type 0
IsUncut (Store (HasNoHead fault)) file at = IsRefusedFor fault file
IsUncut (Store (NoPlace count)) file at = HasNoPlace file at count
IsUncut (Store NoMemory) file at = ⊤
IsUncut (Store Failed) file at = ⊤
IsUncut (Store other) file at = ⊥
IsUncut (Tail whole fault) file at = HasWhole file whole
IsUncut (Kept fault) file at = ⊤
IsUncut New file at = ⊤

-- the names that the files have not got then
abbrev pub LeavesBy : CutFault → CutSoFar → Type 0
LeavesBy (Store fault) files = AreUnplaced files
LeavesBy (Tail whole fault) files = AreUnplaced files
LeavesBy (Kept fault) files = IsUnplaced files.left.file.calls
LeavesBy New files = ⊤

-- the fault is about one of the new files, or about memory
abbrev pub IsOfFiles : CutFault → Type 0
IsOfFiles (Store NoMemory) = ⊤
IsOfFiles (Store other) = ⊥
IsOfFiles (Tail whole fault) = ⊥
IsOfFiles (Kept fault) = ⊤
IsOfFiles New = ⊤

-- what stands after the whole records of a store, by what was told of its end
abbrev pub IsStopOf : NoRecord → Result StoreEnd Fault → Type 0
IsStopOf End told = told ≡ Ok WholeEnd
IsStopOf Torn told = (whole : ℕ) × (told ≡ Ok (TornEnd whole))
IsStopOf Damaged told = (whole : ℕ) × (told ≡ Err (DamagedAt whole))

-- The fault that a cut tells for one of its records: that one of the new files did not take it, or the fault itself.
abbrev pub IsToldAs : Fault → CutFault → Type 0
IsToldAs fault told =
    ((fault ≡ Unsent) × ((told ≡ Kept Failed) ⊎ (told ≡ New))) ⊎ ((fault ≢ Unsent) × (told ≡ Store fault))
