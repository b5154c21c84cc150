-- What the bytes of a store are read as, beside the server.
use Rattle.std.specs.Prelude.{ℕ, ◌≡◌, ◌++◌, ⊤, List, Option, None, Some, drop, length}
use Rattle.std.specs.List.{AllByRecursion}
use Rattle.hg_store.specs.declared.head.Head.{Head}
use Rattle.hg_store.specs.Entries.{Entry}
use Rattle.hg_store.specs.declared.head.Version.{Version}
use Rattle.hg_store.specs.Files.{IsDamagedStore, IsStore, stored}
use Rattle.hg_store.specs.Head.{IsHead, IsRefusedFor, version_of}
use Rattle.hg_store.specs.Records.{IsEnd, IsRecord, IsTorn}
use Rattle.hg_store_tools.specs.declared.fault.StoreEnd.{StoreEnd}
use Rattle.hg_store_tools.specs.declared.fault.StoreEnd.TheVariants.{Whole, Torn}
use Rattle.hg_store_tools.specs.declared.fault.Fault.{Fault}
use Rattle.hg_store_tools.specs.declared.fault.Fault.TheVariants.{Head as HasNoHead, Damaged, Failed, NoMemory}

-- how so many whole records end, after which this stands
abbrev pub EndsSo : StoreEnd → Version → ℕ → List ℕ → Type 0
EndsSo Whole version count tail = IsEnd tail
EndsSo (Torn whole) version count tail = (whole ≡ count) × IsTorn version tail

-- The file is a store of these records, which end so.
pub record IsRead (file : List ℕ) (head : Head) (records : List Entry) (ending : StoreEnd) : Type 0 where
  pub tail : List ℕ
  pub store : IsStore file head records tail
  pub ends : EndsSo ending (version_of head) (length records) tail

-- The file begins with this head and these records, and then this follows.
pub record HasFront (file : List ℕ) (head : Head) (records : List Entry) (tail : List ℕ) : Type 0 where
  pub is : IsHead head
  pub each : AllByRecursion (IsRecord (version_of head)) records
  pub spelled : file ≡ stored head records ++ tail

-- why a file is not read: it has no head, or is damaged at that place; of a reader that failed and of memory nothing
-- is said
abbrev pub IsUnread : Fault → List ℕ → Type 0
IsUnread (HasNoHead fault) file = IsRefusedFor fault file
IsUnread (Damaged place) file = IsDamagedStore file place
IsUnread NoMemory file = ⊤
IsUnread Failed file = ⊤
IsUnread other file = ⊥

-- a reader has to give what stands in a file from that place on, where its bytes are known
abbrev pub GivesFrom : ℕ → Option (List ℕ) → Option (List ℕ) → Type 0
GivesFrom place None given = ⊤
GivesFrom place (Some file) given = given ≡ Some (drop place file)

-- these are the bytes of a file from that place on, where they are known
abbrev pub IsRestOf : ℕ → Option (List ℕ) → List ℕ → Type 0
IsRestOf place None rest = ⊤
IsRestOf place (Some file) rest = rest ≡ drop place file
