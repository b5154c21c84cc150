-- A store of version 1 that is written as one of version 2.
use Rattle.std.specs.Prelude.{ℕ, ◌≡◌, ◌≢◌, ◌⊎◌, ⊤, List, length}
use Rattle.hg_store.specs.Calls.{Event, IsPlacedWhole}
use Rattle.hg_store.specs.declared.head.Head.{Head}
use Rattle.hg_store.specs.declared.head.Version.TheVariants.{First, Second}
use Rattle.hg_store.specs.Entries.{Entry}
use Rattle.hg_store.specs.Files.{IsDamagedStore, IsTornStore, StandsFor}
use Rattle.hg_store.specs.Head.{HasHead, IsRefusedFor, head_for, setup_of, version_of}
use Rattle.hg_store.specs.Log.{at_rest}
use Rattle.hg_store_tools.specs.declared.cut.CutFault.{CutFault}
use Rattle.hg_store_tools.specs.declared.cut.CutFault.TheVariants.{Kept, New, Store, Tail}
use Rattle.hg_store_tools.specs.declared.fault.Fault.{Fault}
use Rattle.hg_store_tools.specs.declared.fault.Fault.TheVariants.{Damaged, Failed, Head as HasNoHead, NoMemory, Torn}
use Rattle.hg_store_tools.specs.declared.fault.Fault.TheVariants.{Unsent, Upgraded}
use Rattle.hg_store_tools.specs.Filling.{AddsRecord, IsUnplaced, StoreFilled}

-- The file is a store of version 1. A store of version 2 is left, of that name, of a server that is set up in the same
-- way, and with the same records.
pub record IsUpgradeOf (file identity left : List ℕ) : Type 0 where
  pub head : Head
  pub records : List Entry
  pub stands : StandsFor head records file
  pub old : version_of head ≡ First
  pub left_is : left ≡ at_rest (head_for (setup_of head) identity) records
  -- a name of a store has 16 bytes
  pub same : length identity ≡ 16 → StandsFor (head_for (setup_of head) identity) records left

-- What came of an upgrade of a file: the new file got no name; or it got its name with the new store on the disk.
pub data IsUpgradedInto (file identity : List ℕ) (calls : List Event) : Type 0 where
  unplaced : IsUnplaced calls → IsUpgradedInto file identity calls
  placed : (left : List ℕ) → IsUpgradeOf file identity left → IsPlacedWhole left calls →
      IsUpgradedInto file identity calls

-- the record was written to the new store
abbrev pub UpgradesRecord : Entry → StoreFilled → StoreFilled → Type 0
UpgradesRecord entry before after = AddsRecord Second entry before after

-- it was not, or not whole
abbrev pub UpgradesNoRecord : Fault → StoreFilled → StoreFilled → Type 0
UpgradesNoRecord fault before after =
    ((fault ≡ Unsent) ⊎ (fault ≡ NoMemory)) × (IsUnplaced before.file.calls → IsUnplaced after.file.calls)

-- the file has a head of version 2
abbrev pub IsUpgraded : List ℕ → Type 0
IsUpgraded file = (head : Head) × HasHead file head × (version_of head ≡ Second)

-- why a file is not upgraded; of memory, of the reader and of the new file nothing is said
abbrev pub IsNotUpgraded : CutFault → List ℕ → Type 0
IsNotUpgraded (Store (HasNoHead fault)) file = IsRefusedFor fault file
IsNotUpgraded (Store Upgraded) file = IsUpgraded file
IsNotUpgraded (Store (Torn whole)) file = IsTornStore file whole
IsNotUpgraded (Store (Damaged place)) file = IsDamagedStore file place
IsNotUpgraded (Store NoMemory) file = ⊤
IsNotUpgraded (Store Failed) file = ⊤
IsNotUpgraded (Store other) file = ⊥
IsNotUpgraded (Tail whole fault) file = ⊥
IsNotUpgraded (Kept fault) file = ⊤
IsNotUpgraded New file = ⊤

-- the new file has got no name then
abbrev pub LeavesStore : CutFault → List Event → Type 0
LeavesStore (Store fault) calls = IsUnplaced calls
LeavesStore (Tail whole fault) calls = IsUnplaced calls
LeavesStore (Kept fault) calls = IsUnplaced calls
LeavesStore New calls = ⊤

-- the fault that an upgrade tells for one of its records: that the new file did not take it, or the fault itself
abbrev pub IsToldOfNew : Fault → CutFault → Type 0
IsToldOfNew fault told = ((fault ≡ Unsent) × (told ≡ New)) ⊎ ((fault ≢ Unsent) × (told ≡ Store fault))
