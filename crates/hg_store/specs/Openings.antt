-- What was found where a store in a file is opened, and why one is not opened.
use Rattle.std.specs.Prelude.{ℕ, ◌≡◌, ◌≢◌, ◌⊎◌, ◌+◌, List, [], ◌∷◌, ◌++◌, Bool, true, false, length, ⊤}
use Rattle.hg_store.specs.declared.head.Head.{Head}
use Rattle.hg_store.specs.declared.head.Setup.{Setup}
use Rattle.hg_store.specs.declared.opening.RecoverFault.TheVariants.{Read, OldVersion, Torn, Tail, Device}
use Rattle.hg_store.specs.declared.start.StoreFault.{StoreFault}
use Rattle.hg_store.specs.declared.start.StoreFault.TheVariants.{Missing, Exists, Held, Linked, OtherPublishing, OtherLimits, Recover}
use Rattle.hg_store.specs.Calls.{Continue, Event, LeftSince, began}
use Rattle.hg_store.specs.Entries.{Entry}
use Rattle.hg_store.specs.Files.{IsOldStore, IsTornStore, IsUnread, StandsFor}
use Rattle.hg_store.specs.Files.{digest_behind, stored}
use Rattle.hg_store.specs.Head.{HasHead, IsHead, head_for}
use Rattle.hg_store.specs.Again.{HasGates}
use Rattle.hg_store.specs.Records.{IsEnd, IsRecord}
use Rattle.hg_store.specs.declared.head.Version.TheVariants.{Second}
use Rattle.hg_store.specs.declared.front.Opening.{Opening}
use Rattle.std.specs.List.{AllByRecursion}
use Rattle.hg_store.specs.Tails.{IsTailRefused}

-- A store in a file is open for more records. The first call on the file read it: the bytes that were found stand for
-- these records, and so does what a crash may have left of it at any moment since.
pub record IsFound (head : Head) (records : List Entry) (before now : List Event) : Type 0 where
  pub bytes : List ℕ
  pub read_first : Continue (began bytes ∷ before) now
  pub stands : StandsFor head records bytes
  pub any_moment : (left : List ℕ) → LeftSince now (length before + 1) left → StandsFor head records left

-- what a folder may answer in the place of a store: there is none, there is one already, it is held, or it is no file
-- or a link; or a device failed, or memory was refused
abbrev pub IsOfFolder : StoreFault → Type 0
IsOfFolder Missing = ⊤
IsOfFolder Exists = ⊤
IsOfFolder Held = ⊤
IsOfFolder Linked = ⊤
IsOfFolder (Recover (Device fault)) = ⊤
IsOfFolder other = ⊥

-- why bytes that were read are not opened for a server that is set up in this way, by the fault that is reported
abbrev pub IsRefusedAs : StoreFault → Setup → List ℕ → Type 0
IsRefusedAs OtherPublishing setup bytes = (head : Head) × HasHead bytes head × (head.publishing ≢ setup.publishing)
IsRefusedAs OtherLimits setup bytes = (head : Head) × HasHead bytes head × (head.limits ≢ setup.limits)
IsRefusedAs (Recover (Read fault)) setup bytes = IsUnread fault bytes
IsRefusedAs (Recover OldVersion) setup bytes = IsOldStore bytes
IsRefusedAs (Recover (Torn whole)) setup bytes = IsTornStore bytes whole
IsRefusedAs (Recover (Tail fault)) setup bytes = IsTailRefused fault bytes
IsRefusedAs other setup bytes = ⊥

-- A file was read. Whatever records the bytes stood for that were found, what a crash may have left at any moment
-- since stands for them.
pub record IsInterrupted (bytes : List ℕ) (before now : List Event) : Type 0 where
  pub read_first : Continue (began bytes ∷ before) now
  pub any_moment : (head : Head) (records : List Entry) → StandsFor head records bytes → (left : List ℕ)
      → LeftSince now (length before + 1) left → StandsFor head records left

-- Why a file is not opened, by the bytes that were read of it, and by the calls on it before and those up to now.
-- Where a device failed, or memory was refused, it was not changed, or no record is lost; else it was not changed.
abbrev pub IsUnopened : StoreFault → Setup → List ℕ → List Event → List Event → Type 0
IsUnopened (Recover (Device fault)) setup bytes before now =
    (now ≡ before) ⊎ ((found : List ℕ) × IsInterrupted found before now)
IsUnopened fault setup bytes before now = (now ≡ before) × IsRefusedAs fault setup bytes

-- Of a store that is opened for a server that is set up in this way, the head was read and these records, and then
-- this. It is known where the records end, and where the gates of the last of them stand.
pub record HasRead {C A : Type 0} (drawn : C → List ℕ) (setup : Setup) (tail : List ℕ) (opening : Opening C A) :
    Type 0 where
  pub allowed : IsHead (head_for setup opening.identity)
  pub each : AllByRecursion (IsRecord Second) opening.records.entries
  pub read : drawn opening.calls ≡ stored (head_for setup opening.identity) opening.records.entries ++ tail
  pub place : opening.end ≡ length (stored (head_for setup opening.identity) opening.records.entries)
  pub chained : opening.digest ≡ digest_behind (head_for setup opening.identity) opening.records.entries
  pub count : opening.stored ≡ length opening.records.entries
  pub kept : HasGates (head_for setup opening.identity) opening.records.entries opening.gates.items

-- All records were read, and then this: none follows.
pub record HasEnded {C A : Type 0} (drawn : C → List ℕ) (setup : Setup) (opening : Opening C A) : Type 0 where
  pub all : HasRead drawn setup opening.frame.items opening
  pub ends : IsEnd opening.frame.items

-- One more record was read, and its bundle was taken.
pub record IsNextOf {C A T : Type 0} (took : T → List ℕ → T → Type 0) (before after : T) (entry : Entry)
    (old new : Opening C A) : Type 0 where
  pub more : new.records.entries ≡ old.records.entries ++ entry ∷ []
  pub taken : (first : T) (bytes : List ℕ) → took first bytes before → took first (bytes ++ entry.bundle) after

-- a record was read and its bundle taken, or there is none, and nothing was taken
abbrev pub HasNext : {C A T : Type 0} → (C → List ℕ) → (T → List ℕ → T → Type 0) → T → T → Setup → Bool → Opening C A
    → Opening C A → Type 0
HasNext drawn took before after setup true old new =
    HasRead drawn setup [] new × ((entry : Entry) × IsNextOf took before after entry old new)
HasNext drawn took before after setup false old new =
    HasEnded drawn setup new × (new.records.entries ≡ old.records.entries) × (after ≡ before)
