-- New files that are written from their front on, a piece at a time, and get their names once they are whole.
use Rattle.std.specs.Prelude.{ℕ, ◌≡◌, ◌<◌, ⊤, false, List, [], ◌∷◌, ◌++◌, length}
use Rattle.hg_store.specs.Calls.{Event, state_from}
use Rattle.hg_store.specs.declared.head.Head.{Head}
use Rattle.hg_store.specs.declared.head.Version.{Version}
use Rattle.hg_store.specs.Entries.{Entry}
use Rattle.hg_store.specs.Files.{digest_behind, stored}
use Rattle.hg_store.specs.Head.{version_of}

-- A new file: the calls on it, the newest first, and how many bytes were written to it.
pub record Filled : Type 0 where
  pub calls : List Event
  pub end : ℕ

-- none of the calls gave the file a name: those that do have the number 5, and no other of a file a greater one
abbrev pub IsUnplaced : List Event → Type 0
IsUnplaced [] = ⊤
IsUnplaced (call ∷ earlier) = (call.0 < 5) × IsUnplaced earlier

-- The file has these bytes, whatever it held before the calls on it. None of these failed, and none gave it a name.
pub record IsFilled (bytes : List ℕ) (file : Filled) : Type 0 where
  pub sound : (held : List ℕ) → (state_from held file.calls).failed ≡ false
  pub seen : (held : List ℕ) → (state_from held file.calls).seen ≡ bytes
  pub unplaced : IsUnplaced file.calls
  pub end_is : file.end ≡ length bytes

-- whatever the file has, it gets these bytes after it
abbrev pub FillsMore : Filled → Filled → List ℕ → Type 0
FillsMore before after bytes = (so_far : List ℕ) → IsFilled so_far before → IsFilled (so_far ++ bytes) after

-- A new store: its file, and the digest after which its next record stands.
pub record StoreFilled : Type 0 where
  pub file : Filled
  pub digest : List ℕ

-- The new store has this head and these records, and no gate after them.
pub record HasRecords (head : Head) (records : List Entry) (store : StoreFilled) : Type 0 where
  pub filled : IsFilled (stored head records) store.file
  pub digest_is : store.digest ≡ digest_behind head records

-- whatever records of that version the store has, it gets this one after them
abbrev pub AddsRecord : Version → Entry → StoreFilled → StoreFilled → Type 0
AddsRecord version entry before after = (head : Head) (records : List Entry) → version ≡ version_of head →
    HasRecords head records before → HasRecords head (records ++ entry ∷ []) after
