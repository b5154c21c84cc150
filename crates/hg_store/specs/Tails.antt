-- What stands after the last whole record of a store, and where it is kept.
use Rattle.std.specs.Prelude.{ℕ, zero, suc, ◌≡◌, ◌⊎◌, ◌+◌, ◌≤◌, ◌<◌, ◌^◌, ◌==◌, Bool, true, List, [], ◌∷◌, if◌then◌else◌, length, ⊤}
use Rattle.std.specs.List.{list_all}
use Rattle.hg_store.specs.Calls.{Continue, Event, LeftSince, began, tail_kept}
use Rattle.hg_store.specs.Device.{LeavesOnly}
use Rattle.hg_store.specs.Entries.{Entry}
use Rattle.hg_store.specs.Files.{IsStore, digest_behind}
use Rattle.hg_store.specs.Head.{version_of}
use Rattle.hg_store.specs.Records.{IsNext, digest_of, frame, open_gate}
use Rattle.hg_store.specs.declared.head.Head.{Head}
use Rattle.hg_store.specs.declared.head.Version.{Version}
use Rattle.hg_store.specs.declared.tail.TailFault.{TailFault}
use Rattle.hg_store.specs.declared.tail.TailFault.TheVariants.{Hidden, Unkept, NoMemory}

-- every byte is 0, as where a file became longer and nothing was written there
abbrev pub is_blank : List ℕ → Bool
is_blank bytes = list_all (λ byte. byte == 0) bytes

-- a batch of so many records, with so many bytes after the first of them, takes no more
abbrev pub IsFull : ℕ → ℕ → Type 0
IsFull count beyond = (64 ≤ count) ⊎ (2 ^ 24 < beyond)

-- the bytes after the first record of a batch, with a record of that size more
abbrev pub beyond_with : ℕ → ℕ → ℕ → ℕ
beyond_with zero beyond size = beyond
beyond_with (suc count) beyond size = beyond + size

-- Records stand one after the other, each behind a gate of any value, the first after that digest: behind so many of
-- a batch, with so many bytes after its first. One of them stands where the batch takes no more.
abbrev pub PassesBatch : Version → List ℕ → ℕ → ℕ → List Entry → List ℕ → Type 0
PassesBatch version before count beyond [] bytes = ⊥
PassesBatch version before count beyond (first ∷ others) bytes =
    (gate : ℕ) × (behind : List ℕ) × (after : List ℕ) × (bytes ≡ gate ∷ behind)
    × IsNext version before (open_gate version ∷ behind) first after (digest_of version before first)
    × (IsFull count beyond
    ⊎ PassesBatch version (digest_of version before first) (count + 1)
    (beyond_with count beyond (length (frame version before first))) others after)

-- more records stand there than one batch holds
abbrev pub HidesRecords : Version → List ℕ → List ℕ → Type 0
HidesRecords version before tail = (hidden : List Entry) × PassesBatch version before 0 0 hidden tail

-- After so many whole records stand more than one batch holds, and the gate of the first is not open.
pub record IsHidingStore (file : List ℕ) (whole : ℕ) : Type 0 where
  pub head : Head
  pub records : List Entry
  pub tail : List ℕ
  pub store : IsStore file head records tail
  pub count : whole ≡ length records
  pub hides : HidesRecords (version_of head) (digest_behind head records) tail

-- why a store is not opened for what stands after its whole records, by the fault that is reported
abbrev pub IsTailRefused : TailFault → List ℕ → Type 0
IsTailRefused (Hidden whole) file = IsHidingStore file whole
IsTailRefused Unkept file = ⊤
IsTailRefused NoMemory file = ⊤

-- what was done in a folder, of which the newest comes first: last a tail was kept that stood after so many records
abbrev pub IsKept : ℕ → List ℕ → List Event → Type 0
IsKept place tail done = (earlier : List Event) × (done ≡ tail_kept place tail ∷ earlier)

-- how many tails were kept by what was done in a folder
abbrev pub tails_in : List Event → ℕ
tails_in [] = 0
tails_in (call ∷ earlier) = (if call.0 == 8 then 1 else 0) + tails_in earlier

-- a tail was kept, or nothing was done
abbrev pub IsKeptAtMost : List Event → List Event → Type 0
IsKeptAtMost before now =
    (now ≡ before) ⊎ ((place : ℕ) × (tail : List ℕ) × (now ≡ tail_kept place tail ∷ before))

-- What stood in a file after so many whole records is not lost: each byte of it is 0, or it was kept, or a crash
-- leaves the file as it was.
abbrev pub IsTailSafe : {D : Type 0} → (D → ℕ) → (D → ℕ → List ℕ → Type 0) → List ℕ → ℕ → List ℕ → List Event → D
    → D → Type 0
IsTailSafe moment left_since file place tail done old new =
    (is_blank tail ≡ true) ⊎ (IsKept place tail done ⊎ LeavesOnly moment left_since old new (λ left. left ≡ file))

-- No byte of a file is lost, by the calls on it before and those up to now, and by what was done in its folder. It was
-- not read; or what it had after the whole records of a store is only bytes that are 0, or was kept; or whatever a
-- crash may have left at any moment since are the bytes that were found.
abbrev pub LosesNothing : List Event → List Event → List Event → Type 0
LosesNothing before now done = (now ≡ before) ⊎ ((bytes : List ℕ) × Continue (began bytes ∷ before) now
    × ((head : Head) (records : List Entry) (tail : List ℕ) → IsStore bytes head records tail
    → (is_blank tail ≡ true) ⊎ (IsKept (length records) tail done
    ⊎ ((left : List ℕ) → LeftSince now (length before + 1) left → left ≡ bytes))))
