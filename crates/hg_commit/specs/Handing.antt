-- How records go from their pushes to the device: each is handed in, waits, comes into a batch, and is written.
use Rattle.std.specs.Prelude.{ℕ, ◌≡◌, ◌≢◌, ◌⊎◌, ◌≤◌, ◌+◌, List, [], ◌∷◌, ◌++◌, length, sum_by}
use Rattle.hg_store.specs.Entries.{Entry}
use Rattle.hg_commit.specs.Locks.{DiskView}
use Rattle.hg_commit.specs.declared.waiting.Record.{Record}

-- in the other order
abbrev pub backwards : {X : Type 0} → List X → List X
backwards [] = []
backwards (first ∷ others) = backwards others ++ first ∷ []

-- what they are to write
abbrev pub entries_of : {A : Type 0} → List (Record A) → List Entry
entries_of [] = []
entries_of (first ∷ others) = first.entry ∷ entries_of others

-- The last ones of those that waited wait no more. They are at the end of the batch, the last one first.
pub record MovesTo {A : Type 0} (waiting : List (Record A)) (batch : List Entry) (left : List (Record A))
    (now : List Entry) : Type 0 where
  pub gone : List (Record A)
  pub was : waiting ≡ left ++ backwards gone
  pub is : now ≡ batch ++ entries_of gone

-- how many bytes a record has in a file: its gate, its numbers and its digest are 34, and its name and its bundle follow
abbrev pub record_bytes : Entry → ℕ
record_bytes entry = 34 + length entry.stamp.name + length entry.bundle

-- how many bytes those of a batch have
abbrev pub batch_bytes : List Entry → ℕ
batch_bytes batch = sum_by record_bytes batch

-- The record may come into the batch: it has none yet, or all of them together have so many bytes at most.
abbrev pub Fits : ℕ → List Entry → Entry → Type 0
Fits bytes batch entry = (batch ≡ []) ⊎ (batch_bytes batch + record_bytes entry ≤ bytes)

-- The batch takes no record: there are as many as are numbered, or it has as many as one may, or it has no room.
abbrev pub IsFull : {A D : Type 0} → ℕ → ℕ → DiskView A D → Type 0
IsFull most records disk = (most ≤ disk.count) ⊎ ((records ≤ length disk.batch) ⊎ (disk.room ≡ 0))

-- of the last one, if there is one
abbrev pub IfLast : {X : Type 0} → (X → Type 0) → List X → Type 0
IfLast {X} P xs = (others : List X) (last : X) → xs ≡ others ++ last ∷ [] → P last

-- The record may not come into the batch: it is of another place than that, or has too many bytes beside the others.
abbrev pub Stays : {A : Type 0} → ℕ → ℕ → List Entry → Record A → Type 0
Stays bytes place batch waits = (waits.place ≢ place) ⊎ (¬ (Fits bytes batch waits.entry))

-- No record came into the batch. Or it has so many at most, and it has one alone, or all of them together have so many
-- bytes at most.
abbrev pub IsWithin : ℕ → ℕ → List Entry → List Entry → Type 0
IsWithin records bytes batch now =
    (now ≡ batch) ⊎ ((length now ≤ records) × ((length now ≤ 1) ⊎ (batch_bytes now ≤ bytes)))

-- No further record may come into the batch: it is full, or the next one of those that wait, if there is one, may not.
abbrev pub TakesNoMore : {A D : Type 0} → ℕ → ℕ → ℕ → DiskView A D → List (Record A) → Type 0
TakesNoMore most records bytes disk waiting =
    IsFull most records disk ⊎ IfLast (Stays bytes (disk.count + length disk.batch) disk.batch) waiting
