-- The payload of a part: a list of chunks and interruptions, closed by a size of 0.
use Rattle.std.specs.Prelude.{◌≡◌, ℕ, ◌+◌, ◌<◌, ◌≤◌, ◌^◌, pos, negsuc, List, [], ◌∷◌, ◌++◌, length, ◌⊎◌}
use Rattle.std.specs.List.{flat_map, AllByRecursion}
use Rattle.hg_chunks.specs.Size.{size_bytes}

-- ---- the grammar

-- one chunk: its size, and its data
abbrev pub chunk_bytes : List ℕ → List ℕ
chunk_bytes chunk = size_bytes (pos (length chunk)) ++ chunk

-- at least one byte, and fewer than 2^31
abbrev pub IsChunk : List ℕ → Type 0
IsChunk chunk = (0 < length chunk) × (length chunk < 2 ^ 31)

-- a size of -1
abbrev pub interruption : List ℕ
interruption = size_bytes (negsuc 0)

-- a size of 0
abbrev pub closing : List ℕ
closing = size_bytes (pos 0)

-- a chunk, or the size that says that other parts come first
pub data Item : Type 0 where
  Chunk : List ℕ → Item
  Interruption : Item

-- the bytes of an item
abbrev pub item_bytes : Item → List ℕ
item_bytes (Chunk chunk) = chunk_bytes chunk
item_bytes Interruption = interruption

-- an item that can be written: its chunk is one
abbrev pub IsItem : Item → Type 0
IsItem (Chunk chunk) = IsChunk chunk
IsItem Interruption = Unit {0}

-- the data of one item
abbrev pub item_data : Item → List ℕ
item_data (Chunk chunk) = chunk
item_data Interruption = []

-- the bytes are a whole payload with that data
pub record IsPayload (bytes joined : List ℕ) : Type 0 where
  pub items : List Item
  pub each : AllByRecursion IsItem items
  pub spelled : bytes ≡ flat_map item_bytes items ++ closing
  pub joins : joined ≡ flat_map item_data items

-- ---- what stands where no whole item does: `rest`, after items with the data `whole`, at a limit

-- part of a size
abbrev pub IsPartialSize : List ℕ → Type 0
IsPartialSize rest = length rest < 4

-- the size of a chunk that is allowed, and less than its data
pub record IsPartialChunk (limit : ℕ) (whole rest : List ℕ) : Type 0 where
  pub size : ℕ
  pub part : List ℕ
  pub positive : 0 < size
  pub small : size < 2 ^ 31
  pub allowed : length whole + size ≤ limit
  pub spelled : rest ≡ size_bytes (pos size) ++ part
  pub less : length part < size

-- it may still go on
abbrev pub IsOpen : ℕ → List ℕ → List ℕ → Type 0
IsOpen limit whole rest = IsPartialSize rest ⊎ IsPartialChunk limit whole rest

-- a negative size that is not -1
pub record IsBadSize (rest : List ℕ) : Type 0 where
  pub size : ℕ
  pub spelled : rest ≡ size_bytes (negsuc (size + 1))
  pub small : size + 1 < 2 ^ 31

-- the size of a chunk that passes the limit
pub record IsTooLarge (limit : ℕ) (whole rest : List ℕ) : Type 0 where
  pub size : ℕ
  pub positive : 0 < size
  pub small : size < 2 ^ 31
  pub passes : limit < length whole + size
  pub spelled : rest ≡ size_bytes (pos size)

-- the payload that a writer makes of that data: one chunk, where there is any
abbrev pub payload_bytes : List ℕ → List ℕ
payload_bytes [] = closing
payload_bytes (byte ∷ bytes) = chunk_bytes (byte ∷ bytes) ++ closing
