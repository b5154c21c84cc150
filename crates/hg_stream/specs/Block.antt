-- A block of bytes after its size, and what a reader of one has taken.
use Rattle.std.specs.Prelude.{◌≡◌, ℕ, ◌+◌, ◌<◌, ◌≤◌, ◌^◌, pos, negsuc, List, [], ◌++◌, length, ◌⊎◌}
use Rattle.hg_chunks.specs.Size.{size_bytes}
use Rattle.hg_chunks.specs.Payload.{closing}
use Rattle.hg_stream.specs.declared.block.BlockStep.{BlockStep}
use Rattle.hg_stream.specs.declared.block.BlockStep.TheVariants.{More, Nothing, Whole}
use Rattle.hg_stream.specs.declared.block.BlockFault.{BlockFault}
use Rattle.hg_stream.specs.declared.block.BlockFault.TheVariants.{Negative, TooLarge, NoMemory}
use Rattle.hg_stream.specs.declared.block.Awaits.{Awaits}
use Rattle.hg_stream.specs.declared.block.Awaits.TheVariants as awaits
use Rattle.hg_stream.specs.declared.block.BlockIn.{BlockIn}

-- a block after its size
abbrev pub sized : List ℕ → List ℕ
sized block = size_bytes (pos (length block)) ++ block

-- a block that is not empty, of at most so many bytes
abbrev pub IsBlock : ℕ → List ℕ → Type 0
IsBlock most block = (0 < length block) × (length block ≤ most) × (length block < 2 ^ 31)

-- the size of a block that is allowed, and less than the block
pub record IsPartBlock (most : ℕ) (rest : List ℕ) (size : ℕ) (part : List ℕ) : Type 0 where
  pub positive : 0 < size
  pub allowed : size ≤ most
  pub small : size < 2 ^ 31
  pub less : length part < size
  pub spelled : rest ≡ size_bytes (pos size) ++ part

-- less than a size, or a size that is allowed and less than its block
abbrev pub IsPartialBlock : ℕ → List ℕ → Type 0
IsPartialBlock most rest = (length rest < 4)
    ⊎ ((size : ℕ) × (part : List ℕ) × IsPartBlock most rest size part)

-- a negative size
abbrev pub IsNegativeSize : List ℕ → Type 0
IsNegativeSize rest = (size : ℕ) × (size < 2 ^ 31) × (rest ≡ size_bytes (negsuc size))

-- the size of a block that is too large
abbrev pub IsOversize : ℕ → List ℕ → Type 0
IsOversize most rest = (size : ℕ) × (most < size) × (size < 2 ^ 31) × (rest ≡ size_bytes (pos size))

-- ---- the reader

-- inside a block of which `left` bytes are still to come
pub record IsInBlock (most : ℕ) (rest block : List ℕ) (left : ℕ) : Type 0 where
  pub positive : 0 < left
  pub allowed : length block + left ≤ most
  pub small : length block + left < 2 ^ 31
  pub spelled : rest ≡ size_bytes (pos (length block + left)) ++ block

-- by what it waits for: the size's bytes, the block's bytes
abbrev pub HoldsAt : Awaits → ℕ → List ℕ → List ℕ → List ℕ → Type 0
HoldsAt awaits.Size most size block rest = (rest ≡ size) × (length size < 4) × (block ≡ [])
HoldsAt (awaits.Data left) most size block rest = (size ≡ []) × IsInBlock most rest block left.bytes

-- the reader took `rest`, which is no whole block yet
abbrev pub HoldsBlock : {A : Type 0} → BlockIn A → List ℕ → Type 0
HoldsBlock b rest = HoldsAt b.awaits b.most b.size b.block.items rest

-- what it has taken where it stopped
abbrev pub BlockStops : {A : Type 0} → BlockStep → BlockIn A → List ℕ → Type 0
BlockStops More b rest = HoldsBlock b rest
BlockStops Nothing b rest = rest ≡ closing
BlockStops Whole b rest = IsBlock b.most b.block.items × (rest ≡ sized b.block.items)

-- what it has taken where it failed
abbrev pub BlockFails : BlockFault → ℕ → List ℕ → Type 0
BlockFails Negative most rest = IsNegativeSize rest
BlockFails TooLarge most rest = IsOversize most rest
BlockFails NoMemory most rest = IsPartialBlock most rest
