-- Chunks, and what may be wrong with one.
use Rattle.std.specs.Prelude.{◌≡◌, ◌⊎◌, ℕ, ℤ, pos, negsuc, ◌≤◌, ◌<◌, ◌+◌, ◌^◌, List, ◌++◌, length}
use Rattle.std.specs.List.{AllByRecursion, flat_map}
use Rattle.std.specs.Int.{w32, to_be_bytes, cast_unsigned}
use Rattle.hg_cgroup.specs.declared.fault.GroupFault.{GroupFault}
use Rattle.hg_cgroup.specs.declared.fault.GroupFault.TheVariants.{UnknownVersion, BadLength, ShortHeader}
use Rattle.hg_cgroup.specs.declared.fault.GroupFault.TheVariants.{Truncated, Leftover, NoMemory}

-- a signed number of 32 bits, its most significant byte first
unfoldable pub length_bytes : ℤ → List ℕ
length_bytes n = to_be_bytes w32 (cast_unsigned w32 n)

-- what fits into a chunk: at least one byte, and the length, which counts its own four, below 2 ^ 31
pub record IsContent (content : List ℕ) : Type 0 where
  pub some : 0 < length content
  pub fits : length content + 4 < 2 ^ 31

-- the length, which counts its own four bytes, and the content
abbrev pub chunk_bytes : List ℕ → List ℕ
chunk_bytes content = length_bytes (pos (length content + 4)) ++ content

-- the length 0, which ends a group
abbrev pub empty_chunk : List ℕ
empty_chunk = length_bytes (pos 0)

-- whole chunks, one after the other, and then that rest
pub record AreChunks (bytes : List ℕ) (chunks : List (List ℕ)) (rest : List ℕ) : Type 0 where
  pub each : AllByRecursion IsContent chunks
  pub spelled : bytes ≡ flat_map chunk_bytes chunks ++ rest

-- The bytes `rest` stand where a chunk is wanted, with a content of at least so many bytes. What is wrong is:
-- The length is 1 to 4, or negative.
pub record HasBadLength (rest : List ℕ) : Type 0 where
  pub size : ℤ
  pub more : List ℕ
  pub bad : ((n : ℕ) × (0 < n) × (n ≤ 4) × (size ≡ pos n)) ⊎ ((n : ℕ) × (n < 2 ^ 31) × (size ≡ negsuc n))
  pub spelled : rest ≡ length_bytes size ++ more

-- The length gives a content that is less than the least.
pub record HasShortContent (least : ℕ) (rest : List ℕ) : Type 0 where
  pub wanted : ℕ
  pub more : List ℕ
  pub some : 0 < wanted
  pub short : wanted < least
  pub fits : wanted + 4 < 2 ^ 31
  pub spelled : rest ≡ length_bytes (pos (wanted + 4)) ++ more

-- The bytes end inside the content.
pub record EndsInContent (least : ℕ) (rest : List ℕ) : Type 0 where
  pub wanted : ℕ
  pub more : List ℕ
  pub some : 0 < wanted
  pub enough : least ≤ wanted
  pub fits : wanted + 4 < 2 ^ 31
  pub less : length more < wanted
  pub spelled : rest ≡ length_bytes (pos (wanted + 4)) ++ more

-- The bytes end inside the length, or inside the content.
abbrev pub EndsEarly : ℕ → List ℕ → Type 0
EndsEarly least rest = (length rest < 4) ⊎ EndsInContent least rest

-- which fault stands at the front of the rest
abbrev pub IsChunkFault : GroupFault → ℕ → List ℕ → Type 0
IsChunkFault UnknownVersion least rest = ⊥
IsChunkFault BadLength least rest = HasBadLength rest
IsChunkFault ShortHeader least rest = HasShortContent least rest
IsChunkFault Truncated least rest = EndsEarly least rest
IsChunkFault Leftover least rest = ⊥
IsChunkFault NoMemory least rest = ⊥
