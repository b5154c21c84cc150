-- How any bytes are read as the items of a payload, whether or not they are a whole one.
use Rattle.std.specs.Prelude.{◌≡◌, ℕ, ◌<◌, ◌^◌, pos, negsuc, List, ◌++◌, length}
use Rattle.std.specs.List.{flat_map, AllByRecursion}
use Rattle.hg_chunks.specs.Size.{size_bytes}
use Rattle.hg_chunks.specs.Payload.{Item, item_bytes, IsItem, closing, IsPartialSize}

-- no whole item stands at its front: there is less than a size, or less than a chunk, or the closing size, or
-- a negative size that is not -1
pub data IsStopped (rest : List ℕ) : Type 0 where
  partial_size : IsPartialSize rest → IsStopped rest
  partial_chunk : (size : ℕ) (part : List ℕ) → size < 2 ^ 31 → rest ≡ size_bytes (pos size) ++ part →
      length part < size → IsStopped rest
  closes : (more : List ℕ) → rest ≡ closing ++ more → IsStopped rest
  bad_size : (size : ℕ) (more : List ℕ) → 0 < size → size < 2 ^ 31 → rest ≡ size_bytes (negsuc size) ++ more →
      IsStopped rest

-- the bytes are these items and then `rest`, which begins with no whole item
pub record ReadsItems (bytes : List ℕ) (items : List Item) (rest : List ℕ) : Type 0 where
  pub each : AllByRecursion IsItem items
  pub stopped : IsStopped rest
  pub spelled : bytes ≡ flat_map item_bytes items ++ rest
