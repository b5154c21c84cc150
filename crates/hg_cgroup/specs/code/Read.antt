-- A chunk that was read.
use Rattle.std.specs.Prelude.{◌≡◌, ℕ, ◌≤◌, List, ◌++◌, length}
use Rattle.hg_cgroup.specs.declared.chunk.Chunk.{Chunk}
use Rattle.hg_cgroup.specs.declared.chunk.Chunk.TheVariants.{Empty, Content}
use Rattle.hg_cgroup.specs.Chunk.{IsContent, chunk_bytes, empty_chunk}

-- the bytes are that chunk, and then that rest
abbrev pub IsRead : ℕ → List ℕ → Chunk → List ℕ → Type 0
IsRead least bytes Empty rest = bytes ≡ empty_chunk ++ rest
IsRead least bytes (Content content) rest =
    (bytes ≡ chunk_bytes content.now ++ rest) × IsContent content.now × (least ≤ length content.now)
