-- The blocks of a message with its padding.
use Rattle.std.specs.Prelude.{ℕ, List, ◌+◌, ◌*◌, ◌/◌, ◌%◌, ◌^◌, take, drop}
use Rattle.std.specs.Int.{w64, to_be_bytes}
use Rattle.sha1.specs.Sha1.{padded_message}

-- how many blocks a message of that length has
abbrev pub count_of : ℕ → ℕ
count_of size = (size + 72) / 64

-- block k of a message
abbrev pub block_of : List ℕ → ℕ → List ℕ
block_of message k = take 64 (drop (k * 64) (padded_message message))

-- the end of the padding: the length in bits, as 8 bytes
abbrev pub bits_of : ℕ → List ℕ
bits_of size = to_be_bytes w64 (size * 8 % 2 ^ 64)
