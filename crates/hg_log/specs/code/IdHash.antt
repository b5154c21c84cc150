-- How ids are hashed for their look-up.
use Rattle.std.specs.Prelude.{ℕ, ◌+◌, ◌*◌, ◌/◌, ◌%◌, ◌^◌, List, take, length, nat_le, fold, if◌then◌else◌}
use Rattle.std.specs.Prelude.{bit_or}
use Rattle.std.specs.Hash as fed
use Rattle.std.specs.Hash.DefaultHasher.{write, finish}
use Rattle.std.specs.Int.{w64, from_le_bytes}
use Rattle.std.specs.RandomState.{initial_hasher}
use Rattle.std.specs.declared.random_state.RandomState.{RandomState}
use Rattle.hg_log.specs.declared.id_hash.IdHasher.{IdHasher}
use Rattle.hg_log.specs.declared.id_hash.IdKeys.{IdKeys}

-- two halves as one number
abbrev pub joined : ℕ → ℕ → ℕ
joined high low = bit_or ((high * 2 ^ 64) % 2 ^ 128) low

-- what a random state hashes a number to
abbrev pub random_word : RandomState → ℕ → ℕ
random_word state n = finish (fold write (initial_hasher state) (fed.u64 n))

-- the keys that a random state gives
abbrev pub keys_of : RandomState → IdKeys
keys_of state = record {
  factor = joined (random_word state 0) (random_word state 1);
  first = joined (random_word state 2) (random_word state 3);
}

-- the first eight bytes as a number
abbrev pub word_of : List ℕ → ℕ
word_of bytes = if nat_le 8 (length bytes) then from_le_bytes w64 (take 8 bytes) else 0

-- the sum with so many times the factor, modulo 2 ^ 128
abbrev pub added : IdHasher → ℕ → IdHasher
added hasher word = record hasher { sum = (hasher.sum + (hasher.factor * word) % 2 ^ 128) % 2 ^ 128 }

-- the high 64 of 128 bits
abbrev pub high_half : ℕ → ℕ
high_half sum = sum / 2 ^ 64
