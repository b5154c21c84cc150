-- The bytes that a record is made of.
use Rattle.std.specs.Prelude.{ℕ, List}
use Rattle.hg_durable.specs.declared.record.Held.{Held}
use Rattle.hg_durable.specs.declared.record.Held.TheVariants.{Own, Shared}

-- the bytes that are held
abbrev pub bytes_of : {A : Type 0} → Held A → List ℕ
bytes_of (Own bytes) = bytes
bytes_of (Shared bytes) = bytes
