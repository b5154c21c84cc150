-- The reader of a body: what it reports.
use Rattle.std.specs.Prelude.{ℕ, List, map, take, drop, Some}
use Rattle.hg_connection.specs.Devices.{Input, ReadAnswer, Gave}

-- its bytes, how many of them were read, and of each read where it began and how many bytes it gave
pub record BodyView : Type 0 where
  pub bytes : List ℕ
  pub at : ℕ
  pub reads : List (ℕ × ℕ)

abbrev pub given : List ℕ → ℕ × ℕ → ReadAnswer
given bytes read = Gave (take read.1 (drop read.0 bytes))

abbrev pub input_of : BodyView → Input
input_of b = record { left = Some (drop b.at b.bytes); reads = Some (map (given b.bytes) b.reads) }
