-- Metadata, byte by byte.
use Rattle.std.specs.Prelude.{ℕ, ◌==◌, if◌then◌else◌}
use Rattle.hg_obs.specs.declared.read.Piece.{Piece}
use Rattle.hg_obs.specs.declared.read.Piece.TheVariants.{Empty, Bare, Named, Refused}

-- how metadata stands after one more byte: 0 ends a piece, 58 is a colon
abbrev pub after_byte : Piece → ℕ → Piece
after_byte Empty byte = if byte == 0 then Empty else (if byte == 58 then Named else Bare)
after_byte Bare byte = if byte == 0 then Refused else (if byte == 58 then Named else Bare)
after_byte Named byte = if byte == 0 then Empty else Named
after_byte Refused byte = Refused
