-- Where the bytes of a short list stand.
use Rattle.std.specs.Prelude.{ℕ, List, [], ◌∷◌, take}

-- so many of those here, where there are none far
abbrev pub bytes_in : ℕ → List ℕ → List ℕ → List ℕ
bytes_in count here [] = take count here
bytes_in count here (byte ∷ bytes) = byte ∷ bytes
