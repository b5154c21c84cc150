-- How numbers are written.
use Rattle.std.specs.Prelude.{ℕ, ◌/◌, ◌%◌, List, ◌++◌, codes, decimal}

-- three digits, of a number below 1,000
abbrev pub three_digits : ℕ → List ℕ
three_digits n = decimal (n / 100) ++ (decimal (n / 10 % 10) ++ decimal (n % 10))

-- microseconds as milliseconds
abbrev pub millis : ℕ → List ℕ
millis micros = decimal (micros / 1000) ++ (codes "." ++ three_digits (micros % 1000))

-- microseconds as seconds
abbrev pub seconds : ℕ → List ℕ
seconds micros = decimal (micros / 1000000)
    ++ (codes "." ++ (three_digits (micros / 1000 % 1000) ++ three_digits (micros % 1000)))
