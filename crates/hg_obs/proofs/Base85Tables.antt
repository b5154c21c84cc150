-- The two tables of the code are the digits.
use Rattle.std.proofs.Common.{◌≡◌, ◌+◌, ◌<◌, ◌≤◌, ◌==◌, ℕ, zero, suc, Bool, true, false, not, cond, List, []}
use Rattle.std.proofs.Common.{◌∷◌, length, map, get_or, refl, sym, ap, ◌∙◌, arith}
use Rattle.std.specs.List.{prefix_len}
use Rattle.std.proofs.lemmas.List.{get_or-map}
use Rattle.hg_obs.specs.declared.base85.TheConstants.{VALUES}
use Rattle.hg_obs.specs.Base85.{all_digits, place_of, digit_value, digit_at}

-- so many numbers from the first on
counted : ℕ → ℕ → List ℕ
counted zero first = []
counted (suc count) first = first ∷ counted count (first + 1)

counted_at : (count first i : ℕ) → i < count → get_or (counted count first) i 0 ≡ first + i
unfolding counted
counted_at zero first i less = absurd (omega arith)
counted_at (suc count) first zero less = omega arith
counted_at (suc count) first (suc i) less = counted_at count (first + 1) i (omega arith) ∙ omega arith

counted_length : (count first : ℕ) → length (counted count first) ≡ count
unfolding counted
counted_length zero first = refl
counted_length (suc count) first = ap suc (counted_length count (first + 1))

values_table : VALUES ≡ map place_of (counted 256 0)
unfolding counted
values_table = refl

digits_table : map place_of all_digits ≡ counted 85 0
unfolding counted
digits_table = refl

-- the table of values has the value of each byte
pub value_at : (byte : ℕ) → byte < 256 → get_or VALUES byte 0 ≡ digit_value byte
unfolding digit_value
value_at byte less =
    let len : byte < length (counted 256 0) = omega (arith, counted_length 256 0) in
    ap (λ (values : List ℕ). get_or values byte 0) values_table
    ∙ get_or-map place_of (counted 256 0) byte 0 0 len
    ∙ ap place_of (counted_at 256 0 byte less ∙ omega arith)

-- the digit of a value has that value
pub digit_back : (value : ℕ) → value < 85 → digit_value (digit_at value) ≡ value
unfolding digit_value digit_at
digit_back value less = sym (get_or-map place_of all_digits value 0 0 less)
    ∙ ap (λ (values : List ℕ). get_or values value 0) digits_table ∙ counted_at 85 0 value less ∙ omega arith

prefix_at_most : (p : ℕ → Bool) (xs : List ℕ) → prefix_len p xs ≤ length xs
prefix_at_most p [] = omega arith
prefix_at_most p (x ∷ xs) = by (p x) (prefix_at_most p xs)
  where
    by : (b : Bool) → prefix_len p xs ≤ length xs → cond b (1 + prefix_len p xs) 0 ≤ suc (length xs)
    by true h = omega arith
    by false h = omega arith

pub value_small : (byte : ℕ) → digit_value byte ≤ 85
unfolding digit_value
value_small byte = prefix_at_most (λ digit. not (digit == byte)) all_digits

-- `~` is the greatest digit
pub tilde : digit_value 126 ≡ 84
unfolding digit_value
tilde = refl
