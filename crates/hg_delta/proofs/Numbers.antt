-- Numbers of 32 bits as four bytes.
use Rattle.std.proofs.Common.{◌≡◌, ℕ, ◌^◌, ◌<◌, ◌≤◌, List, ◌++◌, length, get_or, take, drop, refl, sym, ap}
use Rattle.std.proofs.Common.{◌∙◌, arith, inl, inr}
use Rattle.std.specs.Int.{w32, from_be_bytes}
use Rattle.std.proofs.lemmas.Bool.{cases_lt}
use Rattle.std.proofs.lemmas.List.{take-append-drop, length-take, get_or-take, get_or_past}
use Rattle.std.proofs.lemmas.Nat.{be_bytes_4, from_be_bytes-to_be_bytes_4}
use Rattle.hg_delta.specs.Delta.{number_bytes, header}

pub length-number : (n : ℕ) → length (number_bytes n) ≡ 4
unfolding number_bytes
length-number n = refl

pub length-header : (start end size : ℕ) → length (header start end size) ≡ 12
unfolding number_bytes
length-header start end size = refl

pub taken_fits : (bytes : List ℕ) → ((i : ℕ) → get_or bytes i 0 < 256) → (i : ℕ)
    → get_or (take 4 bytes) i 0 < 256
taken_fits bytes fits i =
    elim (cases_lt i 4) [
      | inl lt ↦ rw (get_or-take 4 bytes i 0 lt) (fits i)
      | inr le ↦ rw (get_or_past (take 4 bytes) i 0 (omega (arith, length-take 4 bytes))) (omega arith)
    ]

-- the first four bytes are those of their number
pub number_is : (bytes : List ℕ) (n : ℕ) → ((i : ℕ) → get_or bytes i 0 < 256) → 4 ≤ length bytes
    → n ≡ from_be_bytes w32 (take 4 bytes) → bytes ≡ number_bytes n ++ drop 4 bytes
unfolding number_bytes
number_is bytes n fits long is =
    let front = be_bytes_4 (take 4 bytes) n (omega (arith, length-take 4 bytes)) (taken_fits bytes fits) is in
    sym (ap (λ (x : List ℕ). x ++ drop 4 bytes) front ∙ take-append-drop 4 bytes)

-- a number has one spelling
pub number_once : (m n : ℕ) → m < 2 ^ 32 → n < 2 ^ 32 → number_bytes m ≡ number_bytes n → m ≡ n
unfolding number_bytes
number_once m n fits_m fits_n same = sym (from_be_bytes-to_be_bytes_4 m fits_m)
    ∙ (ap (from_be_bytes w32) same ∙ from_be_bytes-to_be_bytes_4 n fits_n)
