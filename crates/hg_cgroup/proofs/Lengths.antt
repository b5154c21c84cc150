-- Signed numbers of 32 bits as four bytes.
use Rattle.std.proofs.Common.{rules, ◌≡◌, ℕ, ◌^◌, ◌<◌, ◌≤◌, List, ◌++◌, length, get_or, take, drop, refl, sym}
use Rattle.std.proofs.Common.{ap, subst, ◌∙◌, arith, inl, inr}
use Rattle.std.specs.Prelude.{ℤ, pos, negsuc}
use Rattle.std.specs.Int.{w32, from_be_bytes, cast_signed, cast_unsigned}
use Rattle.std.specs.Int.RustNames.{FitsSigned}
use Rattle.std.proofs.lemmas.Bool.{cases_lt}
use Rattle.std.proofs.lemmas.Int.{ints, of_z-to_z, to_z-of_z}
use Rattle.std.proofs.lemmas.List.{take-append-drop, take_at, drop_at, length-take, get_or-take, get_or_past}
use Rattle.std.proofs.lemmas.Nat.{be_bytes_4, from_be_bytes-to_be_bytes_4}
use Rattle.std.proofs.Math.Facts.{sfits_to_z}
use Rattle.hg_cgroup.specs.Chunk.{length_bytes}

pub length-length_bytes : (n : ℤ) → length (length_bytes n) ≡ 4
unfolding length_bytes
length-length_bytes n = refl

taken_fits : (bytes : List ℕ) → ((i : ℕ) → get_or bytes i 0 < 256) → (i : ℕ) → get_or (take 4 bytes) i 0 < 256
taken_fits bytes fits i =
    elim (cases_lt i 4) [
      | inl lt ↦ rw (get_or-take 4 bytes i 0 lt) (fits i)
      | inr le ↦ rw (get_or_past (take 4 bytes) i 0 (omega (arith, length-take 4 bytes))) (omega arith)
    ]

four_bytes : (bytes : List ℕ) → ((i : ℕ) → get_or bytes i 0 < 256) → from_be_bytes w32 (take 4 bytes) < 2 ^ 32
four_bytes bytes fits = omega (
  arith,
  taken_fits bytes fits 0,
  taken_fits bytes fits 1,
  taken_fits bytes fits 2,
  taken_fits bytes fits 3,
)

-- the first four bytes are those of their number
pub length_is : (bytes : List ℕ) (n : ℤ) → ((i : ℕ) → get_or bytes i 0 < 256) → 4 ≤ length bytes
    → n ≡ cast_signed w32 (from_be_bytes w32 (take 4 bytes)) → bytes ≡ length_bytes n ++ drop 4 bytes
unfolding length_bytes
length_is bytes n fits long is =
    let number = from_be_bytes w32 (take 4 bytes) in
    let same : cast_unsigned w32 n ≡ number = ap (cast_unsigned w32) is
    ∙ of_z-to_z w32 number (four_bytes bytes fits) in
    let front = be_bytes_4 (take 4 bytes) (cast_unsigned w32 n) (omega (arith, length-take 4 bytes))
    (taken_fits bytes fits) same in
    sym (ap (λ (x : List ℕ). x ++ drop 4 bytes) front ∙ take-append-drop 4 bytes)

fits_unsigned : (z : ℤ) → FitsSigned w32 z → cast_unsigned w32 z < 2 ^ 32
fits_unsigned (pos n) fits = omega (arith, ints)
fits_unsigned (negsuc n) fits = omega (arith, ints)

-- equal lists have equal fronts of one length
pub fronts : (a b x y : List ℕ) → length a ≡ length b → a ++ x ≡ b ++ y → (a ≡ b) × (x ≡ y)
fronts a b x y len same = (
  sym (take_at a x (length b) len) ∙ (ap (take (length b)) same ∙ take_at b y (length b) refl),
  sym (drop_at a x (length b) len) ∙ (ap (drop (length b)) same ∙ drop_at b y (length b) refl),
)

-- a length has one spelling
length_once : (m n : ℤ) → FitsSigned w32 m → FitsSigned w32 n → length_bytes m ≡ length_bytes n → m ≡ n
unfolding length_bytes
length_once m n fits_m fits_n same =
    let unsigned : cast_unsigned w32 m ≡ cast_unsigned w32 n =
    sym (from_be_bytes-to_be_bytes_4 (cast_unsigned w32 m) (fits_unsigned m fits_m))
    ∙ (ap (from_be_bytes w32) same
    ∙ from_be_bytes-to_be_bytes_4 (cast_unsigned w32 n) (fits_unsigned n fits_n)) in
    sym (to_z-of_z w32 m fits_m) ∙ (ap (cast_signed w32) unsigned ∙ to_z-of_z w32 n fits_n)

-- one length, and what follows it
pub length_first : (m n : ℤ) (x y : List ℕ) → FitsSigned w32 m → FitsSigned w32 n → length_bytes m
    ++ x ≡ length_bytes n ++ y → (m ≡ n) × (x ≡ y)
length_first m n x y fits_m fits_n same =
    let both = fronts (length_bytes m) (length_bytes n) x y (length-length_bytes m
    ∙ sym (length-length_bytes n)) same in
    (length_once m n fits_m fits_n both.0, both.1)

-- such a number is signed
pub length_fits : (bytes : List ℕ) (n : ℤ) → ((i : ℕ) → get_or bytes i 0 < 256)
    → n ≡ cast_signed w32 (from_be_bytes w32 (take 4 bytes)) → FitsSigned w32 n
length_fits bytes n fits is =
    subst (FitsSigned w32) (sym is)
    (sfits_to_z {w = w32} {n = from_be_bytes w32 (take 4 bytes)} (let below = four_bytes bytes fits in
    search rules))
