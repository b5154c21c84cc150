-- Lists of bytes that begin with sizes.
use Rattle.std.proofs.Common.{◌≡◌, ℕ, ◌<◌, ◌^◌, List, ◌++◌, length, take, drop, refl, sym, ap, ◌∙◌, arith}
use Rattle.std.specs.Prelude.{ℤ, pos, negsuc}
use Rattle.std.specs.Int.{w32, cast_signed, cast_unsigned, from_be_bytes, to_be_bytes}
use Rattle.std.specs.Int.RustNames.{FitsSigned}
use Rattle.std.proofs.lemmas.Int.{ints, to_z-of_z}
use Rattle.std.proofs.lemmas.Nat.{from_be_bytes-to_be_bytes_4}
use Rattle.std.proofs.lemmas.List.{take_at, drop_at}
use Rattle.hg_chunks.specs.Size.{size_bytes}

-- Of two equal lists the fronts of one length are equal, and so is what follows them.
pub fronts : (a b x y : List ℕ) → length a ≡ length b → a ++ x ≡ b ++ y → (a ≡ b) × (x ≡ y)
fronts a b x y len same = (
  sym (take_at a x (length b) len) ∙ ap (take (length b)) same ∙ take_at b y (length b) refl,
  sym (drop_at a x (length b) len) ∙ ap (drop (length b)) same ∙ drop_at b y (length b) refl,
)

-- The four bytes of a number give it back.
number_of : (n : ℕ) → n < 2 ^ 32 → from_be_bytes w32 (to_be_bytes w32 n) ≡ n
number_of n lt = from_be_bytes-to_be_bytes_4 n lt

-- Of two equal lists that begin with sizes the sizes are equal, as unsigned numbers, and so is what follows
-- them.
pub size_is : (m n : ℤ) (x y : List ℕ) → cast_unsigned w32 m < 2 ^ 32 → cast_unsigned w32 n < 2 ^ 32
    → size_bytes m ++ x ≡ size_bytes n ++ y
    → (cast_unsigned w32 m ≡ cast_unsigned w32 n) × (x ≡ y)
size_is m n x y fm fn same =
    let both = fronts (size_bytes m) (size_bytes n) x y refl same in (
      sym (number_of (cast_unsigned w32 m) fm) ∙ ap (from_be_bytes w32) both.0
          ∙ number_of (cast_unsigned w32 n) fn,
      both.1,
    )

-- A signed number has four bytes.
pub fits_unsigned : (z : ℤ) → FitsSigned w32 z → cast_unsigned w32 z < 2 ^ 32
fits_unsigned (pos n) fits = omega (arith, ints)
fits_unsigned (negsuc n) fits = omega (arith, ints)

-- Of two equal lists that begin with signed sizes the sizes are equal, and so is what follows them.
pub one_size_lem : (m n : ℤ) (x y : List ℕ) → FitsSigned w32 m → FitsSigned w32 n → size_bytes m
    ++ x ≡ size_bytes n ++ y → (m ≡ n) × (x ≡ y)
one_size_lem m n x y fm fn same =
    let both = size_is m n x y (fits_unsigned m fm) (fits_unsigned n fn) same in
    (sym (to_z-of_z w32 m fm) ∙ ap (cast_signed w32) both.0 ∙ to_z-of_z w32 n fn, both.1)
