-- Names whose first bytes are compared as one number.
use Rattle.std.proofs.Common.{◌≡◌, ◌≢◌, ℕ, zero, suc, ◌+◌, ◌*◌, ◌<◌, ◌≤◌, List, [], ◌∷◌, length, get_or, take, drop}
use Rattle.std.proofs.Common.{refl, sym, ap, ◌∙◌, arith}
use Rattle.std.specs.Int.{w32, w64, from_be_bytes}
use Rattle.std.specs.Ordering.{nat_cmp, ordering_then}
use Rattle.std.specs.Slice.Scan.{big_endian}
use Rattle.std.specs.declared.cmp.Ordering.{Ordering}
use Rattle.std.specs.declared.cmp.Ordering.TheVariants.{Less, Equal, Greater}
use Rattle.std.proofs.lemmas.Bool.Decides.{nat_tests}
use Rattle.std.proofs.lemmas.List.{get_or-drop}
use Rattle.hg_names.specs.Names.{name_cmp}

abbrev pub AreBytes : List ℕ → Type 0
AreBytes bytes = (k : ℕ) → get_or bytes k 0 < 256

-- the bytes behind some are bytes
pub rest_bytes : (n : ℕ) (bytes : List ℕ) → AreBytes bytes → AreBytes (drop n bytes)
rest_bytes n bytes fits k = rw (get_or-drop n bytes k 0) (fits (n + k))

-- ---- orders, one after the other

then_grouped : (o p q : Ordering) → ordering_then o (ordering_then p q) ≡ ordering_then (ordering_then o p) q
then_grouped Less p q = refl
then_grouped Equal p q = refl
then_grouped Greater p q = refl

-- numbers with one more digit
digit_joined : (a b x y : ℕ) → x < 256 → y < 256
    → ordering_then (nat_cmp a b) (nat_cmp x y) ≡ nat_cmp (a * 256 + x) (b * 256 + y)
digit_joined a b x y x_fits y_fits = grind (arith, nat_tests)

-- the first bytes of two names decide as the numbers do that they spell
numbers_joined : (n a b : ℕ) (xs ys : List ℕ) → n ≤ length xs → n ≤ length ys → AreBytes xs → AreBytes ys
    → ordering_then (nat_cmp a b) (name_cmp xs ys)
    ≡ ordering_then (nat_cmp (big_endian a (take n xs)) (big_endian b (take n ys))) (name_cmp (drop n xs) (drop n ys))
numbers_joined zero a b xs ys x_long y_long x_fits y_fits = refl
numbers_joined (suc n) a b [] ys x_long y_long x_fits y_fits = absurd (omega (arith, x_long))
numbers_joined (suc n) a b (x ∷ xs) [] x_long y_long x_fits y_fits = absurd (omega (arith, y_long))
numbers_joined (suc n) a b (x ∷ xs) (y ∷ ys) x_long y_long x_fits y_fits =
    then_grouped (nat_cmp a b) (nat_cmp x y) (name_cmp xs ys)
    ∙ ap (λ o. ordering_then o (name_cmp xs ys)) (digit_joined a b x y (x_fits 0) (y_fits 0))
    ∙ numbers_joined n (a * 256 + x) (b * 256 + y) xs ys (omega (arith, x_long)) (omega (arith, y_long))
    (λ k. x_fits (suc k)) (λ k. y_fits (suc k))

apart_then : (x y : ℕ) (o : Ordering) → x ≢ y → ordering_then (nat_cmp x y) o ≡ nat_cmp x y
apart_then x y o apart = grind (arith, nat_tests)

alike_then : (x y : ℕ) (o : Ordering) → x ≡ y → ordering_then (nat_cmp x y) o ≡ o
alike_then x y o alike = grind (arith, nat_tests)

-- ---- the first bytes of a name, as a number

pub record Spells (n : ℕ) (name : List ℕ) (number : ℕ) : Type 0 where
  pub long : n ≤ length name
  pub fits : AreBytes name
  pub is : number ≡ big_endian 0 (take n name)

module _ (n x y : ℕ) (xs ys : List ℕ) (spells_x : Spells n xs x) (spells_y : Spells n ys y) where
  joined : name_cmp xs ys ≡ ordering_then (nat_cmp x y) (name_cmp (drop n xs) (drop n ys))
  joined = numbers_joined n 0 0 xs ys spells_x.long spells_y.long spells_x.fits spells_y.fits
      ∙ (λ i. ordering_then (nat_cmp (sym spells_x.is i) (sym spells_y.is i)) (name_cmp (drop n xs) (drop n ys)))

  -- where the numbers differ they decide
  pub decided_by_numbers : x ≢ y → nat_cmp x y ≡ name_cmp xs ys
  decided_by_numbers apart = sym (joined ∙ apart_then x y (name_cmp (drop n xs) (drop n ys)) apart)

  -- and else the bytes behind them do
  pub decided_behind : x ≡ y → name_cmp (drop n xs) (drop n ys) ≡ name_cmp xs ys
  decided_behind alike = sym (joined ∙ alike_then x y (name_cmp (drop n xs) (drop n ys)) alike)

-- ---- how a number is read

eight_are : (name : List ℕ) → 8 ≤ length name → from_be_bytes w64 (take 8 name) ≡ big_endian 0 (take 8 name)
eight_are (a ∷ b ∷ c ∷ d ∷ e ∷ f ∷ g ∷ h ∷ name) long = omega arith
eight_are name long = absurd (omega (arith, long))

four_are : (name : List ℕ) → 4 ≤ length name → from_be_bytes w32 (take 4 name) ≡ big_endian 0 (take 4 name)
four_are (a ∷ b ∷ c ∷ d ∷ name) long = omega arith
four_are name long = absurd (omega (arith, long))

-- a name that was cut behind so many bytes
abbrev IsCut : ℕ → List ℕ → List ℕ → List ℕ → Type 0
IsCut n name front rest = (front ≡ take n name) × (rest ≡ drop n name) × (length rest + n ≡ length name)

pub eight_spell : (name front rest : List ℕ) (x : ℕ) → AreBytes name → IsCut 8 name front rest
    → x ≡ from_be_bytes w64 front → Spells 8 name x
eight_spell name front rest x fits cut read =
    let long : 8 ≤ length name = omega (arith, cut.2) in
    record { long = long; fits = fits; is = read ∙ ap (from_be_bytes w64) cut.0 ∙ eight_are name long }

pub four_spell : (name front rest : List ℕ) (x : ℕ) → AreBytes name → IsCut 4 name front rest
    → x ≡ from_be_bytes w32 front → Spells 4 name x
four_spell name front rest x fits cut read =
    let long : 4 ≤ length name = omega (arith, cut.2) in
    record { long = long; fits = fits; is = read ∙ ap (from_be_bytes w32) cut.0 ∙ four_are name long }
