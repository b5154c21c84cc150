-- Bytes whose first ones are compared as one number.
use Rattle.std.proofs.Common.{◌≡◌, ◌↔◌, ℕ, zero, suc, ◌+◌, ◌<◌, ◌≤◌, List, [], ◌∷◌, ◌++◌, length, get_or, take, drop}
use Rattle.std.proofs.Common.{Bool, true, nat_eq, IsTrue, sym, ap, subst, ◌∙◌, lit<, rules}
use Rattle.std.specs.Cmp.Lexicographic.{pointwise}
use Rattle.std.specs.Int.{w32, w64, from_le_bytes, to_le_bytes}
use Rattle.std.proofs.lemmas.Nat.{le_bytes_4, le_bytes_8}
use Rattle.std.proofs.lemmas.Bool.Decides.{Decides-eqb}
use Rattle.std.proofs.lemmas.Slice.Eq.{slice_eq-Decides}
use Rattle.std.proofs.lemmas.List.{get_or-drop, length-take-le, take-append-drop}

abbrev pub AreBytes : List ℕ → Type 0
AreBytes bytes = (k : ℕ) → get_or bytes k 0 < 256

-- the bytes behind some are bytes
pub rest_bytes : (n : ℕ) (bytes : List ℕ) → AreBytes bytes → AreBytes (drop n bytes)
rest_bytes n bytes fits k = rw (get_or-drop n bytes k 0) (fits (n + k))

-- and so are the first ones
front_bytes : (n : ℕ) (bytes : List ℕ) → AreBytes bytes → AreBytes (take n bytes)
front_bytes zero bytes fits k = lit< tt
front_bytes (suc n) [] fits k = lit< tt
front_bytes (suc n) (byte ∷ bytes) fits zero = fits 0
front_bytes (suc n) (byte ∷ bytes) fits (suc k) = front_bytes n bytes (λ j. fits (suc j)) k

-- ---- a number, and the bytes that spell it

-- the first eight of these bytes, as a number
pub record SpellEight (bytes front : List ℕ) (x : ℕ) : Type 0 where
  pub fits : AreBytes bytes
  pub cut : (front ≡ take 8 bytes) × (8 ≤ length bytes)
  pub is : x ≡ from_le_bytes w64 front

pub record SpellFour (bytes front : List ℕ) (x : ℕ) : Type 0 where
  pub fits : AreBytes bytes
  pub cut : (front ≡ take 4 bytes) × (4 ≤ length bytes)
  pub is : x ≡ from_le_bytes w32 front

eight_back : (bytes front : List ℕ) (x : ℕ) → SpellEight bytes front x → to_le_bytes w64 x ≡ front
eight_back bytes front x spells = le_bytes_8 front x (ap length spells.cut.0 ∙ length-take-le 8 bytes spells.cut.1)
    (subst AreBytes (sym spells.cut.0) (front_bytes 8 bytes spells.fits)) spells.is

four_back : (bytes front : List ℕ) (x : ℕ) → SpellFour bytes front x → to_le_bytes w32 x ≡ front
four_back bytes front x spells = le_bytes_4 front x (ap length spells.cut.0 ∙ length-take-le 4 bytes spells.cut.1)
    (subst AreBytes (sym spells.cut.0) (front_bytes 4 bytes spells.fits)) spells.is

-- one number is spelled in one way
pub eight_alike : (xs ys x_front y_front : List ℕ) (x y : ℕ) → SpellEight xs x_front x → SpellEight ys y_front y
    → x ≡ y → x_front ≡ y_front
eight_alike xs ys x_front y_front x y x_spells y_spells alike = sym (eight_back xs x_front x x_spells)
    ∙ (ap (to_le_bytes w64) alike ∙ eight_back ys y_front y y_spells)

pub four_alike : (xs ys x_front y_front : List ℕ) (x y : ℕ) → SpellFour xs x_front x → SpellFour ys y_front y
    → x ≡ y → x_front ≡ y_front
four_alike xs ys x_front y_front x y x_spells y_spells alike = sym (four_back xs x_front x x_spells)
    ∙ (ap (to_le_bytes w32) alike ∙ four_back ys y_front y y_spells)

-- ---- bytes that were cut behind so many

-- The same at their front, they are the same where what is behind it is.
pub same_behind : (n : ℕ) (xs ys x_front x_rest y_front y_rest : List ℕ)
    → x_front ≡ take n xs → x_rest ≡ drop n xs → y_front ≡ take n ys → y_rest ≡ drop n ys
    → x_front ≡ y_front → (x_rest ≡ y_rest) ↔ (xs ≡ ys)
same_behind n xs ys x_front x_rest y_front y_rest x_is x_behind y_is y_behind alike = (
  λ rest. sym (take-append-drop n xs)
      ∙ ((λ i. (sym x_is ∙ (alike ∙ y_is)) i ++ (sym x_behind ∙ (rest ∙ y_behind)) i)
      ∙ take-append-drop n ys),
  λ whole. x_behind ∙ (ap (drop n) whole ∙ sym y_behind),
)

-- ---- a test of what is left

pub left_decides : (r : Bool) (xs ys whole others : List ℕ) → r ≡ pointwise nat_eq xs ys
    → (xs ≡ ys) ↔ (whole ≡ others) → IsTrue r ↔ (whole ≡ others)
left_decides r xs ys whole others is same =
    let decides = slice_eq-Decides Decides-eqb xs ys r is in
    (λ so. same.0 (decides.0 (is_so r so)), λ whole. so_is r (decides.1 (same.1 whole)))
  where
    is_so : (r : Bool) → IsTrue r → r ≡ true
    is_so r so = search rules

    so_is : (r : Bool) → r ≡ true → IsTrue r
    so_is r so = search rules
