-- What an encoder may write for a form.
use Rattle.std.specs.Prelude.{◌≡◌, ℕ, ◌+◌, ◌*◌, ◌<◌, ◌==◌, Bool, false, ◌||◌, List, [], ◌∷◌, ◌++◌}
use Rattle.std.specs.List.{AllZip, join_with_byte}
use Rattle.std.specs.Char.{digit_value}
use Rattle.hg_wireproto.specs.declared.form.Field.{Field}

-- the bytes that never stand for themselves: `&`, `=`, `+` and `%`
abbrev pub is_special : ℕ → Bool
is_special b = b == 38 || b == 61 || b == 43 || b == 37

-- The text spells the bytes: any byte but those may stand for itself, a space may be a `+`, and any byte may
-- be `%` and two hexadecimal digits of either case.
pub data IsSpelled : List ℕ → List ℕ → Type 0 where
  nothing : IsSpelled [] []
  itself : (b : ℕ) (text bytes : List ℕ) → is_special b ≡ false → IsSpelled text bytes
      → IsSpelled (b ∷ text) (b ∷ bytes)
  space : (text bytes : List ℕ) → IsSpelled text bytes → IsSpelled (43 ∷ text) (32 ∷ bytes)
  escape : (high low : ℕ) (text bytes : List ℕ) → digit_value high < 16 → digit_value low < 16
      → IsSpelled text bytes
      → IsSpelled (37 ∷ high ∷ low ∷ text) ((16 * digit_value high + digit_value low) ∷ bytes)

-- the piece is the name, a `=` and the value, both spelled
pub record IsPiece {A : Type 0} (piece : List ℕ) (field : Field A) : Type 0 where
  pub name : List ℕ
  pub value : List ℕ
  pub piece_is : piece ≡ name ++ 61 ∷ value
  pub name_is : IsSpelled name field.name
  pub value_is : IsSpelled value field.value

-- the text is pieces with a `&` between, one for each field
pub record IsForm {A : Type 0} (text : List ℕ) (fields : List (Field A)) : Type 0 where
  pub pieces : List (List ℕ)
  pub each : AllZip IsPiece pieces fields
  pub text_is : text ≡ join_with_byte 38 pieces
