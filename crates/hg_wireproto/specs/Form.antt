-- Arguments in a form: fields between `&`, each a name, and after the first `=` a value.
use Rattle.std.specs.Prelude.{ℕ, ◌==◌, Bool, List, [], ◌∷◌, map, filter, Option, None, if◌then◌else◌}
use Rattle.std.specs.Prelude.{unwrap_or, bytes_eq}
use Rattle.std.specs.List.{slice_split, before_first, flat_map, last_or}
use Rattle.percent_encoding.specs.Percent.{percent_decode}
use Rattle.hg_wireproto.specs.declared.form.Field.{Field}
use Rattle.hg_wireproto.specs.Text.{behind_first}

-- the byte between pieces
abbrev pub is_ampersand : ℕ → Bool
is_ampersand b = b == 38

-- the byte between a name and its value
abbrev pub is_equals : ℕ → Bool
is_equals b = b == 61

-- a `+` is a space
abbrev pub spaced : ℕ → ℕ
spaced b = if b == 43 then 32 else b

-- a text with spaces for `+`, and bytes for escapes `%XX`; anything else stands for itself
unfoldable pub plain_of : List ℕ → List ℕ
plain_of text = percent_decode (map spaced text)

-- a piece, whose parts are read so: the name ends at the first `=`, and the value stands after it; without one it is
-- empty
abbrev pub field_by : {A : Type 0} → (List ℕ → List ℕ) → List ℕ → Field A
field_by read piece = record {
  name = read (before_first is_equals piece);
  value = read (unwrap_or (behind_first is_equals piece) []);
}

-- an empty piece is no field
abbrev pub fields_by : {A : Type 0} → (List ℕ → List ℕ) → List ℕ → List (Field A)
fields_by read [] = []
fields_by read (byte ∷ bytes) = field_by read (byte ∷ bytes) ∷ []

-- the fields of a form, in order
unfoldable pub fields_of : {A : Type 0} → List ℕ → List (Field A)
fields_of text = flat_map (fields_by plain_of) (slice_split is_ampersand text)

-- the values of that name, in order
abbrev pub values_in : {A : Type 0} → List (Field A) → List ℕ → List (List ℕ)
values_in fields name = map (λ field. field.value) (filter (λ field. bytes_eq field.name name) fields)

-- of two values of a name the later counts
unfoldable pub value_in : {A : Type 0} → List (Field A) → List ℕ → Option (List ℕ)
value_in fields name = last_or None (values_in fields name)
