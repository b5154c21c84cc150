-- What is written of a part, and which parts can be written.
use Rattle.std.specs.Prelude.{◌≡◌, ℕ, List, ◌++◌, length, map, not, true, false, if◌then◌else◌}
use Rattle.std.specs.List.{All, count_by, filter, list_any}
use Rattle.std.specs.Char.{is_ascii_uppercase, to_ascii_uppercase}
use Rattle.hg_types.specs.declared.part.Param.{Param}
use Rattle.hg_types.specs.declared.part.Part.{Part}
use Rattle.hg_params.specs.declared.head.Head.{Head}
use Rattle.hg_params.specs.Header.{KeyValue, Fields, FitsByte, spelling, is_kind, AreDistinct, param}

-- the type as it is written: in upper case where it has an upper case letter; else it is in lower case and
-- stays
unfoldable pub cased : List ℕ → List ℕ
cased kind = if list_any is_ascii_uppercase kind then map to_ascii_uppercase kind else kind

-- the key and the value of a parameter
abbrev pub key_value : {A : Type 0} → Param A → KeyValue
key_value p = record { key = p.key; value = p.value }

-- the mandatory ones of some parameters
abbrev pub mandatory_of : {A : Type 0} → List (Param A) → List KeyValue
mandatory_of params = map key_value (filter (λ p. p.mandatory) params)

-- the advisory ones of some parameters
abbrev pub advisory_of : {A : Type 0} → List (Param A) → List KeyValue
advisory_of params = map key_value (filter (λ p. not p.mandatory) params)

-- the fields of a header of that type, id and parameters
abbrev pub fields_of : {A : Type 0} → List ℕ → ℕ → List (Param A) → Fields
fields_of kind id params =
    record { kind = kind; id = id; mandatory = mandatory_of params; advisory = advisory_of params }

-- the header of that type, as it stands, that id and those parameters
unfoldable pub header_bytes : {A : Type 0} → List ℕ → ℕ → List (Param A) → List ℕ
header_bytes kind id params = spelling (fields_of kind id params)

-- what the header says that is written of a type, an id and parameters
abbrev pub written_head : {A : Type 0} → List ℕ → ℕ → List (Param A) → Head A
written_head kind id params = record { kind = cased kind; id = id; params = params }

-- no mandatory parameter stands after an advisory one
abbrev pub AreInOrder : {A : Type 0} → List (Param A) → Type 0
AreInOrder params = params ≡ map (param true) (mandatory_of params) ++ map (param false) (advisory_of params)

-- a key and a value that a header can hold: at most 255 bytes each
pub record FitsParam {A : Type 0} (p : Param A) : Type 0 where
  pub key : FitsByte (length p.key)
  pub value : FitsByte (length p.value)

-- the type and the parameters can stand in a header
pub record CanStand {A : Type 0} (kind : List ℕ) (params : List (Param A)) : Type 0 where
  pub kind_is : is_kind kind ≡ true
  pub kind_fits : FitsByte (length kind)
  pub mandatory_fit : FitsByte (count_by (λ p. p.mandatory) params)
  pub advisory_fit : FitsByte (count_by (λ p. not p.mandatory) params)
  pub in_order : AreInOrder params
  pub params_fit : All FitsParam params
  pub distinct : AreDistinct (map (λ p. p.key) params)

-- the part, with its type cased, is what some header says
abbrev pub IsWritable : {A : Type 0} → Part A → Type 0
IsWritable part = CanStand part.kind part.params

-- the bytes grew at their end, if at all
abbrev pub IsGrown : List ℕ → List ℕ → Type 0
IsGrown before after = (more : List ℕ) × (after ≡ before ++ more)
