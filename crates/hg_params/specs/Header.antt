-- A part's header: its fields, their one spelling, and what is wrong with bytes that spell no header.
use Rattle.std.specs.Prelude.{◌≡◌, ◌≢◌, ℕ, ◌<◌, ◌^◌, List, [], ◌∷◌, ◌++◌, length, map, Bool, true, false}
use Rattle.std.specs.Prelude.{nat_le, ◌==◌, ◌&&◌, ◌||◌}
use Rattle.std.specs.List.{AllByRecursion, flat_map, list_all}
use Rattle.std.specs.Int.{w32, to_be_bytes}
use Rattle.hg_types.specs.declared.part.Param.{Param}
use Rattle.hg_params.specs.declared.head.Head.{Head}
use Rattle.hg_params.specs.declared.fault.ParamFault.{ParamFault}
use Rattle.hg_params.specs.declared.fault.ParamFault.TheVariants.{Short, Leftover, BadType, RepeatedKey}
use Rattle.hg_params.specs.declared.fault.ParamFault.TheVariants.{EmptyName, BadName, UnknownMandatory}
use Rattle.hg_params.specs.declared.fault.ParamFault.TheVariants.{Compressed, NoMemory}

-- a parameter, without whether it is mandatory
pub record KeyValue : Type 0 where
  pub key : List ℕ
  pub value : List ℕ

-- the fields of a header
pub record Fields : Type 0 where
  pub kind : List ℕ
  pub id : ℕ
  pub mandatory : List KeyValue
  pub advisory : List KeyValue

-- all parameters, the mandatory ones first
abbrev pub all_params : Fields → List KeyValue
all_params f = f.mandatory ++ f.advisory

-- a size fits its one byte
abbrev pub FitsByte : ℕ → Type 0
FitsByte size = size < 256

-- the sizes of a key and of its value fit one byte each
pub record FitsSizes (p : KeyValue) : Type 0 where
  pub key : FitsByte (length p.key)
  pub value : FitsByte (length p.value)

-- the fields fit their sizes and counts
pub record HeaderFits (f : Fields) : Type 0 where
  pub kind : FitsByte (length f.kind)
  pub id : f.id < 2 ^ 32
  pub mandatory : FitsByte (length f.mandatory)
  pub advisory : FitsByte (length f.advisory)
  pub params : AllByRecursion FitsSizes (all_params f)

-- the size of a key and the size of its value
abbrev pub param_sizes : KeyValue → List ℕ
param_sizes p = length p.key ∷ length p.value ∷ []

-- a key and its value
abbrev pub param_data : KeyValue → List ℕ
param_data p = p.key ++ p.value

-- the size of the type and the type, the id, the two counts, the sizes of all parameters, and then their keys
-- and values
unfoldable pub spelling : Fields → List ℕ
spelling f = (length f.kind ∷ f.kind)
    ++ (to_be_bytes w32 f.id ++ ((length f.mandatory ∷ length f.advisory ∷ [])
    ++ (flat_map param_sizes (all_params f) ++ flat_map param_data (all_params f))))

-- `a-z`, `A-Z`, `0-9`, `_`, `:` or `-`
abbrev pub is_kind_byte : ℕ → Bool
is_kind_byte b =
    (nat_le 97 b && nat_le b 122) || (nat_le 65 b && nat_le b 90) || (nat_le 48 b
    && nat_le b 57) || (b == 95) || (b == 58) || (b == 45)

-- a type: some of these bytes, and no others
abbrev pub is_kind : List ℕ → Bool
is_kind [] = false
is_kind (byte ∷ bytes) = list_all is_kind_byte (byte ∷ bytes)

-- no key is equal to a later one
unfoldable pub AreDistinct : List (List ℕ) → Type 0
AreDistinct [] = Unit {0}
AreDistinct (key ∷ keys) = AllByRecursion (λ later. key ≢ later) keys × AreDistinct keys

-- the keys of parameters
abbrev pub keys_of : List KeyValue → List (List ℕ)
keys_of params = map (λ p. p.key) params

-- the bytes are these fields joined
pub record HasFields (bytes : List ℕ) (f : Fields) : Type 0 where
  pub fits : HeaderFits f
  pub spelled : bytes ≡ spelling f

-- and they make a header
pub record IsSound (bytes : List ℕ) (f : Fields) : Type 0 where
  pub has : HasFields bytes f
  pub kind : is_kind f.kind ≡ true
  pub distinct : AreDistinct (keys_of (all_params f))

-- a parameter as a part has it
abbrev pub param : {A : Type 0} → Bool → KeyValue → Param A
param mandatory p = record { mandatory = mandatory; key = p.key; value = p.value }

-- the parameters of the fields, the mandatory ones first
abbrev pub params_of : {A : Type 0} → Fields → List (Param A)
params_of f = map (param true) f.mandatory ++ map (param false) f.advisory

-- what the fields say
abbrev pub head_of : {A : Type 0} → Fields → Head A
head_of f = record { kind = f.kind; id = f.id; params = params_of f }

-- the bytes are a header, which says this
pub record IsHeader {A : Type 0} (bytes : List ℕ) (head : Head A) : Type 0 where
  pub fields : Fields
  pub sound : IsSound bytes fields
  pub says : head ≡ head_of fields

-- no fields stand at the front of the bytes
abbrev pub IsShort : List ℕ → Type 0
IsShort bytes = (f : Fields) (rest : List ℕ) → HeaderFits f → bytes ≡ spelling f ++ rest → ⊥

-- fields stand there, and more
pub record HasRest (bytes : List ℕ) : Type 0 where
  pub fields : Fields
  pub rest : List ℕ
  pub fits : HeaderFits fields
  pub spelled : bytes ≡ spelling fields ++ rest
  pub some : 0 < length rest

-- the bytes are fields joined, and the type is none
pub record HasBadType (bytes : List ℕ) : Type 0 where
  pub fields : Fields
  pub has : HasFields bytes fields
  pub kind : is_kind fields.kind ≡ false

-- the bytes are fields joined, the type is one, and a key stands twice
pub record HasRepeatedKey (bytes : List ℕ) : Type 0 where
  pub fields : Fields
  pub has : HasFields bytes fields
  pub kind : is_kind fields.kind ≡ true
  pub repeated : ¬ (AreDistinct (keys_of (all_params fields)))

-- what is wrong with bytes that are no header
unfoldable pub IsHeaderFault : List ℕ → ParamFault → Type 0
IsHeaderFault bytes Short = IsShort bytes
IsHeaderFault bytes Leftover = HasRest bytes
IsHeaderFault bytes BadType = HasBadType bytes
IsHeaderFault bytes RepeatedKey = HasRepeatedKey bytes
IsHeaderFault bytes EmptyName = ⊥
IsHeaderFault bytes BadName = ⊥
IsHeaderFault bytes UnknownMandatory = ⊥
IsHeaderFault bytes Compressed = ⊥
IsHeaderFault bytes NoMemory = ⊥
