-- Stream parameters: pieces between spaces, each a name, or a name and a value.
use Rattle.std.specs.Prelude.{◌≡◌, ℕ, List, [], ◌∷◌, map, ◌+◌, drop, Bool, not, ◌==◌, Option, Some, None}
use Rattle.std.specs.Prelude.{if◌then◌else◌, codes}
use Rattle.std.specs.List.{slice_split, before_first, position, filter_map}
use Rattle.std.specs.Char.{is_ascii_alphabetic, is_ascii_uppercase}
use Rattle.std.specs.Option.{option_map}
use Rattle.std.specs.Str.{str_eq_ignore_ascii_case, bytes_eq}
use Rattle.percent_encoding.specs.Percent.{percent_decode}
use Rattle.hg_params.specs.declared.stream_params.StreamParam.{StreamParam}
use Rattle.hg_params.specs.declared.fault.ParamFault.{ParamFault}
use Rattle.hg_params.specs.declared.fault.ParamFault.TheVariants.{EmptyName, BadName, UnknownMandatory}
use Rattle.hg_params.specs.declared.fault.ParamFault.TheVariants.{Compressed}

-- the byte between two parameters
abbrev pub is_space : ℕ → Bool
is_space b = b == 32

-- the byte between a name and its value
abbrev pub is_equals : ℕ → Bool
is_equals b = b == 61

-- the pieces between spaces; no bytes have no piece
unfoldable pub pieces : List ℕ → List (List ℕ)
pieces [] = []
pieces (byte ∷ bytes) = slice_split is_space (byte ∷ bytes)

-- those of a text that is left, or none
unfoldable pub pieces_of : Option (List ℕ) → List (List ℕ)
pieces_of None = []
pieces_of (Some text) = slice_split is_space text

-- what stands after the first byte that passes, where one does
unfoldable pub behind_first : (ℕ → Bool) → List ℕ → Option (List ℕ)
behind_first test text = option_map (λ place. drop (place + 1) text) (position test text)

-- the name of a piece, which ends at the first `=`, and the value after it, where there is one; both without
-- escapes
unfoldable pub name_of : List ℕ → List ℕ
name_of piece = percent_decode (before_first is_equals piece)

-- what stands after the first `=` of a piece, without its escapes; none where there is no `=`
unfoldable pub value_of : List ℕ → Option (List ℕ)
value_of piece = option_map percent_decode (behind_first is_equals piece)

-- `compression`, in any case
abbrev pub is_compression : List ℕ → Bool
is_compression name = str_eq_ignore_ascii_case name (codes "compression")

-- the fault of a compression: any value but `UN`, and none
abbrev pub compression_fault : Option (List ℕ) → Option ParamFault
compression_fault None = Some Compressed
compression_fault (Some value) = if bytes_eq value (codes "UN") then None else Some Compressed

-- the fault of a parameter by its name and its value: the name is empty or begins with no letter, the stream
-- is compressed, or the name begins with an upper case letter and is not known
unfoldable pub fault_of : List ℕ → Option (List ℕ) → Option ParamFault
fault_of [] value = Some EmptyName
fault_of (first ∷ rest) value =
    if not (is_ascii_alphabetic first) then Some BadName
    else if is_compression (first ∷ rest) then compression_fault value
    else if is_ascii_uppercase first then Some UnknownMandatory else None

-- what is wrong with a piece, if anything is
abbrev pub piece_fault : List ℕ → Option ParamFault
piece_fault piece = fault_of (name_of piece) (value_of piece)

-- the faults of the pieces, in their order
abbrev pub faults_of : List ℕ → List ParamFault
faults_of bytes = filter_map piece_fault (pieces bytes)

-- the parameter that a piece is
abbrev pub stream_param : {A : Type 0} → List ℕ → StreamParam A
stream_param piece = record { name = name_of piece; value = value_of piece }

-- the bytes have no fault, and these are their parameters
pub record AreStreamParams {A : Type 0} (bytes : List ℕ) (params : List (StreamParam A)) : Type 0 where
  pub sound : faults_of bytes ≡ []
  pub says : params ≡ map stream_param (pieces bytes)

-- the first of their faults
abbrev pub IsStreamParamsFault : List ℕ → ParamFault → Type 0
IsStreamParamsFault bytes fault = (later : List ParamFault) × (faults_of bytes ≡ fault ∷ later)
