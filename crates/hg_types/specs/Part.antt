-- The words of a part: when it is mandatory, and which parameter has a key.
use Rattle.std.specs.Prelude.{◌≡◌, ◌≢◌, ◌≤◌, ℕ, List, ◌∷◌, ◌++◌, Any, All}
use Rattle.hg_types.specs.declared.part.Param.{Param}

-- the type has an upper case letter
abbrev pub IsMandatory : List ℕ → Type 0
IsMandatory kind = Any (λ byte. (65 ≤ byte) × (byte ≤ 90)) kind

-- no parameter has the key
abbrev pub LacksKey : {A : Type 0} → List (Param A) → List ℕ → Type 0
LacksKey params key = All (λ param. param.key ≢ key) params

-- the first parameter with the key has the value
pub record IsFirstWith {A : Type 0} (params : List (Param A)) (key value : List ℕ) : Type 0 where
  pub before : List (Param A)
  pub found : Param A
  pub after : List (Param A)
  pub spelled : params ≡ before ++ found ∷ after
  pub others : LacksKey before key
  pub key_is : found.key ≡ key
  pub value_is : found.value ≡ value
