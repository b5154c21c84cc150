-- The parameters of a part.
use Rattle.std.specs.Prelude.{ℕ, List, Option, option_map, find, bytes_eq}
use Rattle.hg_types.specs.declared.part.Param.{Param}

-- the value of the first parameter of that name; names are compared exactly
abbrev pub value_of : {A : Type 0} → List ℕ → List (Param A) → Option (List ℕ)
value_of key params = option_map (λ param. param.value) (find (λ param. bytes_eq param.key key) params)
