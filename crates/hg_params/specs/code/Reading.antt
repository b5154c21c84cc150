-- Reading a header from left to right.
use Rattle.std.specs.Prelude.{◌≡◌, ℕ, ◌*◌, List, [], ◌∷◌, length, take, drop, Result, Ok, Err, nat_lt}
use Rattle.std.specs.Prelude.{if◌then◌else◌}
use Rattle.std.specs.List.{sum}
use Rattle.std.specs.Int.{w32, from_be_bytes}
use Rattle.hg_params.specs.declared.fault.ParamFault.{ParamFault}
use Rattle.hg_params.specs.declared.fault.ParamFault.TheVariants.{Short}
use Rattle.hg_params.specs.Header.{KeyValue, Fields}

infixl 10 ◌>>=◌
abbrev pub ◌>>=◌ : {A B : Type 0} → Result A ParamFault → (A → Result B ParamFault) → Result B ParamFault
(Ok x) >>= f = f x
(Err e) >>= f = Err e

-- what a function returned, seen by view, is what reading gives
abbrev pub FieldGives : {X Y : Type 0} → (X → Y) → Result X ParamFault → Result Y ParamFault → Type 0
FieldGives view (Ok x) read = read ≡ Ok (view x)
FieldGives view (Err e) read = read ≡ Err e

-- some bytes
unfoldable pub bytes_at : ℕ → List ℕ → Result (List ℕ × List ℕ) ParamFault
bytes_at count bytes = if nat_lt (length bytes) count then Err Short
    else Ok (take count bytes, drop count bytes)

-- a byte of size, and as many bytes
unfoldable pub counted_at : List ℕ → Result (List ℕ × List ℕ) ParamFault
counted_at [] = Err Short
counted_at (size ∷ rest) = bytes_at size rest

-- a number of 32 bits
unfoldable pub number_at : List ℕ → Result (ℕ × List ℕ) ParamFault
number_at bytes = bytes_at 4 bytes >>= λ x. Ok (from_be_bytes w32 x.0, x.1)

-- two bytes
unfoldable pub pair_at : List ℕ → Result ((ℕ × ℕ) × List ℕ) ParamFault
pair_at [] = Err Short
pair_at (a ∷ []) = Err Short
pair_at (a ∷ b ∷ rest) = Ok ((a, b), rest)

-- sizes of keys and values, and all those keys and values
pub record Block : Type 0 where
  pub sizes : List ℕ
  pub texts : List ℕ

-- the mandatory parameters and the advisory ones: first the sizes of all, then the keys and values of all
unfoldable pub blocks_at : ℕ × ℕ → List ℕ → Result ((Block × Block) × List ℕ) ParamFault
blocks_at counts bytes = do
  first ← bytes_at (2 * counts.0) bytes
  second ← bytes_at (2 * counts.1) first.1
  third ← bytes_at (sum first.0) second.1
  fourth ← bytes_at (sum second.0) third.1
  Ok ((record { sizes = first.0; texts = third.0 }, record { sizes = second.0; texts = fourth.0 }), fourth.1)

-- a header's fields, the parameters as they lie there
pub record Front : Type 0 where
  pub kind : List ℕ
  pub id : ℕ
  pub mandatory : Block
  pub advisory : Block

unfoldable pub front_at : List ℕ → Result (Front × List ℕ) ParamFault
front_at bytes = do
  kind ← counted_at bytes
  id ← number_at kind.1
  counts ← pair_at id.1
  blocks ← blocks_at counts.0 counts.1
  Ok (record { kind = kind.0; id = id.0; mandatory = blocks.0.0; advisory = blocks.0.1 }, blocks.1)

-- the parameters with these sizes, cut from those texts
unfoldable pub params_in : List ℕ → List ℕ → List KeyValue
params_in [] texts = []
params_in (size ∷ []) texts = []
params_in (key ∷ value ∷ sizes) texts =
    record { key = take key texts; value = take value (drop key texts) }
    ∷ params_in sizes (drop value (drop key texts))

-- the fields, the parameters cut
abbrev pub fields_in : Front → Fields
fields_in f = record {
  kind = f.kind;
  id = f.id;
  mandatory = params_in f.mandatory.sizes f.mandatory.texts;
  advisory = params_in f.advisory.sizes f.advisory.texts;
}
