-- The last value of a name, one field more at a time.
use Rattle.std.proofs.Common.{◌≡◌, ℕ, Bool, true, false, List, [], ◌∷◌, ◌++◌, map, filter, Option, Some, None}
use Rattle.std.proofs.Common.{◌+◌, ◌<◌, length, get_or, take, Bor, refl, sym, ap, ◌∙◌}
use Rattle.std.specs.Prelude.{if◌then◌else◌, bytes_eq, unwrap_or}
use Rattle.std.specs.List.{last_or, before_first}
use Rattle.std.specs.Option.{option_map}
use Rattle.std.proofs.lemmas.List.{take_more}
use Rattle.hg_wireproto.specs.declared.form.Field.{Field}
use Rattle.hg_wireproto.specs.Text.{behind_first}
use Rattle.hg_wireproto.specs.declared.batch.BatchCommand.{BatchCommand}
use Rattle.hg_wireproto.specs.Form.{values_in, value_in, is_equals}
use Rattle.hg_wireproto.specs.Batch.{is_space, arguments_of, command_of}

picked : {A : Type 0} (b : Bool) (o : Option (List ℕ)) (field : Field A) (rest : List (Field A))
    → last_or o (map (λ (f : Field A). f.value) (if b then (field ∷ rest) else rest))
    ≡ last_or (if b then Some field.value else o) (map (λ (f : Field A). f.value) rest)
picked true o field rest = refl
picked false o field rest = refl

last_more : {A : Type 0} (o : Option (List ℕ)) (fields : List (Field A)) (field : Field A) (name : List ℕ)
    → last_or o (values_in (fields ++ field ∷ []) name)
    ≡ (if bytes_eq field.name name then Some field.value else last_or o (values_in fields name))
last_more o [] field name = picked (bytes_eq field.name name) o field []
last_more {A} o (first ∷ fields) field name =
    let here = bytes_eq first.name name in
    let rest = λ (fields : List (Field A)). filter (λ (f : Field A). bytes_eq f.name name) fields in
    picked here o first (rest (fields ++ field ∷ []))
    ∙ last_more (if here then Some first.value else o) fields field name
    ∙ ap (λ (last : Option (List ℕ)). if bytes_eq field.name name then Some field.value else last)
    (sym (picked here o first (rest fields)))

pub value_more : {A : Type 0} (fields : List (Field A)) (field : Field A) (name : List ℕ)
    → value_in (fields ++ field ∷ []) name
    ≡ (if bytes_eq field.name name then Some field.value else value_in fields name)
unfolding value_in
value_more fields field name = last_more None fields field name

pub none_yet : (A : Type 0) (name : List ℕ)
    → (let none : Option (List ℕ) = None in none) ≡ value_in (let none : List (Field A) = [] in none) name
unfolding value_in
none_yet A name = refl

pub unwrapped : (o : Option (Bor (List ℕ))) (none : Bor (List ℕ)) → none.now ≡ []
    → (unwrap_or o none).now ≡ unwrap_or (option_map (λ (text : Bor (List ℕ)). text.now) o) []
unwrapped None none empty = empty
unwrapped (Some text) none empty = refl

-- a piece that was cut at its first `=`, with what is read of both sides
pub field_cut : {A : Type 0} (read : List ℕ → List ℕ) (piece first : List ℕ) (behind : Option (Bor (List ℕ)))
    (none : Bor (List ℕ)) (name value : List ℕ) → first ≡ before_first is_equals piece
    → option_map (λ (text : Bor (List ℕ)). text.now) behind ≡ behind_first is_equals piece → none.now ≡ []
    → name ≡ read first → value ≡ read (unwrap_or behind none).now
    → (let made : Field A = record { name = name; value = value } in made)
    ≡ record {
      name = read (before_first is_equals piece);
      value = read (unwrap_or (behind_first is_equals piece) []);
    }
field_cut {A} read piece first behind none name value before after empty named valued =
    let made : List ℕ → List ℕ → Field A = λ n v. record { name = n; value = v } in
    ap (λ (n : List ℕ). made n value) (named ∙ ap read before)
    ∙ ap (λ (v : List ℕ). made (read (before_first is_equals piece)) v)
    (valued ∙ ap read (unwrapped behind none empty)
    ∙ ap (λ (o : Option (List ℕ)). read (unwrap_or o [])) after)

-- a command that was cut at its first space
pub command_cut : {A : Type 0} (piece first : List ℕ) (behind : Option (Bor (List ℕ))) (none : Bor (List ℕ))
    (name : List ℕ) (arguments : List (Field A)) → first ≡ before_first is_space piece
    → option_map (λ (text : Bor (List ℕ)). text.now) behind ≡ behind_first is_space piece → none.now ≡ []
    → name ≡ first → arguments ≡ arguments_of (unwrap_or behind none).now
    → (let made : BatchCommand A = record { name = name; arguments = arguments } in made) ≡ command_of piece
unfolding command_of
command_cut {A} piece first behind none name arguments before after empty named told =
    let made : List ℕ → List (Field A) → BatchCommand A = λ n a. record { name = n; arguments = a } in
    ap (λ (n : List ℕ). made n arguments) (named ∙ before)
    ∙ ap (λ (a : List (Field A)). made (before_first is_space piece) a)
    (told ∙ ap arguments_of (unwrapped behind none empty)
    ∙ ap (λ (o : Option (List ℕ)). arguments_of (unwrap_or o [])) after)

next_value : {A : Type 0} (fields : List (Field A)) (i : ℕ) (field : Field A) (name : List ℕ)
    → i < length fields → field ≡ get_or fields i field → value_in (take (i + 1) fields) name
    ≡ (if bytes_eq field.name name then Some field.value else value_in (take i fields) name)
next_value {A} fields i field name within here =
    ap (λ (fs : List (Field A)). value_in fs name)
    (take_more fields i field within ∙ ap (λ (f : Field A). take i fields ++ f ∷ []) (sym here))
    ∙ value_more (take i fields) field name

pub value_here : {A : Type 0} (fields : List (Field A)) (i : ℕ) (field : Field A) (name : List ℕ)
    → i < length fields → field ≡ get_or fields i field → bytes_eq field.name name ≡ true
    → value_in (take (i + 1) fields) name ≡ Some field.value
value_here fields i field name within here same =
    next_value fields i field name within here
    ∙ ap (λ (b : Bool). if b then Some field.value else value_in (take i fields) name) same

pub value_before : {A : Type 0} (fields : List (Field A)) (i : ℕ) (field : Field A) (name : List ℕ)
    → i < length fields → field ≡ get_or fields i field → bytes_eq field.name name ≡ false
    → value_in (take (i + 1) fields) name ≡ value_in (take i fields) name
value_before fields i field name within here other =
    next_value fields i field name within here
    ∙ ap (λ (b : Bool). if b then Some field.value else value_in (take i fields) name) other
