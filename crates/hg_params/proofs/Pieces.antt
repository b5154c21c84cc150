-- Texts cut at a byte, and the pieces that are read so far.
use Rattle.std.proofs.Common.{◌≡◌, ℕ, ◌+◌, ◌-◌, ◌<◌, ◌≤◌, Bool, true, false, ltb, List, [], ◌∷◌, ◌++◌, length}
use Rattle.std.proofs.Common.{map, take, drop, Option, Some, None, refl, sym, ap, ◌∙◌, ◌⊎◌, inl, inr, arith}
use Rattle.std.proofs.Common.{append_assoc}
use Rattle.std.specs.List.{slice_split, position, position_or_len, before_first, filter_map, cons_option}
use Rattle.std.specs.Option.{option_map}
use Rattle.std.proofs.lemmas.Bool.{ltb-true, ltb-false}
use Rattle.std.proofs.lemmas.List.{take_all, length-drop, map-append, append-nil}
use Rattle.std.proofs.lemmas.List.Elements.{filter_map-append}
use Rattle.std.proofs.lemmas.List.Sums.{fails_before_first}
use Rattle.std.proofs.lemmas.List.Splits.{slice_split_first, slice_split_none}
use Rattle.percent_encoding.specs.Percent.{percent_decode}
use Rattle.hg_params.specs.declared.stream_params.StreamParam.{StreamParam}
use Rattle.hg_params.specs.declared.fault.ParamFault.{ParamFault}
use Rattle.hg_params.specs.declared.fault.ParamFault.TheVariants.{NoMemory}
use Rattle.hg_params.specs.StreamParams.{is_space, is_equals, pieces, pieces_of, behind_first, name_of}
use Rattle.hg_params.specs.StreamParams.{value_of, piece_fault, stream_param, AreStreamParams}
use Rattle.hg_params.specs.StreamParams.{IsStreamParamsFault}

-- the first byte that passes is at this place
pub behind_some : (test : ℕ → Bool) (text : List ℕ) (place : ℕ) → Some place ≡ position test text
    → behind_first test text ≡ Some (drop (place + 1) text)
unfolding behind_first
behind_some test text place e = ap (option_map (λ (n : ℕ). drop (n + 1) text)) (sym e)

pub behind_none : (test : ℕ → Bool) (text : List ℕ)
    → (let none : Option ℕ = None in none) ≡ position test text → behind_first test text ≡ None
unfolding behind_first
behind_none test text e = ap (option_map (λ (n : ℕ). drop (n + 1) text)) (sym e)

pub rest_whole : (n : ℕ) (text : List ℕ) → take (length text - n) (drop n text) ≡ drop n text
rest_whole n text = take_all (length text - n) (drop n text) (omega (arith, length-drop n text))

-- how much is to be read of a text, or of none
abbrev pub size_of : Option (List ℕ) → ℕ
size_of None = 0
size_of (Some text) = length text + 1

cut_by : (b : Bool) (test : ℕ → Bool) (text : List ℕ) → ltb (position_or_len test text) (length text) ≡ b
    → size_of (behind_first test text) < length text + 1
unfolding behind_first
cut_by true test text e =
    let within = ltb-true _ _ e in
    rw e (omega (arith, length-drop (position_or_len test text + 1) text))
cut_by false test text e = rw e (omega arith)

-- what stands after a cut is shorter
pub behind_shorter : (test : ℕ → Bool) (text : List ℕ) → size_of (behind_first test text) < length text + 1
behind_shorter test text = cut_by (ltb (position_or_len test text) (length text)) test text refl

split_by : (b : Bool) (text : List ℕ) → ltb (position_or_len is_space text) (length text) ≡ b
    → slice_split is_space text ≡ before_first is_space text ∷ pieces_of (behind_first is_space text)
unfolding behind_first pieces_of
split_by true text e = rw e (slice_split_first is_space text 0 (ltb-true _ _ e))
split_by false text e =
    let past : length text ≤ position_or_len is_space text = ltb-false _ _ e in
    rw e (slice_split_none is_space text (λ k d within. fails_before_first is_space text k d (omega arith))
    ∙ ap (λ (piece : List ℕ). piece ∷ []) (sym (take_all (position_or_len is_space text) text past)))

-- the first piece of a text and the others
pub split_more : (text : List ℕ) → slice_split is_space text ≡ before_first is_space text
    ∷ pieces_of (behind_first is_space text)
split_more text = split_by (ltb (position_or_len is_space text) (length text)) text refl

-- the pieces so far have no fault, these are their parameters, and with those of the rest they are all
pub record ReadSo {A : Type 0} (bytes : List ℕ) (params : List (StreamParam A))
    (rest : Option (List ℕ)) : Type 0 where
  pub done : List (List ℕ)
  pub sound : filter_map piece_fault done ≡ []
  pub says : params ≡ map stream_param done
  pub all : pieces bytes ≡ done ++ pieces_of rest

pieces_left : (done : List (List ℕ)) (text piece : List ℕ) (more : Option (List ℕ))
    → piece ≡ before_first is_space text → more ≡ behind_first is_space text → done
    ++ pieces_of (Some text) ≡ done ++ (piece ∷ pieces_of more)
unfolding pieces_of
pieces_left done text piece more e f =
    ap (λ (ps : List (List ℕ)). done ++ ps) (split_more text
    ∙ ap (λ (p : List ℕ). p ∷ pieces_of (behind_first is_space text)) (sym e)
    ∙ ap (λ (m : Option (List ℕ)). piece ∷ pieces_of m) (sym f))

-- one more piece without a fault
pub read_one : {A : Type 0} (bytes : List ℕ) (params after : List (StreamParam A)) (text piece : List ℕ)
    (more : Option (List ℕ)) (p : StreamParam A) → ReadSo bytes params (Some text)
    → piece ≡ before_first is_space text → more ≡ behind_first is_space text
    → p ≡ stream_param piece → piece_fault piece ≡ None → after ≡ params ++ p ∷ [] → ReadSo bytes after more
read_one {A} bytes params after text piece more p so e f p_is none added = record {
  done = so.done ++ piece ∷ [];
  sound = filter_map-append piece_fault so.done (piece ∷ [])
      ∙ ap (λ (fs : List ParamFault). fs ++ filter_map piece_fault (piece ∷ [])) so.sound
      ∙ ap (λ (o : Option ParamFault). cons_option o []) none;
  says = added ∙ ap (λ (ps : List (StreamParam A)). ps ++ p ∷ []) so.says
      ∙ ap (λ (q : StreamParam A). map stream_param so.done ++ q ∷ []) p_is
      ∙ sym (map-append stream_param so.done (piece ∷ []));
  all = so.all ∙ pieces_left so.done text piece more e f
      ∙ sym (append_assoc so.done (piece ∷ []) (pieces_of more));
}

-- the first piece with a fault
pub fault_told : {A : Type 0} (bytes : List ℕ) (params : List (StreamParam A)) (text piece : List ℕ)
    (more : Option (List ℕ)) (fault : ParamFault) → ReadSo bytes params (Some text)
    → piece ≡ before_first is_space text → more ≡ behind_first is_space text
    → piece_fault piece ≡ Some fault → IsStreamParamsFault bytes fault
fault_told bytes params text piece more fault so e f is = (
  filter_map piece_fault (pieces_of more),
  ap (filter_map piece_fault) (so.all ∙ pieces_left so.done text piece more e f)
      ∙ filter_map-append piece_fault so.done (piece ∷ pieces_of more)
      ∙ ap (λ (fs : List ParamFault). fs ++ filter_map piece_fault (piece ∷ pieces_of more)) so.sound
      ∙ ap (λ (o : Option ParamFault). cons_option o (filter_map piece_fault (pieces_of more))) is,
)

-- nothing is left
pub all_read : {A : Type 0} (bytes : List ℕ) (params : List (StreamParam A)) → ReadSo bytes params None
    → AreStreamParams bytes params
unfolding pieces_of
all_read bytes params so =
    let done : pieces bytes ≡ so.done = so.all ∙ append-nil so.done in
    record {
      sound = ap (filter_map piece_fault) done ∙ so.sound;
      says = so.says
          ∙ ap (map stream_param) (sym done);
    }

-- a piece, cut and without its escapes
pub name_cut : (piece text name : List ℕ) → text ≡ before_first is_equals piece → name ≡ percent_decode text
    → name ≡ name_of piece
unfolding name_of
name_cut piece text name e f = f ∙ ap percent_decode e

pub no_value : (piece : List ℕ) → (let none : Option (List ℕ) = None in none) ≡ behind_first is_equals piece
    → (let none : Option (List ℕ) = None in none) ≡ value_of piece
unfolding value_of
no_value piece e = ap (option_map percent_decode) e

pub value_cut : (piece text value : List ℕ) → Some text ≡ behind_first is_equals piece
    → value ≡ percent_decode text → Some value ≡ value_of piece
unfolding value_of
value_cut piece text value e f = ap (λ (v : List ℕ). Some v) f ∙ ap (option_map percent_decode) e

pub param_cut : {A : Type 0} (piece name : List ℕ) (value : Option (List ℕ)) → name ≡ name_of piece
    → value ≡ value_of piece
    → (let made : StreamParam A = record { name = name; value = value } in made) ≡ stream_param piece
param_cut {A} piece name value e f =
    let made : List ℕ → Option (List ℕ) → StreamParam A = λ n v. record { name = n; value = v } in
    ap (λ (n : List ℕ). made n value) e ∙ ap (λ (v : Option (List ℕ)). made (name_of piece) v) f

pub shorter : (left rest : Option (List ℕ)) (text : List ℕ) → rest ≡ Some text
    → left ≡ behind_first is_space text → size_of left < size_of rest
shorter left rest text e f = rw (e, f) (behind_shorter is_space text)

-- what reading a piece told is told of all
pub piece_told : {A : Type 0} (bytes : List ℕ) (params : List (StreamParam A)) (text piece : List ℕ)
    (more : Option (List ℕ)) (fault told : ParamFault) → ReadSo bytes params (Some text)
    → piece ≡ before_first is_space text → more ≡ behind_first is_space text
    → told ≡ fault → (fault ≡ NoMemory) ⊎ (piece_fault piece ≡ Some fault) → (told ≡ NoMemory)
    ⊎ IsStreamParamsFault bytes told
piece_told bytes params text piece more fault told so e f same (inl want) = inl (same ∙ want)
piece_told bytes params text piece more fault told so e f same (inr is) =
    inr (fault_told bytes params text piece more told so e f (is
    ∙ ap (λ (d : ParamFault). Some d) (sym same)))

pub one_list : {A : Type 0} (bytes : List ℕ) (a b : List (StreamParam A)) → AreStreamParams bytes a
    → AreStreamParams bytes b → a ≡ b
one_list bytes a b p q = p.says ∙ sym q.says

first_same : (a b : ParamFault) (xs ys : List ParamFault) → a ∷ xs ≡ b ∷ ys → a ≡ b
first_same a b xs ys e = cc

none_told : (a : ParamFault) (xs : List ParamFault) → [] ≡ a ∷ xs → ⊥
none_told a xs e = cc

pub no_params_fault : {A : Type 0} (bytes : List ℕ) (a : List (StreamParam A)) (fault : ParamFault)
    → AreStreamParams bytes a → IsStreamParamsFault bytes fault → ⊥
no_params_fault bytes a fault p h = none_told fault h.0 (sym p.sound ∙ h.1)

pub one_params_fault : (bytes : List ℕ) (a b : ParamFault) → IsStreamParamsFault bytes a
    → IsStreamParamsFault bytes b → a ≡ b
one_params_fault bytes a b h k = first_same a b h.0 k.0 (sym h.1 ∙ k.1)
