-- The bytes of a header have one reading.
use Rattle.std.proofs.Common.{◌≡◌, ℕ, Bool, true, false, List, [], ◌∷◌, ◌++◌, ◌<◌, length, map, Result, Ok}
use Rattle.std.proofs.Common.{Err, refl, sym, ap, subst, ◌∙◌, arith}
use Rattle.std.proofs.lemmas.List.{append-nil, map-append}
use Rattle.hg_types.specs.declared.part.Param.{Param}
use Rattle.hg_params.specs.declared.head.Head.{Head}
use Rattle.hg_params.specs.declared.fault.ParamFault.{ParamFault}
use Rattle.hg_params.specs.declared.fault.ParamFault.TheVariants.{Short, Leftover, BadType, RepeatedKey}
use Rattle.hg_params.specs.declared.fault.ParamFault.TheVariants.{EmptyName, BadName, UnknownMandatory}
use Rattle.hg_params.specs.declared.fault.ParamFault.TheVariants.{Compressed, NoMemory}
use Rattle.hg_params.specs.Header.{KeyValue, Fields, HeaderFits, spelling, is_kind, all_params, keys_of}
use Rattle.hg_params.specs.Header.{AreDistinct, HasFields, param, params_of, head_of, IsHeader, IsShort}
use Rattle.hg_params.specs.Header.{HasRest, IsHeaderFault}
use Rattle.hg_params.specs.code.Reading.{Front, front_at, fields_in}
use Rattle.hg_params.proofs.FieldLaws.{ReadsFields, front_of, front_again, fields_again, front_err}
use Rattle.hg_params.proofs.Keys.{param_keys}

record Same (f g : Fields) (r s : List ℕ) : Type 0 where
  fields : f ≡ g
  rest : r ≡ s

ok_front : (a b : Front × List ℕ) → (let r : Result (Front × List ℕ) ParamFault = Ok a in r) ≡ Ok b → a ≡ b
ok_front a b e = cc

same_fields : (f g : Fields) (r s : List ℕ) → HeaderFits f → HeaderFits g → spelling f ++ r ≡ spelling g ++ s
    → Same f g r s
same_fields f g r s fits_f fits_g e =
    let both = ok_front (front_of f, r) (front_of g, s) (sym (front_again f r fits_f) ∙ ap front_at e
    ∙ front_again g s fits_g) in
    record {
      fields = sym (fields_again f) ∙ ap (λ (x : Front × List ℕ). fields_in x.0) both ∙ fields_again g;
      rest = ap (λ (x : Front × List ℕ). x.1) both;
    }

one_spelling : (bytes : List ℕ) (f g : Fields) → HasFields bytes f → HasFields bytes g → f ≡ g
one_spelling bytes f g a b =
    (same_fields f g [] [] a.fits b.fits (append-nil (spelling f) ∙ sym a.spelled ∙ b.spelled
    ∙ sym (append-nil (spelling g)))).fields

no_rest : (bytes : List ℕ) (f g : Fields) (rest : List ℕ) → HasFields bytes f → HeaderFits g → bytes ≡ spelling g
    ++ rest → rest ≡ []
no_rest bytes f g rest a fits e =
    sym (same_fields f g [] rest a.fits fits (append-nil (spelling f) ∙ sym a.spelled ∙ e)).rest

pub is_short : (bytes : List ℕ) (d : ParamFault) → front_at bytes ≡ Err d → IsShort bytes
is_short bytes d e f rest fits same = let read : front_at bytes ≡ Ok (front_of f, rest) = ap front_at same
    ∙ front_again f rest fits in cc

not_short : (bytes : List ℕ) (f : Fields) → HasFields bytes f → IsShort bytes → ⊥
not_short bytes f a short = short f [] a.fits (a.spelled ∙ sym (append-nil (spelling f)))

not_left : (bytes : List ℕ) (f : Fields) → HasFields bytes f → HasRest bytes → ⊥
not_left bytes f a h = let none : h.rest ≡ [] = no_rest bytes f h.fields h.rest a h.fits h.spelled in
    let len : length h.rest ≡ 0 = ap length none in let some : 0 < length h.rest = h.some in omega arith

-- a header says one thing
pub one_value : {A : Type 0} (bytes : List ℕ) (a b : Head A) → IsHeader bytes a → IsHeader bytes b → a ≡ b
one_value bytes a b p q = p.says ∙ ap head_of (one_spelling bytes p.fields q.fields p.sound.has q.sound.has)
    ∙ sym q.says

kind_is_not : (bytes : List ℕ) (f g : Fields) → HasFields bytes f → HasFields bytes g → is_kind f.kind ≡ true
    → is_kind g.kind ≡ false → ⊥
kind_is_not bytes f g a b is is_not =
    let same : is_kind f.kind ≡ is_kind g.kind = ap (λ (x : Fields). is_kind x.kind)
    (one_spelling bytes f g a b) in cc

-- and a header has no fault
pub no_fault : {A : Type 0} (bytes : List ℕ) (a : Head A) (fault : ParamFault) → IsHeader bytes a
    → IsHeaderFault bytes fault → ⊥
unfolding IsHeaderFault
no_fault bytes a Short p h = not_short bytes p.fields p.sound.has h
no_fault bytes a Leftover p h = not_left bytes p.fields p.sound.has h
no_fault bytes a BadType p h = kind_is_not bytes p.fields h.fields p.sound.has h.has p.sound.kind h.kind
no_fault bytes a RepeatedKey p h =
    h.repeated (subst (λ (x : Fields). AreDistinct (keys_of (all_params x)))
    (one_spelling bytes p.fields h.fields p.sound.has h.has) p.sound.distinct)
no_fault bytes a EmptyName p h = h
no_fault bytes a BadName p h = h
no_fault bytes a UnknownMandatory p h = h
no_fault bytes a Compressed p h = h
no_fault bytes a NoMemory p h = h

-- what the reading of the fields tells
pub fields_fault : (bytes : List ℕ) (d e : ParamFault) → front_at bytes ≡ Err d → e ≡ d
    → IsHeaderFault bytes e
unfolding IsHeaderFault
fields_fault bytes d e h same =
    subst (λ (f : ParamFault). IsHeaderFault bytes f) (sym (same ∙ front_err bytes d h)) (is_short bytes d h)

pub has_fields : (bytes : List ℕ) (front : Front) (rest : List ℕ) → ReadsFields bytes front rest → rest ≡ []
    → HasFields bytes (fields_in front)
has_fields bytes front rest r none =
    record {
      fits = r.fits;
      spelled = r.spelled ∙ ap (λ (x : List ℕ). spelling (fields_in front) ++ x) none
          ∙ append-nil (spelling (fields_in front));
    }

pub leftover : (bytes : List ℕ) (front : Front) (rest : List ℕ) → ReadsFields bytes front rest
    → 0 < length rest → IsHeaderFault bytes Leftover
unfolding IsHeaderFault
leftover bytes front rest r some =
    record { fields = fields_in front; rest = rest; fits = r.fits; spelled = r.spelled; some = some }

pub bad_type : (bytes : List ℕ) (f : Fields) → HasFields bytes f → is_kind f.kind ≡ false
    → IsHeaderFault bytes BadType
unfolding IsHeaderFault
bad_type bytes f has is_not = record { fields = f; has = has; kind = is_not }

keys_made : (A : Type 0) (mandatory : Bool) (ps : List KeyValue)
    → param_keys {A = A} (map (param mandatory) ps) ≡ keys_of ps
keys_made A mandatory [] = refl
keys_made A mandatory (p ∷ ps) = ap (λ (keys : List (List ℕ)). p.key ∷ keys) (keys_made A mandatory ps)

pub keys_same : {A : Type 0} (f : Fields) (params : List (Param A)) → params ≡ params_of f
    → param_keys params ≡ keys_of (all_params f)
keys_same {A} f params e =
    ap param_keys e
    ∙ map-append (λ (p : Param A). p.key) (map (param true) f.mandatory) (map (param false) f.advisory)
    ∙ ap (λ (keys : List (List ℕ)). keys ++ param_keys {A = A} (map (param false) f.advisory))
    (keys_made A true f.mandatory)
    ∙ ap (λ (keys : List (List ℕ)). keys_of f.mandatory ++ keys) (keys_made A false f.advisory)
    ∙ sym (map-append (λ (p : KeyValue). p.key) f.mandatory f.advisory)

pub repeated : {A : Type 0} (bytes : List ℕ) (f : Fields) (params : List (Param A)) → HasFields bytes f
    → is_kind f.kind ≡ true → params ≡ params_of f → (AreDistinct (param_keys params) → ⊥)
    → IsHeaderFault bytes RepeatedKey
unfolding IsHeaderFault
repeated bytes f params has is e twice =
    record {
      fields = f;
      has = has;
      kind = is;
      repeated = λ d. twice (subst AreDistinct (sym (keys_same f params e)) d);
    }

pub header_read : {A : Type 0} (bytes kind : List ℕ) (id : ℕ) (params : List (Param A)) (f : Fields)
    → HasFields bytes f → is_kind f.kind ≡ true → kind ≡ f.kind → id ≡ f.id → params ≡ params_of f
    → AreDistinct (param_keys params)
    → IsHeader bytes (record { kind = kind; id = id; params = params })
header_read {A} bytes kind id params f has is kind_is id_is params_are distinct =
    let head : List ℕ → ℕ → List (Param A) → Head A = λ k n ps. record { kind = k; id = n; params = ps } in
    record {
      fields = f;
      sound = record {
        has = has;
        kind = is;
        distinct = subst AreDistinct (keys_same f params params_are) distinct;
      };
      says = ap (λ (k : List ℕ). head k id params) kind_is ∙ ap (λ (n : ℕ). head f.kind n params) id_is
          ∙ ap (λ (ps : List (Param A)). head f.kind f.id ps) params_are;
    }

-- the mandatory parameters were added, and then the advisory ones
pub both_added : {A : Type 0} (f : Fields) (none first second : List (Param A)) → none ≡ [] → first ≡ none
    ++ map (param true) f.mandatory → second ≡ first ++ map (param false) f.advisory → second ≡ params_of f
both_added {A} f none first second e p q =
    q ∙ ap (λ (ps : List (Param A)). ps ++ map (param false) f.advisory) (p
    ∙ ap (λ (ps : List (Param A)). ps ++ map (param true) f.mandatory) e)

-- and its bytes have one fault at most
pub one_fault : (bytes : List ℕ) (a b : ParamFault) → IsHeaderFault bytes a → IsHeaderFault bytes b → a ≡ b
unfolding IsHeaderFault
one_fault bytes Short Short h k = refl
one_fault bytes Short Leftover h k = absurd (h k.fields k.rest k.fits k.spelled)
one_fault bytes Short BadType h k = absurd (not_short bytes k.fields k.has h)
one_fault bytes Short RepeatedKey h k = absurd (not_short bytes k.fields k.has h)
one_fault bytes Leftover Short h k = absurd (k h.fields h.rest h.fits h.spelled)
one_fault bytes Leftover Leftover h k = refl
one_fault bytes Leftover BadType h k = absurd (not_left bytes k.fields k.has h)
one_fault bytes Leftover RepeatedKey h k = absurd (not_left bytes k.fields k.has h)
one_fault bytes BadType Short h k = absurd (not_short bytes h.fields h.has k)
one_fault bytes BadType Leftover h k = absurd (not_left bytes h.fields h.has k)
one_fault bytes BadType BadType h k = refl
one_fault bytes BadType RepeatedKey h k =
    absurd (kind_is_not bytes k.fields h.fields k.has h.has k.kind h.kind)
one_fault bytes RepeatedKey Short h k = absurd (not_short bytes h.fields h.has k)
one_fault bytes RepeatedKey Leftover h k = absurd (not_left bytes h.fields h.has k)
one_fault bytes RepeatedKey BadType h k =
    absurd (kind_is_not bytes h.fields k.fields h.has k.has h.kind k.kind)
one_fault bytes RepeatedKey RepeatedKey h k = refl
one_fault bytes EmptyName b h k = absurd h
one_fault bytes BadName b h k = absurd h
one_fault bytes UnknownMandatory b h k = absurd h
one_fault bytes Compressed b h k = absurd h
one_fault bytes NoMemory b h k = absurd h
one_fault bytes a EmptyName h k = absurd k
one_fault bytes a BadName h k = absurd k
one_fault bytes a UnknownMandatory h k = absurd k
one_fault bytes a Compressed h k = absurd k
one_fault bytes a NoMemory h k = absurd k
