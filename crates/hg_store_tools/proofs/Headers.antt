-- Headers of which parameters are left out.
use Rattle.std.proofs.Common.{◌≡◌, ◌≢◌, ℕ, ◌<◌, ◌≤◌, ◌^◌, Bool, true, false, cond, not, List, [], ◌∷◌, ◌++◌, length}
use Rattle.std.proofs.Common.{map}
use Rattle.std.proofs.Common.{count_by, refl, sym, ap, ◌∙◌, subst, arith}
use Rattle.std.specs.Prelude.{bytes_eq}
use Rattle.std.specs.List.{AllByRecursion, filter, list_any}
use Rattle.std.proofs.lemmas.List.{length-map}
use Rattle.std.proofs.lemmas.List.Elements.{All-from_recursion, filter-append}
use Rattle.std.proofs.lemmas.List.Sums.{count_by-le-length, length-filter}
use Rattle.hg_types.specs.declared.part.Param.{Param}
use Rattle.hg_params.specs.declared.head.Head.{Head}
use Rattle.hg_params.specs.Header.{AreDistinct, Fields, FitsByte, FitsSizes, HeaderFits, IsHeader, KeyValue, all_params}
use Rattle.hg_params.specs.Header.{is_kind, keys_of, param, params_of, spelling}
use Rattle.hg_params.specs.Writing.{CanStand, FitsParam, advisory_of, fields_of, header_bytes, key_value, mandatory_of}
use Rattle.hg_store_tools.specs.Canonical.{params_named}

-- ---- the parameters of fields

mandatory_again : (A : Type 0) (ms ads : List KeyValue)
    → mandatory_of (map (param {A = A} true) ms ++ map (param false) ads) ≡ ms
mandatory_again A [] [] = refl
mandatory_again A [] (p ∷ ads) = mandatory_again A [] ads
mandatory_again A (p ∷ ms) ads = ap (λ (l : List KeyValue). p ∷ l) (mandatory_again A ms ads)

advisory_again : (A : Type 0) (ms ads : List KeyValue)
    → advisory_of (map (param {A = A} true) ms ++ map (param false) ads) ≡ ads
advisory_again A [] [] = refl
advisory_again A [] (p ∷ ads) = ap (λ (l : List KeyValue). p ∷ l) (advisory_again A [] ads)
advisory_again A (p ∷ ms) ads = advisory_again A ms ads

fit_again : (A : Type 0) (ms ads : List KeyValue) → AllByRecursion FitsSizes (ms ++ ads)
    → AllByRecursion FitsParam (map (param {A = A} true) ms ++ map (param false) ads)
fit_again A [] [] h = tt
fit_again A [] (p ∷ ads) h = (record { key = h.0.key; value = h.0.value }, fit_again A [] ads h.1)
fit_again A (p ∷ ms) ads h = (record { key = h.0.key; value = h.0.value }, fit_again A ms ads h.1)

keys_again : (A : Type 0) (ms ads : List KeyValue)
    → map (λ p. p.key) (map (param {A = A} true) ms ++ map (param false) ads) ≡ keys_of (ms ++ ads)
keys_again A [] [] = refl
keys_again A [] (p ∷ ads) = ap (λ (l : List (List ℕ)). p.key ∷ l) (keys_again A [] ads)
keys_again A (p ∷ ms) ads = ap (λ (l : List (List ℕ)). p.key ∷ l) (keys_again A ms ads)

count_is : {A : Type 0} (p : Param A → Bool) (params : List (Param A))
    → count_by p params ≡ length (map key_value (filter p params))
count_is p params = sym (length-map (filter p params) key_value ∙ length-filter p params)

fields_again : (A : Type 0) (f : Fields) → fields_of f.kind f.id (params_of {A = A} f) ≡ f
fields_again A f =
    ap (λ (ms : List KeyValue). record {
      kind = f.kind;
      id = f.id;
      mandatory = ms;
      advisory = advisory_of (params_of {A = A} f);
    }) (mandatory_again A f.mandatory f.advisory)
    ∙ ap (λ (ads : List KeyValue). record { kind = f.kind; id = f.id; mandatory = f.mandatory; advisory = ads })
    (advisory_again A f.mandatory f.advisory)

-- fields that make a header
record AreSound (f : Fields) : Type 0 where
  fits : HeaderFits f
  kind : is_kind f.kind ≡ true
  distinct : AreDistinct (keys_of (all_params f))

can_stand : (A : Type 0) (f : Fields) → AreSound f → CanStand f.kind (params_of {A = A} f)
can_stand A f sound =
    let ms = mandatory_again A f.mandatory f.advisory in
    let ads = advisory_again A f.mandatory f.advisory in
    let params = params_of {A = A} f in
    record {
      kind_is = sound.kind;
      kind_fits = sound.fits.kind;
      mandatory_fit = subst FitsByte (sym (count_is (λ p. p.mandatory) params ∙ ap length ms)) sound.fits.mandatory;
      advisory_fit = subst FitsByte (sym (count_is (λ p. not p.mandatory) params ∙ ap length ads))
          sound.fits.advisory;
      in_order = ap (λ (l : List KeyValue). map (param {A = A} true) l ++ map (param false) f.advisory) (sym ms)
          ∙ ap (λ (l : List KeyValue). map (param {A = A} true) (mandatory_of params) ++ map (param false) l)
          (sym ads);
      params_fit = All-from_recursion FitsParam params (fit_again A f.mandatory f.advisory sound.fits.params);
      distinct = subst AreDistinct (sym (keys_again A f.mandatory f.advisory)) sound.distinct;
    }

-- ---- those of some names alone

abbrev has_name : List (List ℕ) → KeyValue → Bool
has_name names p = list_any (λ name. bytes_eq name p.key) names

abbrev kept : List (List ℕ) → Fields → Fields
kept names f = record f {
  mandatory = filter (has_name names) f.mandatory;
  advisory = filter (has_name names) f.advisory;
}

params_kept : (A : Type 0) (names : List (List ℕ)) (ms ads : List KeyValue)
    → params_named names (map (param {A = A} true) ms ++ map (param false) ads)
    ≡ map (param true) (filter (has_name names) ms) ++ map (param false) (filter (has_name names) ads)
params_kept A names [] [] = refl
params_kept A names [] (p ∷ ads) =
    elim (has_name names p) as (λ b. cond b (param {A = A} false p ∷ params_named names (map (param false) ads))
    (params_named names (map (param false) ads)) ≡ map (param false) (cond b (p ∷ filter (has_name names) ads)
    (filter (has_name names) ads))) [
      | true ↦ ap (λ (l : List (Param A)). param false p ∷ l) (params_kept A names [] ads)
      | false ↦ params_kept A names [] ads
    ]
params_kept A names (p ∷ ms) ads =
    let more = map (param {A = A} true) ms ++ map (param false) ads in
    elim (has_name names p) as (λ b. cond b (param {A = A} true p ∷ params_named names more)
    (params_named names more) ≡ map (param true) (cond b (p ∷ filter (has_name names) ms)
    (filter (has_name names) ms)) ++ map (param false) (filter (has_name names) ads)) [
      | true ↦ ap (λ (l : List (Param A)). param true p ∷ l) (params_kept A names ms ads)
      | false ↦ params_kept A names ms ads
    ]

filter_short : (names : List (List ℕ)) (ps : List KeyValue) → length (filter (has_name names) ps) ≤ length ps
filter_short names ps =
    let le = count_by-le-length (has_name names) ps in
    let is = length-filter (has_name names) ps in
    omega (arith, le, is)

all_kept : {X : Type 0} (P : X → Type 0) (q : X → Bool) (xs : List X) → AllByRecursion P xs
    → AllByRecursion P (filter q xs)
all_kept P q [] h = tt
all_kept P q (x ∷ xs) h =
    elim (q x) as (λ b. AllByRecursion P (cond b (x ∷ filter q xs) (filter q xs))) [
      | true ↦ (h.0, all_kept P q xs h.1)
      | false ↦ all_kept P q xs h.1
    ]

apart_kept : (key : List ℕ) (q : KeyValue → Bool) (ps : List KeyValue)
    → AllByRecursion (λ later. key ≢ later) (keys_of ps) → AllByRecursion (λ later. key ≢ later) (keys_of (filter q ps))
apart_kept key q [] h = tt
apart_kept key q (p ∷ ps) h =
    elim (q p) as (λ b. AllByRecursion (λ later. key ≢ later) (keys_of (cond b (p ∷ filter q ps) (filter q ps)))) [
      | true ↦ (h.0, apart_kept key q ps h.1)
      | false ↦ apart_kept key q ps h.1
    ]

distinct_kept : (q : KeyValue → Bool) (ps : List KeyValue) → AreDistinct (keys_of ps)
    → AreDistinct (keys_of (filter q ps))
unfolding AreDistinct
distinct_kept q [] h = tt
distinct_kept q (p ∷ ps) h =
    elim (q p) as (λ b. AreDistinct (keys_of (cond b (p ∷ filter q ps) (filter q ps)))) [
      | true ↦ (apart_kept p.key q ps h.0, distinct_kept q ps h.1)
      | false ↦ distinct_kept q ps h.1
    ]

kept_sound : (names : List (List ℕ)) (f : Fields) → AreSound f → AreSound (kept names f)
kept_sound names f sound =
    let both = filter-append (has_name names) f.mandatory f.advisory in
    let few = filter_short names f.mandatory in
    let few_more = filter_short names f.advisory in
    record {
      fits = record {
        kind = sound.fits.kind;
        id = sound.fits.id;
        mandatory = omega (arith, few, sound.fits.mandatory);
        advisory = omega (arith, few_more, sound.fits.advisory);
        params = subst (AllByRecursion FitsSizes) both
            (all_kept FitsSizes (has_name names) (all_params f) sound.fits.params);
      };
      kind = sound.kind;
      distinct = subst (λ (ps : List KeyValue). AreDistinct (keys_of ps)) both
          (distinct_kept (has_name names) (all_params f) sound.distinct);
    }

-- what a header said can stand in one without some of its parameters
pub record Stands {A : Type 0} (kind : List ℕ) (id : ℕ) (params : List (Param A)) : Type 0 where
  pub number : id < 2 ^ 32
  pub can : CanStand kind params
  pub header : IsHeader (header_bytes kind id params) (record { kind = kind; id = id; params = params })

sound_stands : (A : Type 0) (f : Fields) → AreSound f → Stands f.kind f.id (params_of {A = A} f)
unfolding header_bytes
sound_stands A f sound = record {
  number = sound.fits.id;
  can = can_stand A f sound;
  header = record {
    fields = f;
    sound = record {
      has = record { fits = sound.fits; spelled = ap spelling (fields_again A f) };
      kind = sound.kind;
      distinct = sound.distinct;
    };
    says = refl;
  };
}

pub stands_named : {A : Type 0} (names : List (List ℕ)) (header : List ℕ) (head : Head A) → IsHeader header head
    → Stands head.kind head.id (params_named names head.params)
stands_named {A} names header head h =
    let f = h.fields in
    let sound : AreSound f = record { fits = h.sound.has.fits; kind = h.sound.kind; distinct = h.sound.distinct } in
    let stands : Stands f.kind f.id (params_named names (params_of {A = A} f)) =
    subst (Stands f.kind f.id) (sym (params_kept A names f.mandatory f.advisory))
    (sound_stands A (kept names f) (kept_sound names f sound)) in
    subst (λ (it : Head A). Stands it.kind it.id (params_named names it.params)) (sym h.says) stands
