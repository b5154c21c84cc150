-- What can be written is what some header says.
use Rattle.std.proofs.Common.{◌≡◌, ℕ, ◌<◌, ◌^◌, Bool, true, false, cond, not, ◌&&◌, List, [], ◌∷◌, ◌++◌}
use Rattle.std.proofs.Common.{length, map, refl, sym, ap, subst, ◌∙◌, arith}
use Rattle.std.specs.List.{AllByRecursion, filter, list_all, list_any}
use Rattle.std.specs.Char.{is_ascii_uppercase, to_ascii_uppercase}
use Rattle.std.proofs.lemmas.Bool.Decides.{nat_tests}
use Rattle.std.proofs.lemmas.List.{append-nil}
use Rattle.std.proofs.lemmas.List.Elements.{All-from_recursion, recursion_from_All, filter-append}
use Rattle.hg_types.specs.declared.part.Param.{Param}
use Rattle.hg_params.specs.declared.head.Head.{Head}
use Rattle.hg_params.specs.Header.{KeyValue, Fields, HeaderFits, FitsByte, FitsSizes, IsHeader, is_kind}
use Rattle.hg_params.specs.Header.{is_kind_byte, AreDistinct, all_params, param, params_of}
use Rattle.hg_params.specs.Writing.{cased, key_value, mandatory_of, advisory_of, fields_of, header_bytes}
use Rattle.hg_params.specs.Writing.{written_head, AreInOrder, FitsParam, CanStand}
use Rattle.hg_params.proofs.HeaderLaws.{header_read, keys_same}
use Rattle.hg_params.proofs.Ordering.{mandatory_counted, advisory_counted, values_made, values_in_order}
use Rattle.hg_params.proofs.Spelling.{length_cased}

-- a byte of a type in upper case is one just where it was one
raised_byte : (b : ℕ) → is_kind_byte (to_ascii_uppercase b) ≡ is_kind_byte b
raised_byte b = grind (arith, nat_tests)

raised_bytes : (bytes : List ℕ)
    → list_all is_kind_byte (map to_ascii_uppercase bytes) ≡ list_all is_kind_byte bytes
raised_bytes [] = refl
raised_bytes (b ∷ bytes) =
    ap (λ (x : Bool). x && list_all is_kind_byte (map to_ascii_uppercase bytes)) (raised_byte b)
    ∙ ap (λ (x : Bool). is_kind_byte b && x) (raised_bytes bytes)

raised_kind : (kind : List ℕ) → is_kind (map to_ascii_uppercase kind) ≡ is_kind kind
raised_kind [] = refl
raised_kind (b ∷ bytes) = raised_bytes (b ∷ bytes)

kind_by : (b : Bool) (kind : List ℕ) → is_kind (cond b (map to_ascii_uppercase kind) kind) ≡ is_kind kind
kind_by true kind = raised_kind kind
kind_by false kind = refl

-- a type that is cased is one just where it was one
pub cased_kind : (kind : List ℕ) → is_kind (cased kind) ≡ is_kind kind
unfolding cased
cased_kind kind = kind_by (list_any is_ascii_uppercase kind) kind

sizes_fit : {A : Type 0} (params : List (Param A)) → AllByRecursion FitsParam params
    → AllByRecursion FitsSizes (map key_value params)
sizes_fit [] h = tt
sizes_fit (p ∷ params) h = (record { key = h.0.key; value = h.0.value }, sizes_fit params h.1)

-- the fields of what can be written fit
pub fields_fit : {A : Type 0} (kind : List ℕ) (id : ℕ) (params : List (Param A)) → id < 2 ^ 32
    → CanStand kind params → HeaderFits (fields_of (cased kind) id params)
fields_fit {A} kind id params small can =
    record {
      kind = rw (length_cased kind) can.kind_fits;
      id = small;
      mandatory = rw (← mandatory_counted params) can.mandatory_fit;
      advisory = rw (← advisory_counted params) can.advisory_fit;
      params = subst (AllByRecursion FitsSizes) (values_in_order params can.in_order)
          (sizes_fit params (recursion_from_All FitsParam params can.params_fit));
    }

pub read_back : {A : Type 0} (kind : List ℕ) (id : ℕ) (params : List (Param A)) → id < 2 ^ 32
    → CanStand kind params → IsHeader (header_bytes (cased kind) id params) (written_head kind id params)
unfolding header_bytes
read_back kind id params small can =
    header_read (header_bytes (cased kind) id params) (cased kind) id params
    (fields_of (cased kind) id params)
    (record { fits = fields_fit kind id params small can; spelled = refl })
    (cased_kind kind ∙ can.kind_is) refl refl can.in_order can.distinct

record Filtered (A : Type 0) (mandatory : Bool) (ps : List KeyValue) : Type 0 where
  kept : filter (λ q. q.mandatory) (map (param {A = A} mandatory) ps) ≡ cond mandatory
      (map (param mandatory) ps) []
  others : filter (λ q. not q.mandatory) (map (param {A = A} mandatory) ps) ≡ cond mandatory []
      (map (param mandatory) ps)

filtered : (A : Type 0) (mandatory : Bool) (ps : List KeyValue) → Filtered A mandatory ps
filtered A true [] = record { kept = refl; others = refl }
filtered A false [] = record { kept = refl; others = refl }
filtered A true (p ∷ ps) = let ih = filtered A true ps in
    record { kept = ap (λ (qs : List (Param A)). param true p ∷ qs) ih.kept; others = ih.others }
filtered A false (p ∷ ps) = let ih = filtered A false ps in
    record { kept = ih.kept; others = ap (λ (qs : List (Param A)). param false p ∷ qs) ih.others }

-- the mandatory parameters of fields, and the advisory ones, are found again
mandatory_again : (A : Type 0) (ms ads : List KeyValue)
    → mandatory_of (map (param {A = A} true) ms ++ map (param false) ads) ≡ ms
mandatory_again A ms ads =
    ap (λ (qs : List (Param A)). map key_value qs)
    (filter-append (λ (q : Param A). q.mandatory) (map (param true) ms) (map (param false) ads)
    ∙ ap (λ (qs : List (Param A)). qs
    ++ filter (λ (q : Param A). q.mandatory) (map (param {A = A} false) ads)) (filtered A true ms).kept
    ∙ ap (λ (qs : List (Param A)). map (param {A = A} true) ms ++ qs) (filtered A false ads).kept
    ∙ append-nil (map (param {A = A} true) ms))
    ∙ values_made A true ms

advisory_again : (A : Type 0) (ms ads : List KeyValue)
    → advisory_of (map (param {A = A} true) ms ++ map (param false) ads) ≡ ads
advisory_again A ms ads =
    ap (λ (qs : List (Param A)). map key_value qs)
    (filter-append (λ (q : Param A). not q.mandatory) (map (param true) ms) (map (param false) ads)
    ∙ ap (λ (qs : List (Param A)). qs
    ++ filter (λ (q : Param A). not q.mandatory) (map (param {A = A} false) ads))
    (filtered A true ms).others
    ∙ (filtered A false ads).others)
    ∙ values_made A false ads

params_fit_again : {A : Type 0} (params : List (Param A)) → AllByRecursion FitsSizes (map key_value params)
    → AllByRecursion FitsParam params
params_fit_again [] h = tt
params_fit_again (p ∷ params) h = (record { key = h.0.key; value = h.0.value }, params_fit_again params h.1)

-- parameters that fields say can stand in a header
record SaidByFields {A : Type 0} (params : List (Param A)) (f : Fields) : Type 0 where
  mandatory : mandatory_of params ≡ f.mandatory
  advisory : advisory_of params ≡ f.advisory
  order : AreInOrder params

said_by_fields : {A : Type 0} (params : List (Param A)) (f : Fields) → params ≡ params_of f
    → SaidByFields params f
said_by_fields {A} params f e =
    let m = ap mandatory_of e ∙ mandatory_again A f.mandatory f.advisory in
    let a = ap advisory_of e ∙ advisory_again A f.mandatory f.advisory in
    record {
      mandatory = m;
      advisory = a;
      order = e ∙ ap (λ (ms : List KeyValue). map (param {A = A} true) ms ++ map (param false) f.advisory)
          (sym m) ∙ ap (λ (ads : List KeyValue). map (param {A = A} true) (mandatory_of params)
          ++ map (param false) ads) (sym a);
    }

-- what some header says can be written
pub only_said : {A : Type 0} (kind : List ℕ) (id : ℕ) (params : List (Param A)) (bytes : List ℕ)
    → IsHeader bytes (written_head kind id params) → CanStand kind params
only_said {A} kind id params bytes h =
    let f = h.fields in
    let kind_same : cased kind ≡ f.kind = ap (λ (x : Head A). x.kind) h.says in
    let params_same : params ≡ params_of f = ap (λ (x : Head A). x.params) h.says in
    let said = said_by_fields params f params_same in
    let size : length f.kind ≡ length kind = ap length (sym kind_same) ∙ length_cased kind in
    let values : map key_value params ≡ all_params f =
    values_in_order params said.order ∙ ap (λ (ms : List KeyValue). ms ++ advisory_of params) said.mandatory
    ∙ ap (λ (ads : List KeyValue). f.mandatory ++ ads) said.advisory in
    let fits = h.sound.has.fits in
    record {
      kind_is = sym (cased_kind kind) ∙ ap is_kind kind_same ∙ h.sound.kind;
      kind_fits = subst FitsByte size fits.kind;
      mandatory_fit = subst FitsByte (sym (mandatory_counted params ∙ ap length said.mandatory))
          fits.mandatory;
      advisory_fit = subst FitsByte (sym (advisory_counted params ∙ ap length said.advisory)) fits.advisory;
      in_order = said.order;
      params_fit = All-from_recursion FitsParam params
          (params_fit_again params (subst (AllByRecursion FitsSizes) (sym values) fits.params));
      distinct = subst AreDistinct (sym (keys_same f params params_same)) h.sound.distinct;
    }
