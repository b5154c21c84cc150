-- Parameters in order, by their number.
use Rattle.std.proofs.Common.{◌≡◌, ℕ, zero, suc, ◌<◌, Bool, true, false, cond, not, ◌&&◌, List, [], ◌∷◌, ◌++◌}
use Rattle.std.proofs.Common.{length, map, take, count_by, refl, sym, ap, ◌∙◌, arith}
use Rattle.std.specs.List.{filter, list_all}
use Rattle.std.proofs.lemmas.Bool.{false≢true}
use Rattle.std.proofs.lemmas.List.{map-append}
use Rattle.std.proofs.lemmas.List.Sums.{length-filter, sum_by-cons}
use Rattle.hg_types.specs.declared.part.Param.{Param}
use Rattle.hg_params.specs.Header.{KeyValue, param}
use Rattle.hg_params.specs.Writing.{key_value, mandatory_of, advisory_of, AreInOrder}

abbrev is_mandatory : {A : Type 0} → Param A → Bool
is_mandatory p = p.mandatory

pub length_values : {A : Type 0} (params : List (Param A)) → length (map key_value params) ≡ length params
length_values [] = refl
length_values (p ∷ ps) = ap suc (length_values ps)

pub mandatory_counted : {A : Type 0} (params : List (Param A))
    → count_by (λ p. p.mandatory) params ≡ length (mandatory_of params)
mandatory_counted {A} params =
    sym (length_values (filter (λ (p : Param A). p.mandatory) params)
    ∙ length-filter (λ (p : Param A). p.mandatory) params)

pub advisory_counted : {A : Type 0} (params : List (Param A))
    → count_by (λ p. not p.mandatory) params ≡ length (advisory_of params)
advisory_counted {A} params =
    sym (length_values (filter (λ (p : Param A). not p.mandatory) params)
    ∙ length-filter (λ (p : Param A). not p.mandatory) params)

-- the first parameters, as many as are mandatory, are mandatory
abbrev pub front_is : {A : Type 0} → List (Param A) → Bool
front_is params = list_all (λ p. p.mandatory) (take (count_by (λ p. p.mandatory) params) params)

param_again : {A : Type 0} (p : Param A) (mandatory : Bool) → p.mandatory ≡ mandatory
    → param mandatory (key_value p) ≡ p
param_again {A} p mandatory e = ap (λ (m : Bool). param {A = A} m (key_value p)) (sym e)

counted_yes : {A : Type 0} (p : Param A) (ps : List (Param A)) → p.mandatory ≡ true
    → count_by (λ q. q.mandatory) (p ∷ ps) ≡ suc (count_by (λ q. q.mandatory) ps)
counted_yes {A} p ps e = let all = sum_by-cons (λ (q : Param A). cond q.mandatory 1 0) p ps in
    let one : cond {A = ℕ} p.mandatory 1 0 ≡ 1 = ap (λ (b : Bool). cond {A = ℕ} b 1 0) e in omega arith

counted_no : {A : Type 0} (p : Param A) (ps : List (Param A)) → p.mandatory ≡ false
    → count_by (λ q. q.mandatory) (p ∷ ps) ≡ count_by (λ q. q.mandatory) ps
counted_no {A} p ps e = let all = sum_by-cons (λ (q : Param A). cond q.mandatory 1 0) p ps in
    let none : cond {A = ℕ} p.mandatory 1 0 ≡ 0 = ap (λ (b : Bool). cond {A = ℕ} b 1 0) e in omega arith

-- where none is mandatory, all are advisory
record NoneMandatory {A : Type 0} (ps : List (Param A)) : Type 0 where
  none : filter (λ q. q.mandatory) ps ≡ []
  all : map (param false) (advisory_of ps) ≡ ps

none_more : {A : Type 0} (p : Param A) (ps : List (Param A)) → p.mandatory ≡ false → NoneMandatory ps
    → NoneMandatory (p ∷ ps)
none_more {A} p ps flag n = record {
  none = ap (λ (b : Bool). cond b (p ∷ filter (λ (q : Param A). q.mandatory) ps)
      (filter (λ (q : Param A). q.mandatory) ps)) flag ∙ n.none;
  all =
      ap (λ (b : Bool). map (param {A = A} false)
      (map key_value (cond (not b) (p ∷ filter (λ (q : Param A). not q.mandatory) ps)
      (filter (λ (q : Param A). not q.mandatory) ps)))) flag
      ∙ ap (λ (q : Param A). q ∷ map (param false) (advisory_of ps)) (param_again p false flag)
      ∙ ap (λ (qs : List (Param A)). p ∷ qs) n.all;
}

none_by : {A : Type 0} (b : Bool) (p : Param A) (ps : List (Param A))
    → count_by (λ q. q.mandatory) (p ∷ ps) ≡ 0 → p.mandatory ≡ b
    → (count_by (λ q. q.mandatory) ps ≡ 0 → NoneMandatory ps) → NoneMandatory (p ∷ ps)
none_by true p ps e flag ih = let some = counted_yes p ps flag in absurd (omega arith)
none_by false p ps e flag ih = none_more p ps flag (ih (sym (counted_no p ps flag) ∙ e))

none_mandatory : {A : Type 0} (ps : List (Param A)) → count_by (λ q. q.mandatory) ps ≡ 0 → NoneMandatory ps
none_mandatory [] e = record { none = refl; all = refl }
none_mandatory {A} (p ∷ ps) e = none_by p.mandatory p ps e refl (none_mandatory ps)

-- a mandatory one first
in_order_yes : {A : Type 0} (p : Param A) (ps : List (Param A)) → p.mandatory ≡ true
    → map (param true) (mandatory_of (p ∷ ps)) ++ map (param false) (advisory_of (p ∷ ps)) ≡ p
    ∷ (map (param true) (mandatory_of ps) ++ map (param false) (advisory_of ps))
in_order_yes {A} p ps flag =
    ap (λ (b : Bool). map (param {A = A} true)
    (map key_value (cond b (p ∷ filter (λ (q : Param A). q.mandatory) ps)
    (filter (λ (q : Param A). q.mandatory) ps)))
    ++ map (param {A = A} false)
    (map key_value (cond (not b) (p ∷ filter (λ (q : Param A). not q.mandatory) ps)
    (filter (λ (q : Param A). not q.mandatory) ps)))) flag
    ∙ ap (λ (q : Param A). q ∷ (map (param true) (mandatory_of ps) ++ map (param false) (advisory_of ps)))
    (param_again p true flag)

-- an advisory one first
in_order_no : {A : Type 0} (p : Param A) (ps : List (Param A)) → p.mandatory ≡ false
    → map (param true) (mandatory_of (p ∷ ps))
    ++ map (param false) (advisory_of (p ∷ ps)) ≡ map (param true) (mandatory_of ps)
    ++ (p ∷ map (param false) (advisory_of ps))
in_order_no {A} p ps flag =
    ap (λ (b : Bool). map (param {A = A} true)
    (map key_value (cond b (p ∷ filter (λ (q : Param A). q.mandatory) ps)
    (filter (λ (q : Param A). q.mandatory) ps)))
    ++ map (param {A = A} false)
    (map key_value (cond (not b) (p ∷ filter (λ (q : Param A). not q.mandatory) ps)
    (filter (λ (q : Param A). not q.mandatory) ps)))) flag
    ∙ ap (λ (q : Param A). map (param true) (mandatory_of ps) ++ (q ∷ map (param false) (advisory_of ps)))
    (param_again p false flag)

front_yes : {A : Type 0} (p : Param A) (ps : List (Param A)) → p.mandatory ≡ true
    → front_is (p ∷ ps) ≡ front_is ps
front_yes {A} p ps flag =
    ap (λ (n : ℕ). list_all (λ (q : Param A). q.mandatory) (take n (p ∷ ps))) (counted_yes p ps flag)
    ∙ ap (λ (b : Bool). b && front_is ps) flag

front_no : {A : Type 0} (n : ℕ) (p : Param A) (ps : List (Param A)) → p.mandatory ≡ false
    → list_all (λ q. q.mandatory) (take (suc n) (p ∷ ps)) ≡ false
front_no {A} n p ps flag = ap (λ (b : Bool). b && list_all (λ (q : Param A). q.mandatory) (take n ps)) flag

front_counted : {A : Type 0} (n : ℕ) (p : Param A) (ps : List (Param A)) → p.mandatory ≡ false
    → count_by (λ q. q.mandatory) ps ≡ n → front_is (p ∷ ps) ≡ list_all (λ q. q.mandatory) (take n (p ∷ ps))
front_counted {A} n p ps flag e =
    ap (λ (k : ℕ). list_all (λ (q : Param A). q.mandatory) (take k (p ∷ ps))) (counted_no p ps flag ∙ e)

from_front_no : {A : Type 0} (n : ℕ) (p : Param A) (ps : List (Param A)) → p.mandatory ≡ false
    → count_by (λ q. q.mandatory) ps ≡ n → front_is (p ∷ ps) ≡ true → AreInOrder (p ∷ ps)
from_front_no {A} zero p ps flag e h =
    let n = none_mandatory ps e in
    sym (in_order_no p ps flag
    ∙ ap (λ (qs : List (Param A)). map (param true) (map key_value qs)
    ++ (p ∷ map (param false) (advisory_of ps))) n.none
    ∙ ap (λ (qs : List (Param A)). p ∷ qs) n.all)
from_front_no (suc n) p ps flag e h =
    absurd (false≢true (sym (front_no n p ps flag) ∙ sym (front_counted (suc n) p ps flag e) ∙ h))

from_front_by : {A : Type 0} (b : Bool) (p : Param A) (ps : List (Param A)) → p.mandatory ≡ b
    → (front_is ps ≡ true → AreInOrder ps) → front_is (p ∷ ps) ≡ true → AreInOrder (p ∷ ps)
from_front_by {A} true p ps flag ih h =
    ap (λ (qs : List (Param A)). p ∷ qs) (ih (sym (front_yes p ps flag) ∙ h)) ∙ sym (in_order_yes p ps flag)
from_front_by {A} false p ps flag ih h =
    from_front_no (count_by (λ (q : Param A). q.mandatory) ps) p ps flag refl h

pub order_from_front : {A : Type 0} (ps : List (Param A)) → front_is ps ≡ true → AreInOrder ps
order_from_front [] h = refl
order_from_front (p ∷ ps) h = from_front_by p.mandatory p ps refl (order_from_front ps) h

first_mandatory : {A : Type 0} (p : Param A) (ps : List (Param A)) (ms : List KeyValue)
    (rest : List (Param A)) → p ∷ ps ≡ map (param true) ms ++ rest → 0 < length ms → p.mandatory ≡ true
first_mandatory p ps [] rest e some = absurd (omega arith)
first_mandatory {A} p ps (m ∷ ms) rest e some = let same : p ≡ param true m = cc in
    ap (λ (q : Param A). q.mandatory) same

to_front_no : {A : Type 0} (n : ℕ) (p : Param A) (ps : List (Param A)) → p.mandatory ≡ false
    → count_by (λ q. q.mandatory) ps ≡ n → AreInOrder (p ∷ ps) → front_is (p ∷ ps) ≡ true
to_front_no zero p ps flag e h = front_counted 0 p ps flag e
to_front_no {A} (suc n) p ps flag e h =
    let many : length (mandatory_of ps) ≡ suc n = sym (mandatory_counted ps) ∙ e in
    absurd (false≢true (sym flag
    ∙ first_mandatory p ps (mandatory_of ps) (p ∷ map (param false) (advisory_of ps)) (h
    ∙ in_order_no p ps flag) (omega arith)))

tail_is : {A : Type 0} (p : A) (ps qs : List A) → p ∷ ps ≡ p ∷ qs → ps ≡ qs
tail_is p ps qs e = cc

to_front_by : {A : Type 0} (b : Bool) (p : Param A) (ps : List (Param A)) → p.mandatory ≡ b
    → (AreInOrder ps → front_is ps ≡ true) → AreInOrder (p ∷ ps) → front_is (p ∷ ps) ≡ true
to_front_by true p ps flag ih h = front_yes p ps flag ∙ ih (tail_is p ps _ (h ∙ in_order_yes p ps flag))
to_front_by {A} false p ps flag ih h =
    to_front_no (count_by (λ (q : Param A). q.mandatory) ps) p ps flag refl h

pub front_from_order : {A : Type 0} (ps : List (Param A)) → AreInOrder ps → front_is ps ≡ true
front_from_order [] h = refl
front_from_order (p ∷ ps) h = to_front_by p.mandatory p ps refl (front_from_order ps) h

-- the keys and values of parameters in order
pub values_made : (A : Type 0) (mandatory : Bool) (ps : List KeyValue)
    → map (λ (p : Param A). key_value p) (map (param mandatory) ps) ≡ ps
values_made A mandatory [] = refl
values_made A mandatory (p ∷ ps) = ap (λ (qs : List KeyValue). p ∷ qs) (values_made A mandatory ps)

pub values_in_order : {A : Type 0} (ps : List (Param A)) → AreInOrder ps → map key_value ps ≡ mandatory_of ps
    ++ advisory_of ps
values_in_order {A} ps e =
    ap (λ (qs : List (Param A)). map key_value qs) e
    ∙ map-append (λ (p : Param A). key_value p) (map (param true) (mandatory_of ps))
    (map (param false) (advisory_of ps))
    ∙ ap (λ (vs : List KeyValue). vs
    ++ map (λ (p : Param A). key_value p) (map (param false) (advisory_of ps)))
    (values_made A true (mandatory_of ps))
    ∙ ap (λ (vs : List KeyValue). mandatory_of ps ++ vs) (values_made A false (advisory_of ps))
