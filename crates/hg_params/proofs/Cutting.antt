-- Parameters cut from their texts by their sizes, and spelled again.
use Rattle.std.proofs.Common.{◌≡◌, ℕ, zero, suc, ◌+◌, ◌*◌, ◌<◌, ◌≤◌, List, [], ◌∷◌, ◌++◌, length, get_or}
use Rattle.std.proofs.Common.{take, drop, refl, sym, ap, ◌∙◌, map, Bool, Ok, Err, append_assoc, arith}
use Rattle.std.proofs.Common.{length-append, length-take, length-drop}
use Rattle.std.specs.List.{sum, AllByRecursion, flat_map}
use Rattle.std.proofs.lemmas.List.{take_at, drop_at, take-append-drop, nil_from_length}
use Rattle.std.proofs.lemmas.List.Sums.{sum_by-cons}
use Rattle.hg_types.specs.declared.part.Param.{Param}
use Rattle.hg_params.specs.declared.fault.ParamFault.{ParamFault}
use Rattle.hg_params.specs.Header.{KeyValue, FitsSizes, param_sizes, param_data, param}
use Rattle.hg_params.specs.code.Reading.{pair_at, params_in}

abbrev pub IsBytes : List ℕ → Type 0
IsBytes bytes = (i : ℕ) → get_or bytes i 0 < 256

-- what is cut has these sizes and these texts
pub record Cuts (count : ℕ) (sizes texts : List ℕ) : Type 0 where
  pub number : length (params_in sizes texts) ≡ count
  pub sizes_are : flat_map param_sizes (params_in sizes texts) ≡ sizes
  pub texts_are : flat_map param_data (params_in sizes texts) ≡ texts

sum-cons : (x : ℕ) (xs : List ℕ) → sum (x ∷ xs) ≡ x + sum xs
sum-cons x xs = sum_by-cons (λ (n : ℕ). n) x xs

sum-two : (x y : ℕ) (xs : List ℕ) → sum (x ∷ y ∷ xs) ≡ x + (y + sum xs)
sum-two x y xs = sum-cons x (y ∷ xs) ∙ ap (λ (n : ℕ). x + n) (sum-cons y xs)

length_taken : (n : ℕ) (xs : List ℕ) → n ≤ length xs → length (take n xs) ≡ n
length_taken n xs h = omega (arith, length-take n xs)

cuts_at : (k v n : ℕ) (sizes texts : List ℕ) → k + v ≤ length texts → Cuts n sizes (drop v (drop k texts))
    → Cuts (suc n) (k ∷ v ∷ sizes) texts
unfolding params_in
cuts_at k v n sizes texts room ih =
    let key : length (take k texts) ≡ k = length_taken k texts (omega arith) in
    let value : length (take v (drop k texts)) ≡ v = length_taken v (drop k texts)
    (omega (arith, length-drop k texts)) in
    let split : take v (drop k texts)
    ++ drop v (drop k texts) ≡ drop k texts = take-append-drop v (drop k texts) in
    record {
      number = ap suc ih.number;
      sizes_are = rw (key, value) (ap (λ (xs : List ℕ). k ∷ v ∷ xs) ih.sizes_are);
      texts_are =
          append_assoc (take k texts) (take v (drop k texts))
          (flat_map param_data (params_in sizes (drop v (drop k texts))))
          ∙ ap (λ (xs : List ℕ). take k texts ++ (take v (drop k texts) ++ xs)) ih.texts_are
          ∙ ap (λ (xs : List ℕ). take k texts ++ xs) split
          ∙ take-append-drop k texts;
    }

pub cuts : (n : ℕ) (sizes texts : List ℕ) → length sizes ≡ 2 * n → sum sizes ≡ length texts
    → Cuts n sizes texts
unfolding params_in
cuts zero [] texts even all =
    record { number = refl; sizes_are = refl; texts_are = sym (nil_from_length texts (sym all)) }
cuts zero (k ∷ sizes) texts even all = let odd : length (k ∷ sizes) ≡ suc (length sizes) = refl in
    absurd (omega (arith, odd))
cuts (suc n) [] texts even all = absurd (omega arith)
cuts (suc n) (k ∷ []) texts even all = absurd (omega arith)
cuts (suc n) (k ∷ v ∷ sizes) texts even all =
    let both : k + (v + sum sizes) ≡ length texts = sym (sum-two k v sizes) ∙ all in
    cuts_at k v n sizes texts (omega arith)
    (cuts n sizes (drop v (drop k texts)) (omega arith)
    (omega (arith, length-drop v (drop k texts), length-drop k texts)))

pub params_fit : (sizes texts : List ℕ) → IsBytes sizes → AllByRecursion FitsSizes (params_in sizes texts)
unfolding params_in
params_fit [] texts fits = tt
params_fit (k ∷ []) texts fits = tt
params_fit (k ∷ v ∷ sizes) texts fits =
    let first : k < 256 = fits 0 in
    let second : v < 256 = fits 1 in (
      record { key = omega (arith, length-take k texts); value = omega (arith, length-take v (drop k texts)) },
      params_fit sizes (drop v (drop k texts)) (λ i. fits (suc (suc i))),
    )

-- what is spelled is cut again
pub params_again : (ps : List KeyValue) → params_in (flat_map param_sizes ps) (flat_map param_data ps) ≡ ps
unfolding params_in
params_again [] = refl
params_again (p ∷ ps) =
    let rest : List ℕ = flat_map param_data ps in
    let whole : (p.key ++ p.value) ++ rest ≡ p.key ++ (p.value ++ rest) = append_assoc p.key p.value rest in
    let key : take (length p.key) ((p.key ++ p.value) ++ rest) ≡ p.key = rw whole
    (take_at p.key (p.value ++ rest) (length p.key) refl) in
    let behind : drop (length p.key) ((p.key ++ p.value) ++ rest) ≡ p.value
    ++ rest = rw whole (drop_at p.key (p.value ++ rest) (length p.key) refl) in
    rw (key, behind, take_at p.value rest (length p.value) refl, drop_at p.value rest (length p.value) refl)
    (ap (λ (qs : List KeyValue). p ∷ qs) (params_again ps))

pub length_sizes : (ps : List KeyValue) → length (flat_map param_sizes ps) ≡ 2 * length ps
length_sizes [] = refl
length_sizes (p ∷ ps) = omega (arith, length_sizes ps)

pub sum_sizes : (ps : List KeyValue) → sum (flat_map param_sizes ps) ≡ length (flat_map param_data ps)
sum_sizes [] = refl
sum_sizes (p ∷ ps) =
    let sums = sum-two (length p.key) (length p.value) (flat_map param_sizes ps) in
    let ih = sum_sizes ps in
    let outer = length-append (p.key ++ p.value) (flat_map param_data ps) in
    let inner = length-append p.key p.value in
    omega arith

-- the first two sizes, where a pair stands there
pub pair_is : (bytes : List ℕ) (x : (ℕ × ℕ) × List ℕ) → pair_at bytes ≡ Ok x → bytes ≡ x.0.0 ∷ x.0.1 ∷ x.1
unfolding pair_at
pair_is [] x e = absurd cc
pair_is (a ∷ []) x e = absurd cc
pair_is (a ∷ b ∷ bytes) x e = let same : ((a, b), bytes) ≡ x = cc in
    ap (λ (y : (ℕ × ℕ) × List ℕ). y.0.0 ∷ y.0.1 ∷ y.1) same

-- and where none does, nothing is left to be cut
pub nothing_in : (sizes texts : List ℕ) (fault : ParamFault) → pair_at sizes ≡ Err fault
    → params_in sizes texts ≡ []
unfolding pair_at params_in
nothing_in [] texts fault e = refl
nothing_in (a ∷ []) texts fault e = refl
nothing_in (a ∷ b ∷ sizes) texts fault e = absurd cc

-- the texts of the first two sizes are there, and of the others after them
pub room_for : (key value : ℕ) (sizes more texts : List ℕ) → sizes ≡ key ∷ value ∷ more
    → sum sizes ≤ length texts → key + (value + sum more) ≤ length texts
room_for key value sizes more texts e room = let all = ap sum e ∙ sum-two key value more in omega arith

-- a parameter is cut and added, and the same is added and left in all
pub cut_one : {A : Type 0} (mandatory : Bool) (params pushed all : List (Param A)) (k v : ℕ)
    (key value sizes more texts rest : List ℕ) → sizes ≡ k ∷ v ∷ more → key ≡ take k texts
    → value ≡ take v (drop k texts)
    → rest ≡ drop v (drop k texts) → pushed ≡ params
    ++ record { mandatory = mandatory; key = key; value = value } ∷ [] → params
    ++ map (param mandatory) (params_in sizes texts) ≡ all
    → pushed ++ map (param mandatory) (params_in more rest) ≡ all
unfolding params_in
cut_one {A} mandatory params pushed all k v key value sizes more texts rest sizes_are key_is value_is rest_is
    added before =
    let made : Param A = record { mandatory = mandatory; key = key; value = value } in
    let left : List (Param A) = map (param mandatory) (params_in more rest) in
    let cut : map (param mandatory) (params_in sizes texts) ≡ made
    ∷ left = rw (sizes_are, key_is, value_is, rest_is) refl in
    ap (λ (ps : List (Param A)). ps ++ left) added ∙ append_assoc params (made ∷ []) left
    ∙ ap (λ (ps : List (Param A)). params ++ ps) (sym cut) ∙ before
