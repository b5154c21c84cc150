-- Lists that a test cuts in two.
use Rattle.std.proofs.Common.{◌≡◌, ℕ, ◌+◌, ◌<◌, Bool, true, false, cond, List, [], ◌∷◌, ◌++◌, length, take, drop}
use Rattle.std.proofs.Common.{refl, sym, ap, ◌∙◌, arith}
use Rattle.std.specs.List.{filter, AllWithin, AllByRecursion}
use Rattle.std.proofs.lemmas.List.{append-nil, take-append-drop, length-take, length-drop, get_or-take}
use Rattle.std.proofs.lemmas.List.{get_or-drop}
use Rattle.std.proofs.lemmas.List.Elements.{filter-append, recursion_from_All}

-- what holds at each place before one holds of each item of the front, and so for the rest
within_take : {X : Type 0} (P : X → Type 0) (xs : List X) (k : ℕ) → AllWithin P xs 0 k
    → AllByRecursion P (take k xs)
within_take P xs k each = recursion_from_All P (take k xs) (λ i d lt.
    let below : i < k = omega (arith, length-take k xs, lt) in
    rw (get_or-take k xs i d below) (each i d (omega arith) below))

within_drop : {X : Type 0} (P : X → Type 0) (xs : List X) (k : ℕ) → AllWithin P xs k (length xs)
    → AllByRecursion P (drop k xs)
within_drop P xs k each =
    recursion_from_All P (drop k xs)
    (λ i d lt. rw (get_or-drop k xs i d)
    (each (k + i) d (omega arith) (omega (arith, length-drop k xs, lt))))

filter_all : {X : Type 0} (p : X → Bool) (xs : List X) → AllByRecursion (λ x. p x ≡ true) xs
    → filter p xs ≡ xs
filter_all p [] each = refl
filter_all p (x ∷ xs) each = ap (λ b. cond b (x ∷ filter p xs) (filter p xs)) each.0
    ∙ ap (λ ys. x ∷ ys) (filter_all p xs each.1)

filter_none : {X : Type 0} (p : X → Bool) (xs : List X) → AllByRecursion (λ x. p x ≡ false) xs
    → filter p xs ≡ []
filter_none p [] each = refl
filter_none p (x ∷ xs) each = ap (λ b. cond b (x ∷ filter p xs) (filter p xs)) each.0
    ∙ filter_none p xs each.1

filter_parts : {X : Type 0} (p : X → Bool) (xs : List X) (k : ℕ) → filter p xs ≡ filter p (take k xs)
    ++ filter p (drop k xs)
filter_parts p xs k = ap (filter p) (sym (take-append-drop k xs)) ∙ filter-append p (take k xs) (drop k xs)

-- a test that holds before a place, and not from it on, keeps the front
pub filter_front : {X : Type 0} (p : X → Bool) (xs : List X) (k : ℕ) → AllWithin (λ x. p x ≡ true) xs 0 k
    → AllWithin (λ x. p x ≡ false) xs k (length xs) → filter p xs ≡ take k xs
filter_front p xs k passes fails =
    filter_parts p xs k ∙ ap (λ ys. ys ++ filter p (drop k xs))
    (filter_all p (take k xs) (within_take (λ x. p x ≡ true) xs k passes))
    ∙ ap (λ ys. take k xs ++ ys) (filter_none p (drop k xs) (within_drop (λ x. p x ≡ false) xs k fails))
    ∙ append-nil (take k xs)

-- and one that holds from it on keeps the rest
pub filter_rest : {X : Type 0} (p : X → Bool) (xs : List X) (k : ℕ) → AllWithin (λ x. p x ≡ false) xs 0 k
    → AllWithin (λ x. p x ≡ true) xs k (length xs) → filter p xs ≡ drop k xs
filter_rest p xs k fails passes =
    filter_parts p xs k ∙ ap (λ ys. ys ++ filter p (drop k xs))
    (filter_none p (take k xs) (within_take (λ x. p x ≡ false) xs k fails))
    ∙ filter_all p (drop k xs) (within_drop (λ x. p x ≡ true) xs k passes)
