-- What holds of each marker of a list holds of each of its parts.
use Rattle.std.proofs.Common.{◌≡◌, ℕ, zero, suc, Bool, true, false, cond, not, List, [], ◌∷◌, ◌++◌, filter}
use Rattle.std.proofs.Common.{take, refl}
use Rattle.std.specs.List.{AllByRecursion}
use Rattle.hg_obs.specs.declared.marker.Marker.{Marker}
use Rattle.hg_obs.specs.Same.{is_same}
use Rattle.hg_obs.specs.Markers.{firsts}

module _ {A : Type 0} (P : Marker A → Type 0) where
  pub each_append : (xs ys : List (Marker A)) → AllByRecursion P xs → AllByRecursion P ys
      → AllByRecursion P (xs ++ ys)
  each_append [] ys h k = k
  each_append (x ∷ xs) ys h k = (h.0, each_append xs ys h.1 k)

  pub each_filter : (p : Marker A → Bool) (xs : List (Marker A)) → AllByRecursion P xs
      → AllByRecursion P (filter p xs)
  each_filter p [] h = tt
  each_filter p (x ∷ xs) h = by (p x) (each_filter p xs h.1)
    where
      by : (b : Bool) → AllByRecursion P (filter p xs)
          → AllByRecursion P (cond b (x ∷ filter p xs) (filter p xs))
      by true rest = (h.0, rest)
      by false rest = rest

  pub each_firsts : (xs : List (Marker A)) → AllByRecursion P xs → AllByRecursion P (firsts xs)
  each_firsts [] h = tt
  each_firsts (x ∷ xs) h = (h.0, each_filter (λ n. not (is_same x n)) (firsts xs) (each_firsts xs h.1))

  pub each_take : (n : ℕ) (xs : List (Marker A)) → AllByRecursion P xs → AllByRecursion P (take n xs)
  each_take zero xs h = tt
  each_take (suc n) [] h = tt
  each_take (suc n) (x ∷ xs) h = (h.0, each_take n xs h.1)

  pub each_is : (Q : Marker A → Type 0) → ((x : Marker A) → P x → Q x) → (xs : List (Marker A))
      → AllByRecursion P xs → AllByRecursion Q xs
  each_is Q so [] h = tt
  each_is Q so (x ∷ xs) h = (so x h.0, each_is Q so xs h.1)

-- what a filter leaves passes its test
pub each_passes : {A : Type 0} (p : Marker A → Bool) (xs : List (Marker A))
    → AllByRecursion (λ x. p x ≡ true) (filter p xs)
each_passes p [] = tt
each_passes {A} p (x ∷ xs) = by (p x) refl (each_passes p xs)
  where
    by : (b : Bool) → p x ≡ b → AllByRecursion (λ (y : Marker A). p y ≡ true) (filter p xs)
        → AllByRecursion (λ (y : Marker A). p y ≡ true) (cond b (x ∷ filter p xs) (filter p xs))
    by true e rest = (e, rest)
    by false e rest = rest
