-- The element at a place of a list that got one more, or was cut.
use Rattle.std.proofs.Common.{◌≡◌, ◌⊎◌, ℕ, zero, suc, ◌<◌, List, [], ◌∷◌, ◌++◌, length, take, slice_get, Some}
use Rattle.std.proofs.Common.{refl, ap, inl, inr, arith}

pub slice_get_front : {X : Type 0} (xs ys : List X) (i : ℕ) → i < length xs
    → slice_get (xs ++ ys) i ≡ slice_get xs i
slice_get_front [] ys i low = absurd (omega arith)
slice_get_front (x ∷ xs) ys zero low = refl
slice_get_front (x ∷ xs) ys (suc i) low = slice_get_front xs ys i (omega arith)

pub slice_get_last : {X : Type 0} (xs : List X) (y : X) → slice_get (xs ++ y ∷ []) (length xs) ≡ Some y
slice_get_last [] y = refl
slice_get_last (x ∷ xs) y = slice_get_last xs y

pub slice_get_pushed : {X : Type 0} (xs : List X) (y x : X) (i : ℕ) → slice_get (xs ++ y ∷ []) i ≡ Some x
    → (slice_get xs i ≡ Some x) ⊎ ((i ≡ length xs) × (y ≡ x))
slice_get_pushed [] y x zero at = inr (refl, cc)
slice_get_pushed [] y x (suc i) at = absurd cc
slice_get_pushed (z ∷ xs) y x zero at = inl at
slice_get_pushed (z ∷ xs) y x (suc i) at =
    elim (slice_get_pushed xs y x i at) [ inl a ↦ inl a | inr b ↦ inr (ap suc b.0, b.1) ]

pub slice_get_take : {X : Type 0} (xs : List X) (n i : ℕ) → i < n → slice_get (take n xs) i ≡ slice_get xs i
slice_get_take xs zero i low = absurd (omega arith)
slice_get_take [] (suc n) i low = refl
slice_get_take (x ∷ xs) (suc n) zero low = refl
slice_get_take (x ∷ xs) (suc n) (suc i) low = slice_get_take xs n i (omega arith)

pub slice_get_kept : {X : Type 0} (xs : List X) (n i : ℕ) (x : X) → slice_get (take n xs) i ≡ Some x → (i < n)
    × (slice_get xs i ≡ Some x)
slice_get_kept xs zero i x at = absurd cc
slice_get_kept [] (suc n) i x at = absurd cc
slice_get_kept (y ∷ xs) (suc n) zero x at = (omega arith, at)
slice_get_kept (y ∷ xs) (suc n) (suc i) x at = let k = slice_get_kept xs n i x at in (omega (arith, k.0), k.1)

pub slice_get_in : {X : Type 0} (xs : List X) (i : ℕ) → i < length xs → (x : X) × (slice_get xs i ≡ Some x)
slice_get_in [] i low = absurd (omega arith)
slice_get_in (x ∷ xs) zero low = (x, refl)
slice_get_in (x ∷ xs) (suc i) low = slice_get_in xs i (omega arith)
