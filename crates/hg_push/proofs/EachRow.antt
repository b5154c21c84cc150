-- What holds of each row stays so.
use Rattle.std.proofs.Common.{ℕ, ◌≡◌, ◌<◌, List, [], ◌∷◌, ◌++◌, subst, sym, arith, length, zero, suc}
use Rattle.std.specs.List.{AllByRecursion, remove}
use Rattle.std.proofs.Math.ListN.{set, get_or}

pub each_last : {X : Type 0} (P : X → Type 0) (xs : List X) (y : X) → AllByRecursion P xs → P y
    → AllByRecursion P (xs ++ y ∷ [])
each_last P [] y all last = (last, tt)
each_last P (x ∷ xs) y all last = (all.0, each_last P xs y all.1 last)

pub each_set : {X : Type 0} (P : X → Type 0) (xs : List X) (i : ℕ) (y : X) → AllByRecursion P xs → P y
    → AllByRecursion P (set xs i y)
each_set P [] i y all new = tt
each_set P (x ∷ xs) zero y all new = (new, all.1)
each_set P (x ∷ xs) (suc i) y all new = (all.0, each_set P xs i y all.1 new)

pub each_removed : {X : Type 0} (P : X → Type 0) (xs : List X) (i : ℕ) → AllByRecursion P xs
    → AllByRecursion P (remove xs i)
each_removed P [] zero all = tt
each_removed P [] (suc i) all = tt
each_removed P (x ∷ xs) zero all = all.1
each_removed P (x ∷ xs) (suc i) all = (all.0, each_removed P xs i all.1)

pub each_at : {X : Type 0} (P : X → Type 0) (xs : List X) (i : ℕ) (x : X) → i < length xs → x ≡ get_or xs i x
    → AllByRecursion P xs → P x
each_at P [] i x within is all = absurd (omega (arith, within))
each_at P (y ∷ xs) zero x within is all = subst P (sym is) all.0
each_at P (y ∷ xs) (suc i) x within is all = each_at P xs i x (omega (arith, within)) is all.1
