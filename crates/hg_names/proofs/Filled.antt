-- What holds of each item of a list, after an edit.
use Rattle.std.proofs.Common.{◌≡◌, ℕ, suc, ◌+◌, ◌<◌, List, [], ◌∷◌, get_or, take, drop, subst, arith}
use Rattle.std.specs.List.{All, insert, remove}
use Rattle.std.proofs.lemmas.List.{length-take, length-drop, get_or-take, get_or-drop}
use Rattle.std.proofs.lemmas.List.Elements.{All-append}

module _ {X : Type 0} (P : X → Type 0) where
  all_take : (xs : List X) (i : ℕ) → All P xs → All P (take i xs)
  all_take xs i all k d lt =
      let below : k < i = omega (arith, length-take i xs, lt) in
      rw (get_or-take i xs k d below) (all k d (omega (arith, length-take i xs, lt)))

  all_drop : (xs : List X) (i : ℕ) → All P xs → All P (drop i xs)
  all_drop xs i all k d lt =
      rw (get_or-drop i xs k d) (all (i + k) d (omega (arith, length-drop i xs, lt)))

  pub all_one : (x : X) → P x → All P (x ∷ [])
  all_one x holds k d lt =
      let first : 0 ≡ k = omega (arith, lt) in
      subst (λ n. P (get_or (x ∷ []) n d)) first holds

  pub all_inserted : (xs : List X) (i : ℕ) (x : X) → All P xs → P x → All P (insert xs i x)
  all_inserted xs i x all holds =
      All-append P (take i xs) (x ∷ drop i xs) (all_take xs i all)
      (All-append P (x ∷ []) (drop i xs) (all_one x holds) (all_drop xs i all))

  pub all_removed : (xs : List X) (i : ℕ) → All P xs → All P (remove xs i)
  all_removed xs i all =
      All-append P (take i xs) (drop (suc i) xs) (all_take xs i all) (all_drop xs (suc i) all)

  pub all_rest : (x : X) (xs : List X) → All P (x ∷ xs) → All P xs
  all_rest x xs all k d lt = all (suc k) d (omega (arith, lt))
