-- Records, one for each place.
use Rattle.std.proofs.Common.{ℕ, zero, suc, ◌≡◌, ◌<◌, ◌≤◌, ◌+◌, List, [], ◌∷◌, ◌++◌, refl, subst}
use Rattle.std.proofs.Common.{arith, length, take}
use Rattle.std.proofs.Common.{Bool, true, false, drop, Result, Ok, Err, if◌then◌else◌}
use Rattle.std.specs.Prelude.{All, OnOk, insert, is_err}
use Rattle.std.specs.List.{AllByRecursion}
use Rattle.std.proofs.lemmas.List.Elements.{All-append, All-cons, All-drop, All-take}
use Rattle.hg_parts.specs.declared.item.Taken.{Taken}
use Rattle.hg_types.specs.Limits.{IsAllowed}
use Rattle.hg_store.specs.Entries.{Entry}
use Rattle.hg_store.specs.Records.{IsSized}
use Rattle.hg_push.specs.Run.{RepositoryOf}
use Rattle.hg_commit.specs.Records.{AreRecordsFrom, IsRecordOf}

module _ {A : Type 0} (first : RepositoryOf A) where
  pub each_moves : (h h' : List (Taken A))
      → ((k : ℕ) (entry : Entry) → IsRecordOf first h k entry → IsRecordOf first h' k entry)
      → (k : ℕ) (rs : List Entry) → AreRecordsFrom first h k rs → AreRecordsFrom first h' k rs
  each_moves h h' f k [] all = tt
  each_moves h h' f k (x ∷ rs) all = (f k x all.0, each_moves h h' f (k + 1) rs all.1)

  pub each_moves_below : (h h' : List (Taken A)) (n : ℕ)
      → ((k : ℕ) (entry : Entry) → k < n → IsRecordOf first h k entry → IsRecordOf first h' k entry)
      → (k : ℕ) (rs : List Entry) → k + length rs ≤ n → AreRecordsFrom first h k rs
      → AreRecordsFrom first h' k rs
  each_moves_below h h' n f k [] low all = tt
  each_moves_below h h' n f k (x ∷ rs) low all =
      (f k x (omega (arith, low)) all.0, each_moves_below h h' n f (k + 1) rs (omega (arith, low)) all.1)

  pub joined : (h : List (Taken A)) (k : ℕ) (xs ys : List Entry) → AreRecordsFrom first h k xs
      → AreRecordsFrom first h (k + length xs) ys → AreRecordsFrom first h k (xs ++ ys)
  joined h k [] ys some more =
      let e : k + 0 ≡ k = omega arith in subst (λ (n : ℕ). AreRecordsFrom first h n ys) e more
  joined h k (x ∷ xs) ys some more =
      let e : k + length (x ∷ xs) ≡ (k + 1) + length xs = omega arith in
      (some.0, joined h (k + 1) xs ys some.1 (subst (λ (n : ℕ). AreRecordsFrom first h n ys) e more))

  pub one_more : (h : List (Taken A)) (k : ℕ) (xs : List Entry) (x : Entry) → AreRecordsFrom first h k xs
      → IsRecordOf first h (k + length xs) x → AreRecordsFrom first h k (xs ++ x ∷ [])
  one_more h k xs x some this = joined h k xs (x ∷ []) some (this, tt)

  pub front : (h : List (Taken A)) (k n : ℕ) (xs : List Entry) → AreRecordsFrom first h k xs
      → AreRecordsFrom first h k (take n xs)
  front h k zero xs all = tt
  front h k (suc n) [] all = tt
  front h k (suc n) (x ∷ xs) all = (all.0, front h (k + 1) n xs all.1)

  pub fewer : (h : List (Taken A)) (k n m : ℕ) (xs : List Entry) → n ≤ m
      → AreRecordsFrom first h k (take m xs) → AreRecordsFrom first h k (take n xs)
  fewer h k zero m xs low all = tt
  fewer h k (suc n) zero xs low all = absurd (omega (arith, low))
  fewer h k (suc n) (suc m) [] low all = tt
  fewer h k (suc n) (suc m) (x ∷ xs) low all = (all.0, fewer h (k + 1) n m xs (omega (arith, low)) all.1)

  pub fit : IsAllowed first.settings.limits → (h : List (Taken A)) (k : ℕ) (xs : List Entry)
      → AreRecordsFrom first h k xs → AllByRecursion IsSized xs
  fit allowed h k [] all = tt
  fit allowed h k (x ∷ xs) all =
      let low = all.0.bundle.1 in
      let most = allowed.stream in
      (omega (arith, low, most.1), fit allowed h (k + 1) xs all.1)

pub length-front : (n : ℕ) (xs : List Entry) → n ≤ length xs → length (take n xs) ≡ n
length-front zero xs low = refl
length-front (suc n) [] low = absurd (omega (arith, low))
length-front (suc n) (x ∷ xs) low = omega (arith, length-front n xs (omega (arith, low)))

pub either_insert : {X : Type 0} (P : X → Type 0) (made : Bool) (xs : List X) (i : ℕ) (x : X) → All P xs → P x
    → All P (if made then insert xs i x else xs)
either_insert P true xs i x all this =
    All-append P (take i xs) (x ∷ drop i xs) (All-take P i xs all)
    (All-cons P x (drop i xs) this (All-drop P i xs all))
either_insert P false xs i x all this = all

pub went_well : {T E : Type 0} {P : Type 0} (r : Result T E) → is_err r ≡ false → OnOk r P → P
went_well (Ok x) is told = told
went_well (Err e) is told = cc

-- one room less, and one record more at most
pub room_left : (made : Bool) (len more rooms left cap now : ℕ) → more ≡ (if made then len + 1 else len)
    → left + 1 ≡ rooms → len + rooms ≤ cap → cap ≤ now → more + left ≤ now
room_left true len more rooms left cap now is less low wide = omega (arith, is, less, low, wide)
room_left false len more rooms left cap now is less low wide = omega (arith, is, less, low, wide)
