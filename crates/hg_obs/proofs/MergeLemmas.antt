-- A merge, one marker at a time.
use Rattle.std.proofs.Common.{◌≡◌, Bool, true, false, cond, not, ◌||◌, List, [], ◌∷◌, ◌++◌, filter, refl}
use Rattle.std.proofs.Common.{sym, ap, ◌∙◌, append_assoc, true≢false, ◌≢◌, zero, suc, get_or}
use Rattle.std.proofs.Common.{AllPairs, arith}
use Rattle.std.proofs.lemmas.List.Folds.{list_any-append}
use Rattle.std.proofs.lemmas.List.Elements.{All-get_or, All-from_recursion}
use Rattle.std.specs.List.{list_any, AllByRecursion, IsDistinct}
use Rattle.std.specs.Cmp.{IsEquivalence, decided}
use Rattle.indexmap.proofs.SetLemmas.{filter_keep, filter_skip}
use Rattle.hg_obs.specs.declared.marker.Marker.{Marker}
use Rattle.hg_obs.specs.Same.{is_same, is_same_decides}
use Rattle.hg_obs.specs.Markers.{is_in, firsts, fresh, merged}

module _ {A : Type 0} where
  pub same_equiv : IsEquivalence {K = Marker A} is_same
  same_equiv = decided is_same is_same_decides

  -- a test tells markers apart that it answers differently
  different : (p : Marker A → Bool) (x z : Marker A) → p x ≡ true → p z ≡ false → is_same x z ≡ false
  different p x z passes fails = by (is_same x z) refl
    where
      by : (b : Bool) → is_same x z ≡ b → b ≡ false
      by true e = absurd (true≢false (sym passes ∙ ap p ((is_same_decides x z).0 e) ∙ fails))
      by false e = refl

  any_filter : (p : Marker A → Bool) (x : Marker A) (zs : List (Marker A)) → p x ≡ true
      → list_any (is_same x) (filter p zs) ≡ list_any (is_same x) zs
  any_filter p x [] passes = refl
  any_filter p x (z ∷ zs) passes = by (p z) refl (any_filter p x zs passes)
    where
      by : (b : Bool) → p z ≡ b → list_any (is_same x) (filter p zs) ≡ list_any (is_same x) zs
          → list_any (is_same x) (cond (p z) (z ∷ filter p zs) (filter p zs)) ≡ (is_same x z
          || list_any (is_same x) zs)
      by true e rest = ap (λ (c : Bool). list_any (is_same x) (cond c (z ∷ filter p zs) (filter p zs))) e
          ∙ ap (λ (c : Bool). is_same x z || c) rest
      by false e rest =
          ap (λ (c : Bool). list_any (is_same x) (cond c (z ∷ filter p zs) (filter p zs))) e ∙ rest
          ∙ sym (ap (λ (c : Bool). c || list_any (is_same x) zs) (different p x z passes e))

  any_firsts : (x : Marker A) (xs : List (Marker A))
      → list_any (is_same x) (firsts xs) ≡ list_any (is_same x) xs
  any_firsts x [] = refl
  any_firsts x (y ∷ ys) = by (is_same x y) refl (any_firsts x ys)
    where
      others : List (Marker A)
      others = filter (λ n. not (is_same y n)) (firsts ys)

      by : (b : Bool) → is_same x y ≡ b → list_any (is_same x) (firsts ys) ≡ list_any (is_same x) ys
          → (is_same x y || list_any (is_same x) (filter (λ n. not (is_same y n)) (firsts ys))) ≡ (is_same x y
          || list_any (is_same x) ys)
      by true e rest = rw e refl
      by false e rest =
          let apart : not (is_same y x) ≡ true = ap not (same_equiv.symm y x ∙ e) in
          ap (λ (c : Bool). is_same x y || c) (any_filter (λ n. not (is_same y n)) x (firsts ys) apart ∙ rest)

  firsts-push : (xs : List (Marker A)) (x : Marker A)
      → firsts (xs ++ x ∷ []) ≡ cond (list_any (is_same x) xs) (firsts xs) (firsts xs ++ x ∷ [])
  firsts-push [] x = refl
  firsts-push (y ∷ ys) x =
      ap (λ (l : List (Marker A)). y ∷ filter (λ n. not (is_same y n)) l) (firsts-push ys x)
      ∙ by (is_same x y) (list_any (is_same x) ys) refl
    where
      by : (a b : Bool) → is_same x y ≡ a
          → y ∷ filter (λ n. not (is_same y n)) (cond b (firsts ys) (firsts ys ++ x ∷ []))
          ≡ cond (a || b) (y ∷ filter (λ n. not (is_same y n)) (firsts ys))
          ((y ∷ filter (λ n. not (is_same y n)) (firsts ys)) ++ x ∷ [])
      by true true e = refl
      by false true e = refl
      by true false e = ap (λ (l : List (Marker A)). y ∷ l)
          (filter_skip (λ n. not (is_same y n)) (firsts ys) x (ap not (same_equiv.symm y x ∙ e)))
      by false false e = ap (λ (l : List (Marker A)). y ∷ l)
          (filter_keep (λ n. not (is_same y n)) (firsts ys) x (ap not (same_equiv.symm y x ∙ e)))

  fresh-push : (old xs : List (Marker A)) (x : Marker A)
      → fresh old (xs ++ x ∷ []) ≡ cond (is_in (merged old xs) x) (fresh old xs) (fresh old xs ++ x ∷ [])
  fresh-push old xs x =
      ap (filter (λ m. not (is_in old m))) (firsts-push xs x)
      ∙ by (is_in old x) (list_any (is_same x) xs) refl refl
      ∙ sym (ap (λ (c : Bool). cond c (fresh old xs) (fresh old xs ++ x ∷ []))
      (list_any-append (is_same x) old (fresh old xs)))
    where
      by : (a b : Bool) → is_in old x ≡ a → list_any (is_same x) xs ≡ b
          → filter (λ m. not (is_in old m)) (cond b (firsts xs) (firsts xs ++ x ∷ []))
          ≡ cond (is_in old x || list_any (is_same x) (fresh old xs)) (fresh old xs) (fresh old xs ++ x ∷ [])
      by true true e f = sym (ap (λ (c : Bool). cond (c || list_any (is_same x) (fresh old xs)) (fresh old xs)
          (fresh old xs ++ x ∷ [])) e)
      by true false e f =
          filter_skip (λ m. not (is_in old m)) (firsts xs) x (ap not e)
          ∙ sym (ap (λ (c : Bool). cond (c || list_any (is_same x) (fresh old xs)) (fresh old xs)
          (fresh old xs ++ x ∷ [])) e)
      by false b e f =
          let there : list_any (is_same x) (fresh old xs) ≡ b = any_filter (λ m. not (is_in old m)) x
          (firsts xs) (ap not e) ∙ any_firsts x xs ∙ f in
          new b ∙ sym (ap (λ (c : Bool). cond (c || list_any (is_same x) (fresh old xs)) (fresh old xs)
          (fresh old xs ++ x ∷ [])) e
          ∙ ap (λ (c : Bool). cond c (fresh old xs) (fresh old xs ++ x ∷ [])) there)
        where
          new : (b : Bool) → filter (λ m. not (is_in old m)) (cond b (firsts xs) (firsts xs ++ x ∷ [])) ≡ cond
              b (fresh old xs) (fresh old xs ++ x ∷ [])
          new true = refl
          new false = filter_keep (λ m. not (is_in old m)) (firsts xs) x (ap not e)

  pub merged-push : (old xs : List (Marker A)) (x : Marker A)
      → merged old (xs ++ x ∷ []) ≡ cond (is_in (merged old xs) x) (merged old xs) (merged old xs ++ x ∷ [])
  merged-push old xs x = ap (λ (l : List (Marker A)). old ++ l) (fresh-push old xs x)
      ∙ by (is_in (merged old xs) x)
    where
      by : (b : Bool) → old ++ cond b (fresh old xs) (fresh old xs ++ x ∷ []) ≡ cond b (merged old xs)
          (merged old xs ++ x ∷ [])
      by true = refl
      by false = sym (append_assoc old (fresh old xs) (x ∷ []))

  -- a new key stands at the end
  pub pushed : (old new : List (Marker A)) (m : Marker A) → new ≡ cond (is_in old m) old (old ++ m ∷ [])
      → not (is_in old m) ≡ true → new ≡ old ++ m ∷ []
  pushed old new m e h = by (is_in old m) e h
    where
      by : (b : Bool) → new ≡ cond b old (old ++ m ∷ []) → not b ≡ true → new ≡ old ++ m ∷ []
      by true e h = absurd (true≢false (sym h))
      by false e h = e

  -- no two markers of distinct ones are one
  pub distinct_pairs : (ms : List (Marker A)) → IsDistinct is_same ms → AllPairs (λ a b. a ≢ b) ms
  unfolding IsDistinct
  distinct_pairs [] d i j e less within = absurd (omega arith)
  distinct_pairs (m ∷ ms) d zero zero e less within = absurd (omega arith)
  distinct_pairs (m ∷ ms) d zero (suc j) e less within =
      let apart : is_same m (get_or ms j e) ≡ false = All-get_or (λ (n : Marker A). is_same m n ≡ false) ms j
      e (omega arith) (All-from_recursion (λ (n : Marker A). is_same m n ≡ false) ms d.0) in
      λ same. true≢false (sym ((is_same_decides m (get_or ms j e)).1 same) ∙ apart)
  distinct_pairs (m ∷ ms) d (suc i) zero e less within = absurd (omega arith)
  distinct_pairs (m ∷ ms) d (suc i) (suc j) e less within =
      distinct_pairs ms d.1 i j e (omega arith) (omega arith)

  -- a marker that comes after others, and is not in what they give, is new to the list
  pub some_fresh : (old before rest added : List (Marker A)) (m : Marker A) → added ≡ before ++ m ∷ rest
      → is_in (merged old before) m ≡ false → fresh old added ≢ []
  some_fresh old before rest added m e apart none =
      let outside : is_in old m ≡ false = by (is_in old m)
      (sym (list_any-append (is_same m) old (fresh old before)) ∙ apart) in
      let itself : is_same m m ≡ true = (is_same_decides m m).1 refl in
      let comes : list_any (is_same m) added ≡ true =
      ap (list_any (is_same m)) e ∙ list_any-append (is_same m) before (m ∷ rest)
      ∙ ap (λ (c : Bool). list_any (is_same m) before || (c || list_any (is_same m) rest)) itself
      ∙ either (list_any (is_same m) before) in
      let kept : is_in (fresh old added) m ≡ true = any_filter (λ n. not (is_in old n)) m (firsts added)
      (ap not outside) ∙ any_firsts m added ∙ comes in
      true≢false (sym kept ∙ ap (λ (ms : List (Marker A)). is_in ms m) none)
    where
      by : (b : Bool) → (b || is_in (fresh old before) m) ≡ false → b ≡ false
      by true h = h
      by false h = refl

      either : (b : Bool) → (b || true) ≡ true
      either true = refl
      either false = refl

  keeps_others : (m : Marker A) (ns : List (Marker A)) → AllByRecursion (λ n. is_same m n ≡ false) ns
      → filter (λ n. not (is_same m n)) ns ≡ ns
  keeps_others m [] h = refl
  keeps_others m (n ∷ ns) h =
      ap (λ (b : Bool). cond (not b) (n ∷ filter (λ k. not (is_same m k)) ns)
      (filter (λ k. not (is_same m k)) ns)) h.0
      ∙ ap (λ (l : List (Marker A)). n ∷ l) (keeps_others m ns h.1)

  -- of distinct markers each is the first
  firsts_distinct : (ms : List (Marker A)) → IsDistinct is_same ms → firsts ms ≡ ms
  unfolding IsDistinct
  firsts_distinct [] d = refl
  firsts_distinct (m ∷ ms) d =
      ap (λ (l : List (Marker A)). m ∷ filter (λ n. not (is_same m n)) l) (firsts_distinct ms d.1)
      ∙ ap (λ (l : List (Marker A)). m ∷ l) (keeps_others m ms d.0)

  none_there : (ms : List (Marker A)) → filter (λ m. not (is_in [] m)) ms ≡ ms
  none_there [] = refl
  none_there (m ∷ ms) = ap (λ (l : List (Marker A)). m ∷ l) (none_there ms)

  -- distinct markers, merged into an empty list
  pub merged_distinct : (ms : List (Marker A)) → IsDistinct is_same ms → merged [] ms ≡ ms
  merged_distinct ms d = ap (filter (λ m. not (is_in [] m))) (firsts_distinct ms d) ∙ none_there ms
