-- Lawful markers stay so: after a merge, and where the last ones are cut off.
use Rattle.std.proofs.Common.{◌≡◌, ◌≢◌, ℕ, zero, suc, Bool, true, false, cond, not, ◌||◌, List, [], ◌∷◌, ◌++◌}
use Rattle.std.proofs.Common.{filter, take, get_or, AllPairs, refl, sym, ◌∙◌, true≢false, arith}
use Rattle.std.proofs.lemmas.List.Elements.{recursion_from_All}
use Rattle.std.specs.List.{AllByRecursion, IsDistinct}
use Rattle.hg_obs.specs.declared.marker.Marker.{Marker}
use Rattle.hg_obs.specs.Marker.{IsMarker}
use Rattle.hg_obs.specs.Same.{is_same, is_same_decides}
use Rattle.hg_obs.specs.Markers.{is_in, firsts, fresh, merged, AreLawful}
use Rattle.hg_obs.proofs.MergeLemmas.{same_equiv, distinct_pairs}
use Rattle.hg_obs.proofs.EachLemmas.{each_append, each_filter, each_take, each_is, each_passes}
use Rattle.hg_obs.proofs.CallerLemmas.{each_merged}

is_false : (b : Bool) → not b ≡ true → b ≡ false
is_false true e = absurd (true≢false (sym e))
is_false false e = refl

front_false : (a b : Bool) → (a || b) ≡ false → a ≡ false
front_false true b e = e
front_false false b e = refl

back_false : (a b : Bool) → (a || b) ≡ false → b ≡ false
back_false true b e = absurd (true≢false e)
back_false false b e = e

module _ {A : Type 0} where
  is_other : (a b : Marker A) → a ≢ b → is_same a b ≡ false
  is_other a b apart = by (is_same a b) refl
    where
      by : (c : Bool) → is_same a b ≡ c → c ≡ false
      by true e = absurd (apart ((is_same_decides a b).0 e))
      by false e = refl

  pairs_distinct : (ms : List (Marker A)) → AllPairs (λ a b. a ≢ b) ms → IsDistinct is_same ms
  unfolding IsDistinct
  pairs_distinct [] d = tt
  pairs_distinct (m ∷ ms) d = (
    recursion_from_All (λ (n : Marker A). is_same m n ≡ false) ms
        (λ j e within. is_other m (get_or ms j e) (d 0 (suc j) e (omega arith) (omega arith))),
    pairs_distinct ms (λ i j e less within. d (suc i) (suc j) e (omega arith) (omega arith)),
  )

  distinct_filter : (p : Marker A → Bool) (ms : List (Marker A)) → IsDistinct is_same ms
      → IsDistinct is_same (filter p ms)
  unfolding IsDistinct
  distinct_filter p [] d = tt
  distinct_filter p (m ∷ ms) d = by (p m) (distinct_filter p ms d.1)
    where
      by : (b : Bool) → IsDistinct is_same (filter p ms)
          → IsDistinct is_same (cond b (m ∷ filter p ms) (filter p ms))
      by true rest = (each_filter (λ (n : Marker A). is_same m n ≡ false) p ms d.0, rest)
      by false rest = rest

  firsts_are_distinct : (ms : List (Marker A)) → IsDistinct is_same (firsts ms)
  unfolding IsDistinct
  firsts_are_distinct [] = tt
  firsts_are_distinct (m ∷ ms) = (
    each_is (λ (n : Marker A). not (is_same m n) ≡ true) (λ (n : Marker A). is_same m n ≡ false)
        (λ n e. is_false (is_same m n) e) (filter (λ n. not (is_same m n)) (firsts ms))
        (each_passes (λ n. not (is_same m n)) (firsts ms)),
    distinct_filter (λ n. not (is_same m n)) (firsts ms) (firsts_are_distinct ms),
  )

  distinct_append : (xs ys : List (Marker A)) → IsDistinct is_same xs → IsDistinct is_same ys
      → AllByRecursion (λ y. is_in xs y ≡ false) ys → IsDistinct is_same (xs ++ ys)
  unfolding IsDistinct
  distinct_append [] ys d e outside = e
  distinct_append (x ∷ xs) ys d e outside = (
    each_append (λ (n : Marker A). is_same x n ≡ false) xs ys d.0 (
        each_is (λ (y : Marker A). is_in (x ∷ xs) y ≡ false) (λ (y : Marker A). is_same x y ≡ false)
        (λ y out. same_equiv.symm x y ∙ front_false (is_same y x) (is_in xs y) out) ys outside
        ),
    distinct_append xs ys d.1 e (
        each_is (λ (y : Marker A). is_in (x ∷ xs) y ≡ false) (λ (y : Marker A). is_in xs y ≡ false)
        (λ y out. back_false (is_same y x) (is_in xs y) out) ys outside
        ),
  )

  distinct_take : (n : ℕ) (ms : List (Marker A)) → IsDistinct is_same ms → IsDistinct is_same (take n ms)
  unfolding IsDistinct
  distinct_take zero ms d = tt
  distinct_take (suc n) [] d = tt
  distinct_take (suc n) (m ∷ ms) d =
      (each_take (λ (k : Marker A). is_same m k ≡ false) n ms d.0, distinct_take n ms d.1)

  pub lawful_none : AreLawful {A = A} []
  lawful_none = record { distinct = λ i j d less within. absurd (omega arith); each = tt }

  pub lawful_merged : (old added : List (Marker A)) → AreLawful old → AllByRecursion IsMarker added
      → AreLawful (merged old added)
  lawful_merged old added lawful each =
      let new = distinct_filter (λ m. not (is_in old m)) (firsts added) (firsts_are_distinct added) in
      let outside = each_is (λ (m : Marker A). not (is_in old m) ≡ true)
      (λ (m : Marker A). is_in old m ≡ false) (λ m e. is_false (is_in old m) e) (fresh old added)
      (each_passes (λ m. not (is_in old m)) (firsts added)) in
      record {
        distinct = distinct_pairs (merged old added)
            (distinct_append old (fresh old added) (pairs_distinct old lawful.distinct) new outside);
        each = each_merged IsMarker old added lawful.each each;
      }

  pub lawful_front : (markers : List (Marker A)) (len : ℕ) → AreLawful markers → AreLawful (take len markers)
  lawful_front markers len lawful = record {
    distinct = distinct_pairs (take len markers)
        (distinct_take len markers (pairs_distinct markers lawful.distinct));
    each = each_take IsMarker len markers lawful.each;
  }
