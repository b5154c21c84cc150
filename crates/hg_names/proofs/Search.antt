-- Where a name is among blocks of names in order.
use Rattle.std.proofs.Common.{◌≡◌, ℕ, ◌+◌, ◌-◌, ◌<◌, ◌≤◌, List, length, get_or, take, Result, Ok, Err}
use Rattle.std.proofs.Common.{IfOk, IfErr, sym, ap, ◌∙◌, subst, arith, inl, inr}
use Rattle.std.specs.List.{flat_map, AllWithin, HoldsAt}
use Rattle.std.specs.List.Sorted.{IsSearchInRange, IsBinarySearchResult, IsNonDecreasingBy}
use Rattle.std.specs.Ordering.{is_lt, ordering_index}
use Rattle.std.specs.declared.cmp.Ordering.TheVariants.{Less, Greater}
use Rattle.std.proofs.lemmas.Bool.{cases_lt}
use Rattle.std.proofs.lemmas.Cmp.{nat_list_cmp_total}
use Rattle.std.proofs.lemmas.List.Concat.{get_or-flat_map}
use Rattle.std.proofs.lemmas.List.Folds.{length-flat_map-take}
use Rattle.std.proofs.lemmas.List.Sorted.{searchable_from_sorted}
use Rattle.hg_types.specs.declared.node.Node.{Node}
use Rattle.hg_names.specs.Names.{Pairs, name_cmp, AreInOrder}
use Rattle.hg_names.specs.code.Places.{IsAt, IsGap}
use Rattle.hg_names.specs.code.Blocks.{IsLess, IsGreater, IsNotGreater}
use Rattle.hg_names.proofs.OrderLemmas.{turned, names_equal, before_upto, behind_greater}
use Rattle.hg_names.proofs.Flat.{next_start}

-- ---- a list of pairs

-- comparisons with a name rise along the pairs, as a binary search asks
rises : (pairs : Pairs) (name : List ℕ) → AreInOrder pairs
    → IsNonDecreasingBy (λ pair. ordering_index (name_cmp pair.0 name)) pairs
rises pairs name in_order =
    searchable_from_sorted nat_list_cmp_total (λ pair. pair.0) pairs name
    (λ k d low high. ap is_lt
    (turned (get_or pairs k d).0 (get_or pairs (k + 1) d).0 Less
    (in_order k (k + 1) d (omega arith) high)))

-- a binary search ends at the name, or at its gap
pub searched : (pairs : Pairs) (name : List ℕ) (r : Result ℕ ℕ) → AreInOrder pairs
    → IsSearchInRange r (length pairs) → IsBinarySearchResult (λ pair. name_cmp pair.0 name) pairs r
    → IfOk r (IsAt pairs name) × IfErr r (IsGap pairs name)
searched pairs name (Ok place) in_order in_range equal =
    (record { within = in_range; named = λ d. names_equal _ name (equal d) }, tt)
searched pairs name (Err place) in_order in_range parted =
    let sides = parted (rises pairs name in_order) in
    (tt, record { within = in_range; lesser = sides.0; greater = sides.1 })

-- ---- lists of pairs that are joined

module _ {B : Type 0} (f : B → Pairs) (bs : List B) (b : ℕ) (e : B) (within : b < length bs) where
  abbrev own : Pairs
  own = f (get_or bs b e)

  abbrev start : ℕ
  start = length (flat_map f (take b bs))

  at : (i : ℕ) (d : List ℕ × Node) → i < length own → get_or (flat_map f bs) (start + i) d ≡ get_or own i d
  at i d lt = get_or-flat_map f bs b i e d within lt

  pub fits : start + length own ≤ length (flat_map f bs)
  fits = length-flat_map-take f bs b e within

  next : length (flat_map f (take (b + 1) bs)) ≡ start + length own
  next = next_start f bs b e within

  first_at : (d : List ℕ × Node) → 0 < length own → get_or (flat_map f bs) start d ≡ get_or own 0 d
  first_at d lt =
      let same : start ≡ start + 0 = omega arith in
      ap (λ k. get_or (flat_map f bs) k d) same ∙ at 0 d lt

  pub own_order : AreInOrder (flat_map f bs) → AreInOrder own
  own_order in_order i j d below in_range =
      let i_in : i < length own = omega (arith, below, in_range) in
      rw (at i d i_in, at j d in_range)
      at (in_order (start + i) (start + j) d (omega (arith, below)) (omega (arith, in_range, fits)))

  module _ (name : List ℕ) (in_order : AreInOrder (flat_map f bs)) (filled : 0 < length own) where
    pub lesser_to : HoldsAt (IsNotGreater name) own 0 → AllWithin (IsLess name) (flat_map f bs) 0 start
    lesser_to upto k d low high =
        let first = first_at d filled in
        let before : name_cmp (get_or (flat_map f bs) k d).0 (get_or own 0 d).0 ≡ Less =
        subst (λ (p : List ℕ × Node). name_cmp (get_or (flat_map f bs) k d).0 p.0 ≡ Less) first
        (in_order k start d high (omega (arith, fits, filled))) in
        before_upto (get_or (flat_map f bs) k d).0 (get_or own 0 d).0 name before (upto d)

    pub greater_from : HoldsAt (IsGreater name) own 0
        → AllWithin (IsGreater name) (flat_map f bs) start (length (flat_map f bs))
    greater_from more k d low high =
        let first = first_at d filled in
        elim (cases_lt start k) [
          | inl gt ↦
              let behind : name_cmp (get_or own 0 d).0 (get_or (flat_map f bs) k d).0 ≡ Less =
              subst (λ (p : List ℕ × Node). name_cmp p.0 (get_or (flat_map f bs) k d).0 ≡ Less) first
              (in_order start k d gt high) in
              behind_greater (get_or (flat_map f bs) k d).0 (get_or own 0 d).0 name behind (more d)
          | inr le ↦
              let here : start ≡ k = omega (arith, le, low) in
              subst (λ n. name_cmp (get_or (flat_map f bs) n d).0 name ≡ Greater) here
              (subst (λ (p : List ℕ × Node). name_cmp p.0 name ≡ Greater) (sym first) (more d))
        ]

  pub at_joined : (name : List ℕ) (i : ℕ) → IsAt own name i → IsAt (flat_map f bs) name (start + i)
  at_joined name i is_at = record {
    within = omega (arith, is_at.within, fits);
    named = λ d. rw (at i d is_at.within) (is_at.named d);
  }

  pub gap_joined : (name : List ℕ) (i : ℕ) → AllWithin (IsLess name) (flat_map f bs) 0 start
      → AllWithin (IsGreater name) (flat_map f bs) (length (flat_map f (take (b + 1) bs))) (length (flat_map f bs))
      → IsGap own name i → IsGap (flat_map f bs) name (start + i)
  gap_joined name i before behind gap = record {
    within = omega (arith, gap.within, fits);
    lesser = λ k d low high. elim (cases_lt k start) [
      | inl lt ↦ before k d low lt
      | inr ge ↦
          let j : ℕ = k - start in
          let is : start + j ≡ k = omega (arith, ge) in
          let j_lt : j < i = omega (arith, is, high) in
          subst (λ n. name_cmp (get_or (flat_map f bs) n d).0 name ≡ Less) is
          (rw (at j d (omega (arith, j_lt, gap.within))) (gap.lesser j d (omega arith) j_lt))
    ];
    greater = λ k d low high. elim (cases_lt k (start + length own)) [
      | inl lt ↦
          let j : ℕ = k - start in
          let is : start + j ≡ k = omega (arith, low) in
          let j_lt : j < length own = omega (arith, is, lt) in
          subst (λ n. name_cmp (get_or (flat_map f bs) n d).0 name ≡ Greater) is
          (rw (at j d j_lt) (gap.greater j d (omega (arith, is, low)) j_lt))
      | inr ge ↦ behind k d (omega (arith, ge, next)) high
    ];
  }
