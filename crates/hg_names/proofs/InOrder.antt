-- Names stay in order when one comes, moves or leaves.
use Rattle.std.proofs.Common.{◌≡◌, ◌<◌, ◌≤◌, ◌++◌, ℕ, suc, true, true≢false, List, [], ◌∷◌, length, get_or, filter}
use Rattle.std.proofs.Common.{AllPairs, All, refl, sym, ap, subst, arith}
use Rattle.std.specs.List.{remove}
use Rattle.std.proofs.lemmas.List.{get_or_default}
use Rattle.std.proofs.lemmas.List.Elements.{All-append, All-cons, filter_passes}
use Rattle.std.proofs.lemmas.List.Kept.{AllPairs-filter, AllPairs-cons}
use Rattle.std.proofs.lemmas.List.Quantifiers.{all_pairs_remove}
use Rattle.std.proofs.lemmas.Cmp.{nat_list_cmp_total}
use Rattle.std.specs.Ordering.{is_lt}
use Rattle.std.specs.declared.cmp.Ordering.{Ordering}
use Rattle.std.specs.declared.cmp.Ordering.TheVariants.{Less, Equal, Greater}
use Rattle.hg_types.specs.declared.node.Node.{Node}
use Rattle.hg_names.specs.Names.{Pairs, name_cmp, is_before, AreInOrder, with_name, without}
use Rattle.hg_names.specs.code.Places.{moved}
use Rattle.hg_names.proofs.Edits.{with_moved}

less_is : (o : Ordering) → is_lt o ≡ true → o ≡ Less
less_is Less is = refl
less_is Equal is = absurd (true≢false (sym is))
less_is Greater is = absurd (true≢false (sym is))

pairs_append : {X : Type 0} (R : X → X → Type 0) (xs ys : List X) → AllPairs R xs → AllPairs R ys →
    All (λ x. All (R x) ys) xs → AllPairs R (xs ++ ys)
pairs_append R [] ys first second across = second
pairs_append {X} R (x ∷ xs) ys first second across =
    let behind : All (R x) xs = λ k d low. first 0 (suc k) d (omega arith) (omega (arith, low)) in
    let tail : AllPairs R xs =
    λ i j d less within. first (suc i) (suc j) d (omega (arith, less)) (omega (arith, within)) in
    let others : All (λ z. All (R z) ys) xs = λ k d low. across (suc k) d (omega (arith, low)) in
    AllPairs-cons R x (xs ++ ys) (All-append (R x) xs ys behind (across 0 x (omega arith)))
    (pairs_append R xs ys tail second others)

abbrev Follows : List ℕ × Node → List ℕ × Node → Type 0
Follows pair other = name_cmp pair.0 other.0 ≡ Less

module _ (pairs : Pairs) (name : List ℕ) (in_order : AreInOrder pairs) where
  front : Pairs
  front = filter (λ pair. is_before pair.0 name) pairs

  behind : Pairs
  behind = filter (λ pair. is_before name pair.0) pairs

  front_before : All (λ pair. name_cmp pair.0 name ≡ Less) front
  unfolding front
  front_before k d low = less_is _ (filter_passes (λ pair. is_before pair.0 name) pairs k d low)

  behind_after : All (λ pair. name_cmp name pair.0 ≡ Less) behind
  unfolding behind
  behind_after k d low = less_is _ (filter_passes (λ pair. is_before name pair.0) pairs k d low)

  front_in_order : AllPairs Follows front
  unfolding front
  front_in_order = AllPairs-filter Follows (λ pair. is_before pair.0 name) pairs in_order

  behind_in_order : AllPairs Follows behind
  unfolding behind
  behind_in_order = AllPairs-filter Follows (λ pair. is_before name pair.0) pairs in_order

  behind_follows : (pair : List ℕ × Node) → name_cmp pair.0 name ≡ Less → All (Follows pair) behind
  behind_follows pair less k d low =
      nat_list_cmp_total.trans pair.0 name (get_or behind k d).0 less (behind_after k d low)

  -- with a name on a changeset
  pub in_order_with : (node : Node) → AreInOrder (with_name pairs name node)
  unfolding with_name front behind
  in_order_with node =
      pairs_append Follows front ((name, node) ∷ behind) front_in_order
      (AllPairs-cons Follows (name, node) behind behind_after behind_in_order)
      (λ k d low. All-cons (Follows (get_or front k d)) (name, node) behind (front_before k d low)
      (behind_follows (get_or front k d) (front_before k d low)))

  -- without the name
  pub in_order_without : AreInOrder (without pairs name)
  unfolding without front behind
  in_order_without =
      pairs_append Follows front behind front_in_order behind_in_order
      (λ k d low. behind_follows (get_or front k d) (front_before k d low))

-- where there are no two names
pub in_order_few : (pairs : Pairs) → length pairs ≤ 1 → AreInOrder pairs
in_order_few pairs few i j d less within = absurd (omega (arith, few, less, within))

-- with one at a place taken out
pub in_order_removed : (pairs : Pairs) (place : ℕ) → place < length pairs → AreInOrder pairs
    → AreInOrder (remove pairs place)
in_order_removed pairs place within in_order = all_pairs_remove Follows pairs place within in_order

-- with one at a place on another changeset
pub in_order_moved : (pairs : Pairs) (place : ℕ) (node : Node) → place < length pairs → AreInOrder pairs
    → AreInOrder (moved pairs place node)
in_order_moved pairs place node within in_order =
    let name = (get_or pairs place ([], node)).0 in
    subst AreInOrder
    (with_moved pairs name place (record {
      within = within;
      named = λ d. ap (λ (pair : List ℕ × Node). pair.0) (get_or_default pairs place d ([], node) within);
    }) in_order node)
    (in_order_with pairs name in_order node)
