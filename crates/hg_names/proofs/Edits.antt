-- What an edit at a name's place makes of pairs in order.
use Rattle.std.proofs.Common.{◌≡◌, ℕ, zero, suc, ◌+◌, ◌<◌, false, List, [], ◌∷◌, ◌++◌, length, get_or, take, drop, sym, ap}
use Rattle.std.proofs.Common.{◌∙◌, refl, subst, arith, inl, inr}
use Rattle.std.specs.List.{insert, remove, filter, AllWithin}
use Rattle.std.specs.Ordering.{is_lt}
use Rattle.std.specs.declared.cmp.Ordering.TheVariants.{Less, Equal, Greater}
use Rattle.std.proofs.lemmas.Bool.{cases_lt}
use Rattle.std.proofs.lemmas.Cmp.{nat_list_cmp_total, tied_itself}
use Rattle.std.proofs.lemmas.List.{set_split, take-append-drop}
use Rattle.hg_types.specs.declared.node.Node.{Node}
use Rattle.hg_names.specs.Names.{Pairs, name_cmp, is_before, AreInOrder, with_name, without}
use Rattle.hg_names.specs.code.Places.{IsAt, IsGap, moved}
use Rattle.hg_names.proofs.OrderLemmas.{turned}
use Rattle.hg_names.proofs.Parts.{filter_front, filter_rest}

equals_itself : (a b : List ℕ) → a ≡ b → name_cmp a b ≡ Equal
equals_itself a b same = ap (name_cmp a) (sym same) ∙ tied_itself nat_list_cmp_total a

-- a list from which an item was taken out
pub length_removed : {X : Type 0} (xs : List X) (i : ℕ) → i < length xs → length xs ≡ length (remove xs i) + 1
length_removed [] i lt = absurd (omega (arith, lt))
length_removed (x ∷ xs) zero lt = omega arith
length_removed (x ∷ xs) (suc i) lt = omega (arith, length_removed xs i (omega (arith, lt)))

-- the pairs before a gap
gap_front : (pairs : Pairs) (name : List ℕ) (place : ℕ) → IsGap pairs name place
    → filter (λ pair. is_before pair.0 name) pairs ≡ take place pairs
gap_front pairs name place gap =
    filter_front (λ pair. is_before pair.0 name) pairs place
    (λ k d low high. ap is_lt (gap.lesser k d low high))
    (λ k d low high. ap is_lt (gap.greater k d low high))

-- and those from it on
gap_rest : (pairs : Pairs) (name : List ℕ) (place : ℕ) → IsGap pairs name place
    → filter (λ pair. is_before name pair.0) pairs ≡ drop place pairs
gap_rest pairs name place gap =
    filter_rest (λ pair. is_before name pair.0) pairs place
    (λ k d low high. ap is_lt (turned _ name Less (gap.lesser k d low high)))
    (λ k d low high. ap is_lt (turned _ name Greater (gap.greater k d low high)))

-- a name goes into its gap
pub with_gap : (pairs : Pairs) (name : List ℕ) (place : ℕ) (node : Node) → IsGap pairs name place
    → with_name pairs name node ≡ insert pairs place (name, node)
unfolding with_name
with_gap pairs name place node gap =
    let front = gap_front pairs name place gap in
    let rest = gap_rest pairs name place gap in
    λ i. front i ++ (name, node) ∷ rest i

-- a name with a gap is not there to be taken out
pub without_gap : (pairs : Pairs) (name : List ℕ) (place : ℕ) → IsGap pairs name place
    → without pairs name ≡ pairs
unfolding without
without_gap pairs name place gap =
    let front = gap_front pairs name place gap in
    let rest = gap_rest pairs name place gap in
    (λ i. front i ++ rest i) ∙ take-append-drop place pairs

-- nor is any among none
pub without_none : (name : List ℕ) → without [] name ≡ []
unfolding without
without_none name = refl

-- the first name
pub with_first : (pair : List ℕ × Node) → with_name [] pair.0 pair.1 ≡ pair ∷ []
unfolding with_name
with_first pair = refl

module _ (pairs : Pairs) (name : List ℕ) (place : ℕ) (is_at : IsAt pairs name place)
    (in_order : AreInOrder pairs) where
  lesser : AllWithin (λ pair. name_cmp pair.0 name ≡ Less) pairs 0 place
  lesser k d low high = subst (λ n. name_cmp (get_or pairs k d).0 n ≡ Less) (is_at.named d)
      (in_order k place d high is_at.within)

  greater : AllWithin (λ pair. name_cmp pair.0 name ≡ Greater) pairs (suc place) (length pairs)
  greater k d low high =
      let less : name_cmp name (get_or pairs k d).0 ≡ Less = subst
      (λ n. name_cmp n (get_or pairs k d).0 ≡ Less) (is_at.named d)
      (in_order place k d (omega (arith, low)) high) in
      turned name (get_or pairs k d).0 Less less

  -- the pair at the place comes neither before nor after
  from_place : AllWithin (λ pair. is_before pair.0 name ≡ false) pairs place (length pairs)
  from_place k d low high =
      elim (cases_lt place k) [
        | inl gt ↦ ap is_lt (greater k d (omega (arith, gt)) high)
        | inr le ↦
            let here : k ≡ place = omega arith in
            ap is_lt (equals_itself _ name (ap (λ n. (get_or pairs n d).0) here ∙ is_at.named d))
      ]

  upto_place : AllWithin (λ pair. is_before name pair.0 ≡ false) pairs 0 (suc place)
  upto_place k d low high =
      elim (cases_lt k place) [
        | inl lt ↦ ap is_lt (turned _ name Less (lesser k d low lt))
        | inr ge ↦
            let here : k ≡ place = omega (arith, high) in
            ap is_lt (equals_itself name _ (sym (ap (λ n. (get_or pairs n d).0) here ∙ is_at.named d)))
      ]

  -- the name taken out
  pub without_place : without pairs name ≡ remove pairs place
  unfolding without
  without_place =
      let front = filter_front (λ pair. is_before pair.0 name) pairs place
      (λ k d low high. ap is_lt (lesser k d low high)) from_place in
      let rest = filter_rest (λ pair. is_before name pair.0) pairs (suc place) upto_place
      (λ k d low high. ap is_lt (turned _ name Greater (greater k d low high))) in
      λ i. front i ++ rest i

  -- the name on another changeset
  pub with_moved : (node : Node) → with_name pairs name node ≡ moved pairs place node
  unfolding with_name
  with_moved node =
      let front = filter_front (λ pair. is_before pair.0 name) pairs place
      (λ k d low high. ap is_lt (lesser k d low high)) from_place in
      let rest = filter_rest (λ pair. is_before name pair.0) pairs (suc place) upto_place
      (λ k d low high. ap is_lt (turned _ name Greater (greater k d low high))) in
      (λ i. front i ++ (name, node) ∷ rest i)
      ∙ ap (λ n. take place pairs ++ (n, node) ∷ drop (suc place) pairs) (sym (is_at.named ([], node)))
      ∙ sym (set_split pairs place ((get_or pairs place ([], node)).0, node) is_at.within)
