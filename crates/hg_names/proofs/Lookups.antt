-- A name among blocks of names, by its place in a block.
use Rattle.std.proofs.Common.{◌≡◌, ℕ, ◌+◌, ◌<◌, true, false, List, [], ◌∷◌, ◌++◌, length, get_or, take, drop}
use Rattle.std.proofs.Common.{is_some, true≢false, cond, Some, None, refl, sym, ap, ◌∙◌, subst, arith, inl, inr, bytes_eq}
use Rattle.std.specs.List.{flat_map, AllByRecursion, AllWithin}
use Rattle.std.specs.declared.cmp.Ordering.TheVariants.{Less, Greater}
use Rattle.std.proofs.lemmas.Bool.{cases_lt}
use Rattle.std.proofs.lemmas.List.{take-append-drop, drop_more, length-take, get_or-take}
use Rattle.std.proofs.lemmas.List.Elements.{recursion_from_All}
use Rattle.std.proofs.lemmas.Slice.Eq.{bytes_eq-Decides}
use Rattle.hg_types.specs.declared.node.Node.{Node}
use Rattle.hg_names.specs.declared.blocks.Block.{Block}
use Rattle.hg_names.specs.Names.{Pairs, name_cmp, AreInOrder, node_of}
use Rattle.hg_names.specs.code.Places.{IsAt, IsGap}
use Rattle.hg_names.specs.code.Blocks.{IsLess, IsGreater}
use Rattle.hg_names.proofs.Search.{own_order, at_joined, gap_joined}
use Rattle.hg_names.proofs.OrderLemmas.{is_other}
use Rattle.hg_names.proofs.Own.{items, read_of}

module _ (name : List ℕ) where
  none_of : (pairs : Pairs) → AllByRecursion (λ pair. bytes_eq pair.0 name ≡ false) pairs
      → node_of pairs name ≡ None
  none_of [] each = refl
  none_of (pair ∷ pairs) each = ap (λ b. cond b (Some pair.1) (node_of pairs name)) each.0 ∙ none_of pairs each.1

  rest_of : (front rest : Pairs) → AllByRecursion (λ pair. bytes_eq pair.0 name ≡ false) front
      → node_of (front ++ rest) name ≡ node_of rest name
  rest_of [] rest each = refl
  rest_of (pair ∷ front) rest each = ap (λ b. cond b (Some pair.1) (node_of (front ++ rest) name)) each.0
      ∙ rest_of front rest each.1

-- a name with a gap is not there
pub none_at : (pairs : Pairs) (name : List ℕ) (place : ℕ) → IsGap pairs name place → node_of pairs name ≡ None
none_at pairs name place gap =
    none_of name pairs (recursion_from_All (λ pair. bytes_eq pair.0 name ≡ false) pairs
    (λ k d lt. elim (cases_lt k place) [
      | inl below ↦ is_other _ name Less (gap.lesser k d (omega arith) below)
      | inr above ↦ is_other _ name Greater (gap.greater k d (omega (arith, above)) lt)
    ]))

-- a name at a place is on the changeset there
pub found_at : (pairs : Pairs) (name : List ℕ) (place : ℕ) (d : List ℕ × Node) → AreInOrder pairs
    → IsAt pairs name place → node_of pairs name ≡ Some (get_or pairs place d).1
found_at pairs name place d in_order is_at =
    let before : AllByRecursion (λ pair. bytes_eq pair.0 name ≡ false) (take place pairs) =
    recursion_from_All (λ pair. bytes_eq pair.0 name ≡ false) (take place pairs)
    (λ k e lt.
    let below : k < place = omega (arith, length-take place pairs, lt) in
    let less : name_cmp (get_or pairs k e).0 name ≡ Less =
    subst (λ n. name_cmp (get_or pairs k e).0 n ≡ Less) (is_at.named e)
    (in_order k place e below is_at.within) in
    rw (get_or-take place pairs k e below) (is_other (get_or pairs k e).0 name Less less)) in
    let here : bytes_eq (get_or pairs place d).0 name ≡ true = (bytes_eq-Decides _ name).1 (is_at.named d) in
    ap (λ (ps : Pairs). node_of ps name)
    (sym (take-append-drop place pairs) ∙ ap (λ l. take place pairs ++ l) (drop_more pairs place d is_at.within))
    ∙ rest_of name (take place pairs) (get_or pairs place d ∷ drop (place + 1) pairs) before
    ∙ ap (λ b. cond b (Some (get_or pairs place d).1) (node_of (drop (place + 1) pairs) name)) here

pub no_pair : List ℕ × Node
no_pair = ([], record { 0 = [] })

clash : (node : Node) → Some node ≡ None → ⊥
clash node e = absurd cc

-- a name that is not there has no place
pub not_at : (pairs : Pairs) (name : List ℕ) (place : ℕ) → AreInOrder pairs → node_of pairs name ≡ None
    → IsAt pairs name place → ⊥
not_at pairs name place in_order none is_at =
    clash (get_or pairs place no_pair).1 (sym (found_at pairs name place no_pair in_order is_at) ∙ none)

-- and one that is there has no gap
pub not_free : (pairs : Pairs) (name : List ℕ) (place : ℕ) → is_some (node_of pairs name) ≡ true
    → IsGap pairs name place → ⊥
not_free pairs name place some gap = true≢false (sym some ∙ ap is_some (none_at pairs name place gap))

-- ---- by a block

module _ {A : Type 0} (blocks : List (Block A)) (b : ℕ) (block : Block A) (within : b < length blocks)
    (is : block ≡ get_or blocks b block) where
  abbrev first : ℕ
  first = length (flat_map items (take b blocks))

  pub block_order : AreInOrder (flat_map items blocks) → AreInOrder (items block)
  block_order in_order =
      subst (λ (own : Block A). AreInOrder (items own)) (sym is) (own_order items blocks b block within in_order)

  module _ (name : List ℕ) (i : ℕ) where
    pub at_in : IsAt (items block) name i → IsAt (flat_map items blocks) name (first + i)
    at_in is_at =
        at_joined items blocks b block within name i
        (subst (λ (own : Block A). IsAt (items own) name i) is is_at)

    pub gap_in : AllWithin (IsLess name) (flat_map items blocks) 0 first
        → AllWithin (IsGreater name) (flat_map items blocks) (length (flat_map items (take (b + 1) blocks)))
        (length (flat_map items blocks))
        → IsGap (items block) name i → IsGap (flat_map items blocks) name (first + i)
    gap_in lesser greater gap =
        gap_joined items blocks b block within name i lesser greater
        (subst (λ (own : Block A). IsGap (items own) name i) is gap)

    pub found_in : (pair : List ℕ × Node) → AreInOrder (flat_map items blocks) → IsAt (items block) name i
        → pair ≡ get_or (items block) i pair → node_of (flat_map items blocks) name ≡ Some pair.1
    found_in pair in_order is_at read =
        found_at (flat_map items blocks) name (first + i) pair in_order (at_in is_at)
        ∙ ap (λ (p : List ℕ × Node). Some p.1) (sym (read_of blocks b i block pair within is is_at.within read pair))
