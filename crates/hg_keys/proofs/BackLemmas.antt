-- A name that is set and set back to what it was on.
use Rattle.std.proofs.Common.{◌≡◌, ℕ, suc, Bool, true, false, true≢false, cond, List, [], ◌∷◌, ◌++◌}
use Rattle.std.proofs.Common.{get_or, Option, Some, None, refl, sym, ap, ◌∙◌, arith, bytes_eq, subst}
use Rattle.std.specs.List.{filter, AllByRecursion}
use Rattle.std.specs.Ordering.{is_lt, ordering_reverse}
use Rattle.std.specs.declared.cmp.Ordering.{Ordering}
use Rattle.std.specs.declared.cmp.Ordering.TheVariants.{Less, Equal, Greater}
use Rattle.std.proofs.lemmas.Cmp.{nat_list_cmp_total}
use Rattle.std.proofs.lemmas.List.{append-nil}
use Rattle.std.proofs.lemmas.List.Elements.{filter-append, recursion_from_All}
use Rattle.std.proofs.lemmas.Slice.Eq.{bytes_eq-Decides}
use Rattle.hg_types.specs.declared.node.Node.{Node}
use Rattle.hg_names.specs.Names.{Pairs, name_cmp, is_before, AreInOrder, node_of}
use Rattle.hg_names.proofs.CallerLemmas.{turned, names_equal, not_before_itself, is_other}
use Rattle.hg_keys.specs.Bookmarks.{with_bookmark}
use Rattle.hg_keys.proofs.PartsLemmas.{pair_of, parts}

module _ (name : List ℕ) where
  abbrev lesser : Pairs → Pairs
  lesser pairs = filter (λ pair. is_before pair.0 name) pairs

  abbrev greater : Pairs → Pairs
  greater pairs = filter (λ pair. is_before name pair.0) pairs

  -- how a name stands to another, by each of the three tests
  before : (other : List ℕ) (o : Ordering) → name_cmp other name ≡ o → is_before other name ≡ is_lt o
  before other o is = ap is_lt is

  behind : (other : List ℕ) (o : Ordering) → name_cmp other name ≡ o
      → is_before name other ≡ is_lt (ordering_reverse o)
  behind other o is = ap is_lt (turned other name o is)

  keeps : (test : List ℕ → Bool) (pair : List ℕ × Node) (pairs : Pairs) → test pair.0 ≡ true
      → filter (λ p. test p.0) (pair ∷ pairs) ≡ pair ∷ filter (λ p. test p.0) pairs
  keeps test pair pairs is =
      ap (λ b. cond b (pair ∷ filter (λ p. test p.0) pairs) (filter (λ p. test p.0) pairs)) is

  drops : (test : List ℕ → Bool) (pair : List ℕ × Node) (pairs : Pairs) → test pair.0 ≡ false
      → filter (λ p. test p.0) (pair ∷ pairs) ≡ filter (λ p. test p.0) pairs
  drops test pair pairs is =
      ap (λ b. cond b (pair ∷ filter (λ p. test p.0) pairs) (filter (λ p. test p.0) pairs)) is

  -- a filter of what a filter kept
  twice : (test keep : List ℕ → Bool) (pairs : Pairs) → ((k : List ℕ) → keep k ≡ true → test k ≡ true)
      → filter (λ p. test p.0) (filter (λ p. keep p.0) pairs) ≡ filter (λ p. keep p.0) pairs
  twice test keep [] sure = refl
  twice test keep (pair ∷ pairs) sure = by (twice test keep pairs sure) (keep pair.0) refl
    where
      by : filter (λ p. test p.0) (filter (λ p. keep p.0) pairs) ≡ filter (λ p. keep p.0) pairs
          → (b : Bool) → keep pair.0 ≡ b
          → filter (λ p. test p.0) (filter (λ p. keep p.0) (pair ∷ pairs)) ≡ filter (λ p. keep p.0) (pair ∷ pairs)
      by rest true is =
          ap (λ ps. filter (λ p. test p.0) ps) (keeps keep pair pairs is)
          ∙ keeps test pair (filter (λ p. keep p.0) pairs) (sure pair.0 is)
          ∙ ap (λ ps. pair ∷ ps) rest ∙ sym (keeps keep pair pairs is)
      by rest false is =
          ap (λ ps. filter (λ p. test p.0) ps) (drops keep pair pairs is) ∙ rest ∙ sym (drops keep pair pairs is)

  -- and of what it kept for another reason
  never : (test keep : List ℕ → Bool) (pairs : Pairs) → ((k : List ℕ) → keep k ≡ true → test k ≡ false)
      → filter (λ p. test p.0) (filter (λ p. keep p.0) pairs) ≡ []
  never test keep [] sure = refl
  never test keep (pair ∷ pairs) sure = by (never test keep pairs sure) (keep pair.0) refl
    where
      by : filter (λ p. test p.0) (filter (λ p. keep p.0) pairs) ≡ [] → (b : Bool) → keep pair.0 ≡ b
          → filter (λ p. test p.0) (filter (λ p. keep p.0) (pair ∷ pairs)) ≡ []
      by rest true is =
          ap (λ ps. filter (λ p. test p.0) ps) (keeps keep pair pairs is)
          ∙ drops test pair (filter (λ p. keep p.0) pairs) (sure pair.0 is) ∙ rest
      by rest false is = ap (λ ps. filter (λ p. test p.0) ps) (drops keep pair pairs is) ∙ rest

  -- no name comes both before and after
  not_behind : (other : List ℕ) → is_before other name ≡ true → is_before name other ≡ false
  not_behind other is = by (name_cmp other name) refl
    where
      by : (o : Ordering) → name_cmp other name ≡ o → is_before name other ≡ false
      by Less o = behind other Less o
      by Equal o = behind other Equal o
      by Greater o = absurd (true≢false (sym is ∙ before other Greater o))

  not_before : (other : List ℕ) → is_before name other ≡ true → is_before other name ≡ false
  not_before other is = by (name_cmp other name) refl
    where
      by : (o : Ordering) → name_cmp other name ≡ o → is_before other name ≡ false
      by Less o = absurd (true≢false (sym is ∙ behind other Less o))
      by Equal o = before other Equal o
      by Greater o = before other Greater o

  none_lesser : (node : Option Node) → lesser (pair_of name node) ≡ []
  none_lesser None = refl
  none_lesser (Some node) = drops (λ k. is_before k name) (name, node) [] (not_before_itself name)

  none_greater : (node : Option Node) → greater (pair_of name node) ≡ []
  none_greater None = refl
  none_greater (Some node) = drops (λ k. is_before name k) (name, node) [] (not_before_itself name)

  module _ (pairs : Pairs) (node : Option Node) where
    lesser_stay : lesser (with_bookmark pairs name node) ≡ lesser pairs
    lesser_stay =
        ap lesser (parts pairs name node)
        ∙ filter-append (λ pair. is_before pair.0 name) (lesser pairs) (pair_of name node ++ greater pairs)
        ∙ ap (λ ps. ps ++ lesser (pair_of name node ++ greater pairs))
        (twice (λ k. is_before k name) (λ k. is_before k name) pairs (λ k is. is))
        ∙ ap (λ ps. lesser pairs ++ ps)
        (filter-append (λ pair. is_before pair.0 name) (pair_of name node) (greater pairs)
        ∙ ap (λ ps. ps ++ lesser (greater pairs)) (none_lesser node)
        ∙ never (λ k. is_before k name) (λ k. is_before name k) pairs not_before)
        ∙ append-nil (lesser pairs)

    greater_stay : greater (with_bookmark pairs name node) ≡ greater pairs
    greater_stay =
        ap greater (parts pairs name node)
        ∙ filter-append (λ pair. is_before name pair.0) (lesser pairs) (pair_of name node ++ greater pairs)
        ∙ ap (λ ps. ps ++ greater (pair_of name node ++ greater pairs))
        (never (λ k. is_before name k) (λ k. is_before k name) pairs not_behind)
        ∙ filter-append (λ pair. is_before name pair.0) (pair_of name node) (greater pairs)
        ∙ ap (λ ps. ps ++ greater (greater pairs)) (none_greater node)
        ∙ twice (λ k. is_before name k) (λ k. is_before name k) pairs (λ k is. is)

  -- pairs that all come after the name
  abbrev Follow : Pairs → Type 0
  Follow pairs = AllByRecursion (λ pair. name_cmp pair.0 name ≡ Greater) pairs

  no_lesser : (pairs : Pairs) → Follow pairs → lesser pairs ≡ []
  no_lesser [] each = refl
  no_lesser (pair ∷ pairs) each =
      drops (λ k. is_before k name) pair pairs (before pair.0 Greater each.0) ∙ no_lesser pairs each.1

  all_greater : (pairs : Pairs) → Follow pairs → greater pairs ≡ pairs
  all_greater [] each = refl
  all_greater (pair ∷ pairs) each =
      keeps (λ k. is_before name k) pair pairs (behind pair.0 Greater each.0)
      ∙ ap (λ ps. pair ∷ ps) (all_greater pairs each.1)

  not_there : (pairs : Pairs) → Follow pairs → node_of pairs name ≡ None
  not_there [] each = refl
  not_there (pair ∷ pairs) each =
      ap (λ b. cond b (Some pair.1) (node_of pairs name)) (is_other pair.0 name Greater each.0) ∙ not_there pairs each.1

  -- what follows a pair that does not come before the name
  rest_follows : (pair : List ℕ × Node) (pairs : Pairs) → AreInOrder (pair ∷ pairs)
      → ((k : List ℕ) → name_cmp pair.0 k ≡ Less → name_cmp k name ≡ Greater) → Follow pairs
  rest_follows pair pairs in_order over =
      recursion_from_All (λ p. name_cmp p.0 name ≡ Greater) pairs
      (λ k d low. over (get_or pairs k d).0 (in_order 0 (suc k) d (omega arith) (omega (arith, low))))

  tail_order : (pair : List ℕ × Node) (pairs : Pairs) → AreInOrder (pair ∷ pairs) → AreInOrder pairs
  tail_order pair pairs in_order =
      λ i j d less within. in_order (suc i) (suc j) d (omega (arith, less)) (omega (arith, within))

  -- pairs in order are those before the name, the name, and those after it
  three_parts : (pairs : Pairs) → AreInOrder pairs
      → lesser pairs ++ (pair_of name (node_of pairs name) ++ greater pairs) ≡ pairs
  three_parts [] in_order = refl
  three_parts (pair ∷ pairs) in_order = by (three_parts pairs (tail_order pair pairs in_order)) (name_cmp pair.0 name) refl
    where
      by : lesser pairs ++ (pair_of name (node_of pairs name) ++ greater pairs) ≡ pairs
          → (o : Ordering) → name_cmp pair.0 name ≡ o
          → lesser (pair ∷ pairs) ++ (pair_of name (node_of (pair ∷ pairs) name) ++ greater (pair ∷ pairs))
          ≡ pair ∷ pairs
      by others Less is =
          let front = keeps (λ k. is_before k name) pair pairs (before pair.0 Less is) in
          let rest = drops (λ k. is_before name k) pair pairs (behind pair.0 Less is) in
          let on = ap (λ b. cond b (Some pair.1) (node_of pairs name)) (is_other pair.0 name Less is) in
          (λ i. front i ++ (pair_of name (on i) ++ rest i))
          ∙ ap (λ ps. pair ∷ ps) others
      by others Equal is =
          let here : pair.0 ≡ name = names_equal pair.0 name is in
          let follow = rest_follows pair pairs in_order
          (λ k less. turned name k Less (subst (λ n. name_cmp n k ≡ Less) here less)) in
          let front = drops (λ k. is_before k name) pair pairs (before pair.0 Equal is) ∙ no_lesser pairs follow in
          let rest = drops (λ k. is_before name k) pair pairs (behind pair.0 Equal is) ∙ all_greater pairs follow in
          let on = ap (λ b. cond b (Some pair.1) (node_of pairs name)) (is_other pair.0 name Equal is) in
          (λ i. front i ++ (pair_of name (on i) ++ rest i))
          ∙ ap (λ (n : List ℕ). (n, pair.1) ∷ pairs) (sym here)
      by others Greater is =
          let follow = rest_follows pair pairs in_order
          (λ k less. turned name k Less (nat_list_cmp_total.trans name pair.0 k (turned pair.0 name Greater is) less)) in
          let front = drops (λ k. is_before k name) pair pairs (before pair.0 Greater is) ∙ no_lesser pairs follow in
          let rest = keeps (λ k. is_before name k) pair pairs (behind pair.0 Greater is)
          ∙ ap (λ ps. pair ∷ ps) (all_greater pairs follow) in
          let on = ap (λ b. cond b (Some pair.1) (node_of pairs name)) (is_other pair.0 name Greater is)
          ∙ not_there pairs follow in
          λ i. front i ++ (pair_of name (on i) ++ rest i)

  -- a name that is set and set back
  pub set_back : (pairs : Pairs) (node : Option Node) → AreInOrder pairs
      → with_bookmark (with_bookmark pairs name node) name (node_of pairs name) ≡ pairs
  set_back pairs node in_order =
      parts (with_bookmark pairs name node) name (node_of pairs name)
      ∙ (λ i. lesser_stay pairs node i ++ (pair_of name (node_of pairs name) ++ greater_stay pairs node i))
      ∙ three_parts pairs in_order

  -- and where what it was on is known
  pub set_back_to : (pairs : Pairs) (node was : Option Node) → AreInOrder pairs → node_of pairs name ≡ was
      → with_bookmark (with_bookmark pairs name node) name was ≡ pairs
  set_back_to pairs node was in_order is =
      ap (λ (o : Option Node). with_bookmark (with_bookmark pairs name node) name o) (sym is)
      ∙ set_back pairs node in_order

  -- a name that is not there is not deleted
  pub stays_away : (pairs : Pairs) → AreInOrder pairs → node_of pairs name ≡ None
      → with_bookmark pairs name None ≡ pairs
  stays_away pairs in_order is =
      parts pairs name None ∙ ap (λ o. lesser pairs ++ (pair_of name o ++ greater pairs)) (sym is) ∙ three_parts pairs in_order

-- where a pair follows a name, the name is not there
not_yet : (pair other : List ℕ × Node) (pairs : Pairs) → AreInOrder (other ∷ pairs) → name_cmp pair.0 other.0 ≡ Less
    → node_of (other ∷ pairs) pair.0 ≡ None
not_yet pair other pairs in_order less =
    let after = turned pair.0 other.0 Less less in
    let follow = rest_follows pair.0 other pairs in_order
    (λ k more. turned pair.0 k Less (nat_list_cmp_total.trans pair.0 other.0 k less more)) in
    ap (λ b. cond b (Some other.1) (node_of pairs pair.0)) (is_other other.0 pair.0 Greater after)
    ∙ not_there pair.0 pairs follow

here : (pair : List ℕ × Node) (pairs : Pairs) → node_of (pair ∷ pairs) pair.0 ≡ Some pair.1
here pair pairs = ap (λ b. cond b (Some pair.1) (node_of pairs pair.0)) ((bytes_eq-Decides pair.0 pair.0).1 refl)

-- the first pair of a map in order is found nowhere after it
not_again : (pair : List ℕ × Node) (pairs : Pairs) → AreInOrder (pair ∷ pairs) → node_of pairs pair.0 ≡ None
not_again pair pairs in_order =
    not_there pair.0 pairs (rest_follows pair.0 pair pairs in_order (λ k less. turned pair.0 k Less less))

-- after the first pairs, of one name, look-ups find the same where they do before
found_later : (pair other : List ℕ × Node) (pairs others : Pairs) → AreInOrder (pair ∷ pairs)
    → AreInOrder (other ∷ others) → pair.0 ≡ other.0
    → ((name : List ℕ) → node_of (pair ∷ pairs) name ≡ node_of (other ∷ others) name) → (name : List ℕ) (b : Bool)
    → bytes_eq pair.0 name ≡ b → node_of pairs name ≡ node_of others name
found_later pair other pairs others in_order ordered one found name true is =
    let at = (bytes_eq-Decides pair.0 name).0 is in
    ap (node_of pairs) (sym at) ∙ not_again pair pairs in_order
    ∙ sym (ap (node_of others) (sym at ∙ one) ∙ not_again other others ordered)
found_later pair other pairs others in_order ordered one found name false is =
    sym (ap (λ b. cond b (Some pair.1) (node_of pairs name)) is) ∙ found name
    ∙ ap (λ b. cond b (Some other.1) (node_of others name)) (ap (λ k. bytes_eq k name) (sym one) ∙ is)

abbrev node_in : Node → Option Node → Node
node_in node (Some found) = found
node_in node None = node

-- pairs in order are those that are found
pub same_pairs : (pairs others : Pairs) → AreInOrder pairs → AreInOrder others
    → ((name : List ℕ) → node_of pairs name ≡ node_of others name) → pairs ≡ others
same_pairs [] [] in_order ordered found = refl
same_pairs [] (other ∷ others) in_order ordered found =
    let clash = found other.0 ∙ here other others in cc
same_pairs (pair ∷ pairs) [] in_order ordered found =
    let clash = sym (here pair pairs) ∙ found pair.0 in cc
same_pairs (pair ∷ pairs) (other ∷ others) in_order ordered found =
    by (same_pairs pairs others (tail_order pair.0 pair pairs in_order) (tail_order other.0 other others ordered))
    (name_cmp pair.0 other.0) refl
  where
    by : (((name : List ℕ) → node_of pairs name ≡ node_of others name) → pairs ≡ others)
        → (o : Ordering) → name_cmp pair.0 other.0 ≡ o → pair ∷ pairs ≡ other ∷ others
    by same_rest Less is =
        let clash = sym (here pair pairs) ∙ found pair.0 ∙ not_yet pair other others ordered is in cc
    by same_rest Greater is =
        let clash = sym (here other others) ∙ sym (found other.0)
        ∙ not_yet other pair pairs in_order (turned pair.0 other.0 Greater is) in cc
    by same_rest Equal is =
        let name : pair.0 ≡ other.0 = names_equal pair.0 other.0 is in
        let node : Some pair.1 ≡ Some other.1 =
        sym (here pair pairs) ∙ found pair.0 ∙ ap (node_of (other ∷ others)) name ∙ here other others in
        let one : pair ≡ other = λ i. (name i, node_in pair.1 (node i)) in
        let rest = same_rest
        (λ n. found_later pair other pairs others in_order ordered name found n (bytes_eq pair.0 n) refl) in
        λ i. one i ∷ rest i
