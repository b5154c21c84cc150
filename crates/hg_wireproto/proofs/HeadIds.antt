-- The ids of the heads as changesets come: a new one takes out those that it names, and is one itself.
use Rattle.std.proofs.Common.{◌≡◌, ◌≢◌, ◌⊎◌, ◌↔◌, ℕ, ◌+◌, ◌<◌, ◌≤◌, List, [], ◌∷◌, ◌++◌, length, take}
use Rattle.std.proofs.Common.{Bool, true, false, cond, Option, Some, None, slice_get, get_or, All, AllPairs, Contains}
use Rattle.std.proofs.Common.{bytes_eq, refl, sym, ap, ◌∙◌, subst, inl, inr, arith, rules, ◌-◌, Result, Ok, Err}
use Rattle.std.specs.Prelude.{nat_lt, IfOk}
use Rattle.std.specs.BTreeMap.{is_at}
use Rattle.std.specs.BTreeSet.{BTreeSet, contains}
use Rattle.std.specs.Cmp.{IsTotalOrder}
use Rattle.std.specs.Cmp.Lexicographic.{slice_cmp}
use Rattle.std.specs.declared.cmp.Ordering.TheVariants.{Less, Equal}
use Rattle.std.specs.List.{flat_map, position_or_len}
use Rattle.std.specs.List.Sorted.{IsStrictlySortedBy}
use Rattle.std.specs.Ordering.{is_eq, is_lt, nat_cmp, ordering_reverse}
use Rattle.std.proofs.lemmas.Bool.{cases_lt, cond-true, lt-ltb, true≢false}
use Rattle.std.proofs.lemmas.Cmp.{nat_list_cmp_total, tied_itself}
use Rattle.std.proofs.lemmas.List.{length-append, length-map, length-take-le, get_or_append_left, get_or_push}
use Rattle.std.proofs.lemmas.List.{append-nil, get_or-map}
use Rattle.std.proofs.lemmas.List.Elements.{All-push, Contains-get_or}
use Rattle.std.proofs.lemmas.List.Kept.{AllPairs-cons}
use Rattle.std.proofs.lemmas.List.Quantifiers.{position-Some}
use Rattle.std.proofs.lemmas.List.Sums.{position_or_len_is}
use Rattle.std.proofs.lemmas.Map.Keys.{sorted_tail}
use Rattle.std.proofs.lemmas.Map.Lookups.{CmpEqualImpliesEq, exact_bytes}
use Rattle.std.proofs.lemmas.Map.Views.{All-after_first, btree_set_contains_iff, tells_apart}
use Rattle.std.proofs.lemmas.Option.{slice_get_within, get_or_from_slice_get, slice_get-get_or}
use Rattle.std.proofs.lemmas.Slice.Eq.{bytes_eq-Decides}
use Rattle.hex.specs.Hex.{encode_lower}
use Rattle.hg_types.specs.contracts.node.NodeOrd.TheImpl as ord
use Rattle.hg_types.specs.declared.node.Node.{Node}
use Rattle.hg_types.specs.NullId.{null_id}
use Rattle.hg_log.specs.Changeset.{Changeset}
use Rattle.hg_log.specs.Heads.{IsHead, AreHeads, ids}
use Rattle.hg_log.specs.Parents.{parents_in, parents_of, rev_of}
use Rattle.hg_log.specs.Rows.{AreLawful, HasNode, IsEarlier}
use Rattle.hg_wireproto.specs.Heads.{IsHeadsText}
use Rattle.hg_wireproto.specs.Text.{ended}
use Rattle.hg_wireproto.specs.code.HeadIds.{AreHeadIds, AreLeft}
use Rattle.hg_wireproto.proofs.Coming.{slice_get_taken}
use Rattle.hg_wireproto.proofs.Lines.{heads_said, id_word, taken_more}

-- ---- rows

-- a row is still there once one more is
pub has_on : (front : List Changeset) (row : Changeset) (r : ℕ) (id : List ℕ) → HasNode front r id
    → HasNode (front ++ row ∷ []) r id
has_on front row r id has =
    let within : r < length front = slice_get_within front r has.row has.row_at in
    let long : r < length (front ++ row ∷ []) = omega (arith, length-append front (row ∷ [])) in
    record {
      row = has.row;
      row_at = slice_get-get_or (front ++ row ∷ []) r has.row long
          ∙ ap (λ (x : Changeset). Some x) (get_or_append_left front (row ∷ []) has.row r within
          ∙ get_or_from_slice_get front r has.row has.row has.row_at);
      node_is = has.node_is;
    }

-- a row is the last, or was there before it
pub has_back : (front : List Changeset) (row : Changeset) (r : ℕ) (id : List ℕ) → HasNode (front ++ row ∷ []) r id
    → (row.node ≡ id) ⊎ HasNode front r id
has_back front row r id has =
    let all : List Changeset = front ++ row ∷ [] in
    let within : r < length all = slice_get_within all r has.row has.row_at in
    let here : get_or all r has.row ≡ has.row = get_or_from_slice_get all r has.row has.row has.row_at in
    elim (cases_lt r (length front)) [
      | inl low ↦ inr (record {
        row = has.row;
        row_at = slice_get-get_or front r has.row low
            ∙ ap (λ (x : Changeset). Some x) (sym (get_or_append_left front (row ∷ []) has.row r low) ∙ here);
        node_is = has.node_is;
      })
      | inr past ↦
          let last : length front ≡ r = omega (arith, length-append front (row ∷ [])) in
          inl (ap (λ (x : Changeset). x.node) (sym (get_or_push front row has.row r last) ∙ here) ∙ has.node_is)
    ]

-- a head that the last does not name is one still
head_on : (front : List Changeset) (row : Changeset) (id : List ℕ) → IsHead front id → row.p1 ≢ id → row.p2 ≢ id
    → IsHead (front ++ row ∷ []) id
head_on front row id head first second = record {
  rev = head.rev;
  has = has_on front row head.rev id head.has;
  childless = All-push (λ (x : Changeset). (x.p1 ≢ id) × (x.p2 ≢ id)) front row head.childless (first, second);
}

-- a head is the last, or was one that the last does not name
head_back : (front : List Changeset) (row : Changeset) (id : List ℕ) → IsHead (front ++ row ∷ []) id
    → (row.node ≡ id) ⊎ (IsHead front id × (row.p1 ≢ id) × (row.p2 ≢ id))
head_back front row id head =
    let Free : Changeset → Type 0 = λ x. (x.p1 ≢ id) × (x.p2 ≢ id) in
    let long : length (front ++ row ∷ []) ≡ length front + 1 = length-append front (row ∷ []) in
    let own : Free row = subst Free (get_or_push front row row (length front) refl)
    (head.childless (length front) row (omega (arith, long))) in
    elim (has_back front row head.rev id head.has) [
      | inl same ↦ inl same
      | inr has ↦
          let free : All Free front = λ k d low. subst Free (get_or_append_left front (row ∷ []) d k low)
          (head.childless k d (omega (arith, low, long))) in
          inr (record { rev = head.rev; has = has; childless = free }, own.0, own.1)
    ]

module _ (rows : List Changeset) (lawful : AreLawful rows) (r : ℕ) (row : Changeset)
    (at : slice_get rows r ≡ Some row) where
  -- what one of the rows so far names is not the id of the last of them
  names_other : (k : ℕ) (p : List ℕ) → k ≤ r → IsEarlier rows k p → p ≢ row.node
  names_other k p low earlier same = elim earlier [
    | inl null ↦ (lawful.each r row at).not_null (sym same ∙ null)
    | inr found ↦
        let e = found.0 in
        let has = found.2 in
        let there : (get_or rows e row).node ≡ p =
        ap (λ (x : Changeset). x.node) (get_or_from_slice_get rows e has.row row has.row_at) ∙ has.node_is in
        let here : (get_or rows r row).node ≡ row.node =
        ap (λ (x : Changeset). x.node) (get_or_from_slice_get rows r row row at) in
        lawful.distinct e r row (omega (arith, low, found.1)) (slice_get_within rows r row at)
        (there ∙ same ∙ sym here)
  ]

  -- nobody so far names the last
  last_head : IsHead (take (r + 1) rows) row.node
  last_head =
      let within : r < length rows = slice_get_within rows r row at in
      let long : length (take (r + 1) rows) ≡ r + 1 = length-take-le (r + 1) rows (omega (arith, within)) in
      record {
        rev = r;
        has = record { row = row; row_at = slice_get_taken rows (r + 1) r (omega arith) ∙ at; node_is = refl };
        childless = λ k d low.
            let k_low : k < r + 1 = omega (arith, low, long) in
            let x = get_or (take (r + 1) rows) k d in
            let law = lawful.each k x (sym (slice_get_taken rows (r + 1) k k_low)
            ∙ slice_get-get_or (take (r + 1) rows) k d low) in
            (names_other k x.p1 (omega (arith, k_low)) law.p1, names_other k x.p2 (omega (arith, k_low)) law.p2);
      }

-- ---- the number of an id

pub apart : (a b : List ℕ) → a ≢ b → bytes_eq a b ≡ false
apart a b other = by (bytes_eq a b) refl
  where
    by : (v : Bool) → bytes_eq a b ≡ v → bytes_eq a b ≡ false
    by true is = absurd (other ((bytes_eq-Decides a b).0 is))
    by false is = is

-- the id of a row has its number
number_of : (rows : List Changeset) (p : ℕ) (id : List ℕ) → AreLawful rows → HasNode rows p id
    → rev_of rows id ≡ Some p
unfolding rev_of
number_of rows p id lawful has =
    let within : p < length rows = slice_get_within rows p has.row has.row_at in
    let here : (get_or rows p has.row).node ≡ id =
    ap (λ (x : Changeset). x.node) (get_or_from_slice_get rows p has.row has.row has.row_at) ∙ has.node_is in
    let found : position_or_len (λ row. bytes_eq row.node id) rows ≡ p =
    position_or_len_is (λ row. bytes_eq row.node id) rows p has.row (omega arith)
    (λ k low. apart (get_or rows k has.row).node id
    (λ same. lawful.distinct k p has.row low within (same ∙ sym here)))
    (λ _. (bytes_eq-Decides (get_or rows p has.row).node id).1 here) in
    ap (λ n. cond (nat_lt n (length rows)) (Some n) None) found
    ∙ cond-true (nat_lt p (length rows)) (Some p) None (lt-ltb p (length rows) within)

-- what has a number is the id of the row
of_number : (rows : List Changeset) (p : ℕ) (id : List ℕ) → rev_of rows id ≡ Some p → HasNode rows p id
unfolding rev_of
of_number [] p id is = absurd cc
of_number (first ∷ rows) p id is =
    let at = position-Some (λ (row : Changeset). bytes_eq row.node id) (first ∷ rows) p first is in
    record {
      row = get_or (first ∷ rows) p first;
      row_at = slice_get-get_or (first ∷ rows) p first at.0;
      node_is = (bytes_eq-Decides (get_or (first ∷ rows) p first).node id).0 at.1;
    }

-- the id of a row is that of a parent just where the parent's number is that of the row
module _ (rows : List Changeset) (lawful : AreLawful rows) (parent : List ℕ) (number : Option ℕ)
    (numbered : number ≡ rev_of rows parent) where
  other_row : (id : List ℕ) → parent ≢ id → (r : ℕ) → number ≡ Some r → ¬ (HasNode rows r id)
  other_row id other r is has =
      let own = of_number rows r parent (sym numbered ∙ is) in
      let same : own.row ≡ has.row = let a = own.row_at in let b = has.row_at in cc in
      other (sym own.node_is ∙ ap (λ (x : Changeset). x.node) same ∙ has.node_is)

  other_id : (id : List ℕ) (p : ℕ) → HasNode rows p id → ((r : ℕ) → number ≡ Some r → ¬ (HasNode rows r id))
      → parent ≢ id
  other_id id p has none same =
      none p (numbered ∙ ap (rev_of rows) same ∙ number_of rows p id lawful has) has

-- ---- one changeset more

-- what two ids of a row are
same_id : (rows : List Changeset) (r : ℕ) (id other : List ℕ) → HasNode rows r id → HasNode rows r other → id ≡ other
same_id rows r id other a b =
    let same : a.row ≡ b.row = let x = a.row_at in let y = b.row_at in cc in
    sym a.node_is ∙ ap (λ (x : Changeset). x.node) same ∙ b.node_is

abbrev node_of : List ℕ → Node
node_of id = record { 0 = id }

same_node : (a b : Node) → a.0 ≡ b.0 → a ≡ b
same_node a b same = ap node_of same

-- the key is put in, and no other
abbrev pub IsPut : Node → List Node → List Node → Type 0
IsPut key old new = (node : Node) → Contains new node ↔ (Contains old node ⊎ (key ≡ node))

-- the key is taken out, and no other
abbrev pub IsTaken : Node → List Node → List Node → Type 0
IsTaken key old new = (node : Node) → Contains new node ↔ (Contains old node × (key ≢ node))

pub none_left : (rows : List Changeset) (nodes : List Node) → AreLeft rows None nodes nodes
none_left rows nodes node = ((λ there. (there, λ r is. absurd cc)), λ both. both.0)

pub one_left : (rows : List Changeset) (rev : ℕ) (key : Node) (old new : List Node) → HasNode rows rev key.0
    → IsTaken key old new → AreLeft rows (Some rev) old new
one_left rows rev key old new has taken node = (
  (λ there.
      let both = (taken node).0 there in (
        both.0,
        λ r is own.
            let same : r ≡ rev = cc in
            both.1 (same_node key node (same_id rows rev key.0 node.0 has
            (subst (λ k. HasNode rows k node.0) same own))),
      )),
  (λ both. (taken node).1 (both.0, λ same. both.1 rev refl (subst (λ (n : Node). HasNode rows rev n.0) same has))),
)

numbers : (rows : List Changeset) (r : ℕ) (row : Changeset) → slice_get rows r ≡ Some row
    → parents_of rows r ≡ (rev_of rows row.p1, rev_of rows row.p2)
unfolding parents_of
numbers rows r row at = ap (parents_in rows) at

-- the ids of the heads once one changeset more has come
pub one_came : (rows : List Changeset) (r : ℕ) (key : Node) (old one two new : List Node) → AreLawful rows
    → HasNode rows r key.0 → AreHeadIds (take r rows) old → AreLeft rows (parents_of rows r).0 old one
    → AreLeft rows (parents_of rows r).1 one two → IsPut key two new → AreHeadIds (take (r + 1) rows) new
one_came rows r key old one two new lawful has held first second put node =
    let row = has.row in
    let front : List Changeset = take r rows in
    let all : front ++ row ∷ [] ≡ take (r + 1) rows = sym (taken_more rows r row has.row_at) in
    let within : r < length rows = slice_get_within rows r row has.row_at in
    let numbered = numbers rows r row has.row_at in
    let first_is : (parents_of rows r).0 ≡ rev_of rows row.p1 =
    ap (λ (ps : Option ℕ × Option ℕ). ps.0) numbered in
    let second_is : (parents_of rows r).1 ≡ rev_of rows row.p2 =
    ap (λ (ps : Option ℕ × Option ℕ). ps.1) numbered in (
      (λ there. elim ((put node).0 there) [
        | inl in_two ↦
            let in_one = (second node).0 in_two in
            let in_old = (first node).0 in_one.0 in
            let head = (held node).0 in_old.0 in
            let low : head.rev < r = omega (
              arith,
              slice_get_within front head.rev head.has.row head.has.row_at,
              length-take-le r rows (omega (arith, within)),
            ) in
            let own : HasNode rows head.rev node.0 = record {
              row = head.has.row;
              row_at = sym (slice_get_taken rows r head.rev low) ∙ head.has.row_at;
              node_is = head.has.node_is;
            } in
            subst (λ rs. IsHead rs node.0) all (head_on front row node.0 head
            (other_id rows lawful row.p1 (parents_of rows r).0 first_is node.0 head.rev own in_old.1)
            (other_id rows lawful row.p2 (parents_of rows r).1 second_is node.0 head.rev own in_one.1))
        | inr same ↦
            subst (IsHead (take (r + 1) rows)) (has.node_is ∙ ap (λ (n : Node). n.0) same)
            (last_head rows lawful r row has.row_at)
      ]),
      (λ head. elim (head_back front row node.0 (subst (λ rs. IsHead rs node.0) (sym all) head)) [
        | inl same ↦ (put node).1 (inr (same_node key node (sym has.node_is ∙ same)))
        | inr was ↦
            (put node).1 (inl ((second node).1 (
              (first node).1 (
                (held node).1 was.0,
                other_row rows lawful row.p1 (parents_of rows r).0 first_is node.0 was.1,
              ),
              other_row rows lawful row.p2 (parents_of rows r).1 second_is node.0 was.2,
            )))
      ]),
    )

-- ---- no changesets

pub none_came : AreHeadIds [] []
none_came node = (
  (λ there. absurd (omega (arith, there.1))),
  (λ head. absurd (omega (arith, slice_get_within [] head.rev head.has.row head.has.row_at))),
)

-- ---- those that were there

module _ (rows old : List Changeset) (first n : ℕ) (within : first ≤ length rows) (is : old ≡ take first rows)
    (long : n ≡ length old) where
  as_many : n ≡ first
  as_many = long ∙ ap length is ∙ length-take-le first rows within

  pub front_within : n ≤ length rows
  front_within = omega (arith, as_many, within)

  pub front_is : old ≡ take n rows
  front_is = is ∙ ap (λ (k : ℕ). take k rows) (sym as_many)

  pub front_heads : (nodes : List Node) → AreHeadIds old nodes → AreHeadIds (take n rows) nodes
  front_heads nodes held =
      subst (λ rs. AreHeadIds rs nodes) front_is held

-- ---- the order of ids

-- the order of ids is that of their bytes
pub order_is : (a b : Node) → ord.cmp-value.it a b ≡ slice_cmp nat_cmp a.0 b.0
order_is a b = search rules

pub order_total : IsTotalOrder ord.cmp-value.it
order_total = record {
  antisymm = λ x y. order_is x y ∙ nat_list_cmp_total.antisymm x.0 y.0 ∙ ap ordering_reverse (sym (order_is y x));
  trans = λ x y z low high. order_is x z ∙ nat_list_cmp_total.trans x.0 y.0 z.0 (sym (order_is x y) ∙ low)
      (sym (order_is y z) ∙ high);
  congr = λ x y z same. order_is x z ∙ nat_list_cmp_total.congr x.0 y.0 z.0 (sym (order_is x y) ∙ same)
      ∙ sym (order_is y z);
}

pub order_exact : CmpEqualImpliesEq ord.cmp-value.it
order_exact x y same = same_node x y (exact_bytes x.0 y.0 (sym (order_is x y) ∙ same))

same_at : (a b : Node) → a ≡ b → is_at (ord.cmp-value.it a) b ≡ true
same_at a b same = ap (λ n. is_eq (ord.cmp-value.it a n)) (sym same) ∙ ap is_eq (tied_itself order_total a)

at_same : (a b : Node) → is_at (ord.cmp-value.it a) b ≡ true → a ≡ b
at_same a b is = tells_apart order_exact a b is

module _ (old new : BTreeSet Node) (key : Node) where
  there : (node : Node) → contains ord.cmp-value.it new node ≡ true → Contains new.keys node
  there node is = (btree_set_contains_iff order_total order_exact new node).0 is

  was : (node : Node) → Contains old.keys node → contains ord.cmp-value.it old node ≡ true
  was node is = (btree_set_contains_iff order_total order_exact old node).1 is

  pub put_is : ((q : Node) → contains ord.cmp-value.it new q
      ≡ cond (is_at (ord.cmp-value.it key) q) true (contains ord.cmp-value.it old q)) → IsPut key old.keys new.keys
  put_is says node = by (is_at (ord.cmp-value.it key) node) refl
    where
      by : (v : Bool) → is_at (ord.cmp-value.it key) node ≡ v
          → Contains new.keys node ↔ (Contains old.keys node ⊎ (key ≡ node))
      by true is = (
        (λ _. inr (at_same key node is)),
        (λ _. there node (says node ∙ ap (λ b. cond b true (contains ord.cmp-value.it old node)) is)),
      )
      by false is =
          let same : contains ord.cmp-value.it new node ≡ contains ord.cmp-value.it old node = says node
          ∙ ap (λ b. cond b true (contains ord.cmp-value.it old node)) is in (
            (λ found. inl ((btree_set_contains_iff order_total order_exact old node).0
                (sym same ∙ (btree_set_contains_iff order_total order_exact new node).1 found))),
            (λ either. elim either [
              | inl found ↦ there node (same ∙ was node found)
              | inr e ↦ absurd (true≢false (sym (same_at key node e) ∙ is))
            ]),
          )

  pub taken_is : ((q : Node) → contains ord.cmp-value.it new q
      ≡ cond (is_at (ord.cmp-value.it key) q) false (contains ord.cmp-value.it old q)) → IsTaken key old.keys new.keys
  taken_is says node = by (is_at (ord.cmp-value.it key) node) refl
    where
      by : (v : Bool) → is_at (ord.cmp-value.it key) node ≡ v
          → Contains new.keys node ↔ (Contains old.keys node × (key ≢ node))
      by true is =
          let gone : contains ord.cmp-value.it new node ≡ false = says node
          ∙ ap (λ b. cond b false (contains ord.cmp-value.it old node)) is in (
            (λ found. absurd (true≢false (sym ((btree_set_contains_iff order_total order_exact new node).1 found)
                ∙ gone))),
            (λ both. absurd (both.1 (at_same key node is))),
          )
      by false is =
          let same : contains ord.cmp-value.it new node ≡ contains ord.cmp-value.it old node = says node
          ∙ ap (λ b. cond b false (contains ord.cmp-value.it old node)) is in (
            (λ found. (
              (btree_set_contains_iff order_total order_exact old node).0
                  (sym same ∙ (btree_set_contains_iff order_total order_exact new node).1 found),
              λ e. true≢false (sym (same_at key node e) ∙ is),
            )),
            (λ both. there node (same ∙ was node both.0)),
          )

-- ---- the list

-- each is below those after it
strict_pairs : (nodes : List Node) → IsStrictlySortedBy ord.cmp-value.it nodes
    → AllPairs (λ a b. ord.cmp-value.it a b ≡ Less) nodes
strict_pairs [] strict = λ i j d less within. absurd (omega (arith, within))
strict_pairs (node ∷ nodes) strict =
    AllPairs-cons (λ a b. ord.cmp-value.it a b ≡ Less) node nodes
    (All-after_first ord.cmp-value.it node nodes strict)
    (strict_pairs nodes (sorted_tail ord.cmp-value.it node nodes strict))

pub null_heads : (rows : List Changeset) → length rows ≡ 0 → AreHeads rows (null_id ∷ [])
null_heads [] none = refl
null_heads (row ∷ rows) none = absurd (omega (arith, none))

pub ids_heads : (rows : List Changeset) (nodes : List Node) → length rows ≢ 0 → AreHeadIds rows nodes
    → IsStrictlySortedBy ord.cmp-value.it nodes → AreHeads rows (ids nodes)
ids_heads [] nodes some held strict = absurd (some refl)
ids_heads (row ∷ rows) nodes some held strict = record {
  each = λ id. (
    (λ found.
        let within : found.0 < length nodes = omega (arith, found.1, long) in
        let own = get_or nodes found.0 (node_of id) in
        let is : own.0 ≡ id = sym (shown found.0 (node_of id) id within) ∙ found.2 in
        subst (IsHead (row ∷ rows)) is ((held own).0 (Contains-get_or nodes found.0 (node_of id) within))),
    (λ head.
        let found = (held (node_of id)).1 head in (
          found.0,
          omega (arith, found.1, long),
          shown found.0 (node_of id) id found.1 ∙ ap (λ (n : Node). n.0) found.2,
        )),
  );
  distinct = λ i j d less within same.
      let j_in : j < length nodes = omega (arith, within, long) in
      let low = pairs i j (node_of d) less j_in in
      let equal : ord.cmp-value.it (get_or nodes i (node_of d)) (get_or nodes j (node_of d)) ≡ Equal =
      ap (λ n. ord.cmp-value.it (get_or nodes i (node_of d)) n)
      (sym (same_node (get_or nodes i (node_of d)) (get_or nodes j (node_of d))
      (sym (shown i (node_of d) d (omega (arith, less, j_in))) ∙ same ∙ shown j (node_of d) d j_in)))
      ∙ tied_itself order_total (get_or nodes i (node_of d)) in
      less_not_equal (sym low ∙ equal);
  ascending = λ k d low within.
      let k_in : k + 1 < length nodes = omega (arith, within, long) in
      let one = get_or nodes k (node_of d) in
      let next = get_or nodes (k + 1) (node_of d) in
      let up : slice_cmp nat_cmp one.0 next.0 ≡ Less = sym (order_is one next)
      ∙ pairs k (k + 1) (node_of d) (omega arith) k_in in
      ap (λ (id : List ℕ). is_lt (slice_cmp nat_cmp id (get_or (ids nodes) k d))) (shown (k + 1) (node_of d) d k_in)
      ∙ ap (λ (id : List ℕ). is_lt (slice_cmp nat_cmp next.0 id)) (shown k (node_of d) d (omega (arith, k_in)))
      ∙ ap is_lt (nat_list_cmp_total.antisymm next.0 one.0 ∙ ap ordering_reverse up);
}
  where
    long : length (ids nodes) ≡ length nodes
    long = length-map nodes (λ (n : Node). n.0)

    shown : (k : ℕ) (d : Node) (e : List ℕ) → k < length nodes → get_or (ids nodes) k e ≡ (get_or nodes k d).0
    shown k d e within = get_or-map (λ (n : Node). n.0) nodes k d e within

    pairs : AllPairs (λ a b. ord.cmp-value.it a b ≡ Less) nodes
    pairs = strict_pairs nodes strict

    less_not_equal : Less ≡ Equal → ⊥
    less_not_equal e = cc

-- ---- the text

pub none_told : (rows : List Changeset) (words : List ℕ) → length rows ≡ 0 → words ≡ ended 32 (encode_lower null_id)
    → (text : List ℕ) → text ≡ take (length words - 1) words ++ 10 ∷ [] → IsHeadsText rows text
none_told rows words none is text so = record {
  heads = null_id ∷ [];
  are_heads = null_heads rows none;
  says = heads_said (node_of null_id ∷ []) words text (is ∙ sym (append-nil (ended 32 (encode_lower null_id)))) so;
}

pub all_told : (rows : List Changeset) (nodes : List Node) (words : List ℕ) → length rows ≢ 0 → AreHeadIds rows nodes
    → IsStrictlySortedBy ord.cmp-value.it nodes → words ≡ flat_map id_word nodes
    → (text : List ℕ) → text ≡ take (length words - 1) words ++ 10 ∷ [] → IsHeadsText rows text
all_told rows nodes words some held strict is text so = record {
  heads = ids nodes;
  are_heads = ids_heads rows nodes some held strict;
  says = heads_said nodes words text is so;
}

-- what holds of a value holds of it in other words
pub if_ok : {X E : Type 0} (r : Result X E) (P Q : X → Type 0) → ((x : X) → P x → Q x) → IfOk r P → IfOk r Q
if_ok (Ok x) P Q so is = so x is
if_ok (Err e) P Q so is = tt
