-- The ids of the rows that nobody has as a parent.
use Rattle.std.proofs.Common.{rules, ◌≡◌, ◌≢◌, ℕ, suc, ◌+◌, ◌<◌, ◌≤◌, List, [], ◌∷◌, ◌++◌, length, take}
use Rattle.std.proofs.Common.{get_or, swap, slice_index, All, AllPairs, Contains, IsPermutation, IsSorted}
use Rattle.std.proofs.Common.{refl, sym, ap, ◌∙◌, subst, inl, inr, arith}
use Rattle.std.specs.Ordering.{nat_cmp}
use Rattle.std.specs.Cmp.Lexicographic.{slice_cmp}
use Rattle.std.proofs.lemmas.List.{length-map, length-take-le, length_push, get_or-take, get_or_append_left}
use Rattle.std.proofs.lemmas.List.{get_or_push, get_or-map, get_or_default, take_all}
use Rattle.std.proofs.lemmas.List.Edits.{swapped_from_swap, length-swap}
use Rattle.std.proofs.lemmas.List.Elements.{Contains-get_or}
use Rattle.std.proofs.lemmas.List.Sorted.{IsPermutation-keeps, IsPermutation-map, IsPermutation-sym}
use Rattle.std.proofs.lemmas.List.Sorted.{Contains-permutation}
use Rattle.std.proofs.lemmas.Bool.{cases_eq, cases_order}
use Rattle.std.proofs.lemmas.Option.{slice_get_within}
use Rattle.hg_types.specs.declared.node.Node.{Node}
use Rattle.hg_types.specs.declared.limits.Limits.{Limits}
use Rattle.hg_types.specs.contracts.node.NodeOrd.TheImpl as ord
use Rattle.hg_types.specs.NullId.{null_id}
use Rattle.hg_log.specs.declared.graph.Parents.{Parents}
use Rattle.hg_log.specs.Changeset.{Changeset}
use Rattle.hg_log.specs.Rows.{HasNode}
use Rattle.hg_log.specs.code.Graph.{HasParent, AreChildless}
use Rattle.hg_log.specs.Heads.{IsHead, AreHeadsOf, AreHeads, ids}
use Rattle.hg_log.specs.code.Inside.{IsWhole}
use Rattle.hg_log.proofs.RowLemmas.{has_within, same_rev, unnamed, no_parent}
use Rattle.hg_log.proofs.Wholes.{by_number, by_id, parent_earlier}

-- the ids of the rows of those numbers
pub record AreIdsOf (rows : List Changeset) (revs : List ℕ) (nodes : List Node) : Type 0 where
  pub as_long : length nodes ≡ length revs
  pub each : (k : ℕ) (d : Node) → k < length revs → HasNode rows (slice_index revs k) (get_or nodes k d).0

pub ids_none : (rows : List Changeset) (revs : List ℕ) → AreIdsOf rows (take 0 revs) []
ids_none rows revs = record { as_long = refl; each = λ k d low. absurd (omega arith) }

pub ids_more : (rows : List Changeset) (revs : List ℕ) (i : ℕ) (nodes : List Node) (node : Node)
    → AreIdsOf rows (take i revs) nodes → i < length revs → HasNode rows (slice_index revs i) node.0
    → AreIdsOf rows (take (i + 1) revs) (nodes ++ node ∷ [])
ids_more rows revs i nodes node are low has =
    record { as_long = omega (arith, length_push nodes node, len, now, are.as_long); each = each }
  where
    len : length (take i revs) ≡ i
    len = length-take-le i revs (omega arith)

    now : length (take (i + 1) revs) ≡ i + 1
    now = length-take-le (i + 1) revs (omega arith)

    each : (k : ℕ) (d : Node) → k < length (take (i + 1) revs)
        → HasNode rows (slice_index (take (i + 1) revs) k) (get_or (nodes ++ node ∷ []) k d).0
    each k d k_in = elim (cases_eq k i) [
      | inl e ↦
          let rev : slice_index revs i ≡ slice_index (take (i + 1) revs) k = ap (slice_index revs) (sym e)
          ∙ sym (get_or-take (i + 1) revs k 0 (omega (arith, now))) in
          let id : node ≡ get_or (nodes ++ node ∷ []) k d = sym
          (get_or_push nodes node d k (omega (arith, len, are.as_long, e))) in
          subst (λ r. HasNode rows r (get_or (nodes ++ node ∷ []) k d).0) rev
          (subst (λ (n : Node). HasNode rows (slice_index revs i) n.0) id has)
      | inr ne ↦
          let before : k < i = omega (arith, now, ne) in
          let rev : slice_index (take i revs) k ≡ slice_index (take (i + 1) revs) k =
          get_or-take i revs k 0 before ∙ sym (get_or-take (i + 1) revs k 0 (omega arith)) in
          let id : get_or nodes k d ≡ get_or (nodes ++ node ∷ []) k d = sym
          (get_or_append_left nodes (node ∷ []) d k (omega (arith, len, are.as_long))) in
          subst (λ r. HasNode rows r (get_or (nodes ++ node ∷ []) k d).0) rev
          (subst (λ (n : Node). HasNode rows (slice_index (take i revs) k) n.0) id
          (are.each k d (omega (arith, len))))
    ]

pub ids_all : (rows : List Changeset) (revs : List ℕ) (n : ℕ) (nodes : List Node) → length revs ≤ n
    → AreIdsOf rows (take n revs) nodes → AreIdsOf rows revs nodes
ids_all rows revs n nodes all are = subst (λ rs. AreIdsOf rows rs nodes) (take_all n revs all) are

-- lists whose elements differ, at any two places
Differ : List (List ℕ) → Type 0
Differ xs = (a b : ℕ) (d : List ℕ) → a < length xs → b < length xs → a ≢ b → get_or xs a d ≢ get_or xs b d

differ_swap : (xs : List (List ℕ)) (i j : ℕ) → i < length xs → j < length xs → Differ xs
    → Differ (swap xs i j)
unfolding Differ
differ_swap xs i j i_in j_in differ a b d a_in b_in apart same =
    let len : length (swap xs i j) ≡ length xs = length-swap xs i j in
    let a_at : a < length xs = omega (arith, len) in
    let b_at : b < length xs = omega (arith, len) in
    let s = swapped_from_swap xs (swap xs i j) i j d i_in j_in refl in
    let at = λ (x y : ℕ) (e : x ≡ y). ap (λ k. get_or (swap xs i j) k d) e in
    elim (cases_eq a i) [
      | inl ai ↦ elim (cases_eq b i) [
        | inl bi ↦ apart (ai ∙ sym bi)
        | inr nbi ↦ elim (cases_eq b j) [
          | inl bj ↦ differ j i d j_in i_in (λ e. apart (ai ∙ sym e ∙ sym bj)) (sym s.0 ∙ at i a (sym ai)
              ∙ same ∙ at b j bj ∙ s.1)
          | inr nbj ↦ differ j b d j_in b_at (λ e. nbj (sym e)) (sym s.0 ∙ at i a (sym ai) ∙ same
              ∙ s.2 b nbi nbj)
        ]
      ]
      | inr nai ↦ elim (cases_eq a j) [
        | inl aj ↦ elim (cases_eq b j) [
          | inl bj ↦ apart (aj ∙ sym bj)
          | inr nbj ↦ elim (cases_eq b i) [
            | inl bi ↦ differ i j d i_in j_in (λ e. apart (aj ∙ sym e ∙ sym bi)) (sym s.1 ∙ at j a (sym aj)
                ∙ same ∙ at b i bi ∙ s.0)
            | inr nbi ↦ differ i b d i_in b_at (λ e. nbi (sym e)) (sym s.1 ∙ at j a (sym aj) ∙ same
                ∙ s.2 b nbi nbj)
          ]
        ]
        | inr naj ↦ elim (cases_eq b i) [
          | inl bi ↦ differ a j d a_at j_in naj (sym (s.2 a nai naj) ∙ same ∙ at b i bi ∙ s.0)
          | inr nbi ↦ elim (cases_eq b j) [
            | inl bj ↦ differ a i d a_at i_in nai (sym (s.2 a nai naj) ∙ same ∙ at b j bj ∙ s.1)
            | inr nbj ↦ differ a b d a_at b_at apart (sym (s.2 a nai naj) ∙ same ∙ s.2 b nbi nbj)
          ]
        ]
      ]
    ]

distinct_permuted : (xs ys : List (List ℕ)) → IsPermutation xs ys → Differ xs → AllPairs (λ a b. a ≢ b) ys
unfolding Differ
distinct_permuted xs ys moved differ i j d less j_in =
    IsPermutation-keeps xs Differ differ differ_swap ys moved i j d (omega arith) j_in
    (λ e. absurd (omega arith))

-- the order of ids is that of their bytes
order_is : (a b : Node) → ord.cmp-value.it a b ≡ slice_cmp nat_cmp a.0 b.0
order_is a b = search rules

abbrev pub null_node : Node
null_node = record { 0 = null_id }

sorted_ids : (nodes : List Node) → IsSorted ord.cmp-value.it nodes → IsSorted (slice_cmp nat_cmp) (ids nodes)
sorted_ids nodes sorted k d low high =
    let high' : k + 1 < length nodes = omega (arith, length-map nodes (λ (n : Node). n.0)) in
    let here : get_or (ids nodes) k d ≡ (get_or nodes k null_node).0 = get_or-map
    (λ (n : Node). n.0) nodes k null_node d (omega arith) in
    let next : get_or (ids nodes) (k + 1) d ≡ (get_or nodes (k + 1) null_node).0 = get_or-map
    (λ (n : Node). n.0) nodes (k + 1) null_node d high' in
    rw (here, next, ← order_is (get_or nodes (k + 1) null_node) (get_or nodes k null_node))
    (sorted k null_node low high')

module _ (rows : List Changeset) (graph : List Parents) (limits : Limits)
    (whole : IsWhole rows graph limits) where
  -- a row that nobody has as a parent by number is one that nobody names by its id
  head_childless : (r : ℕ) (node : List ℕ) → HasNode rows r node → ((child : ℕ) → ¬ (HasParent graph r child))
      → All (λ (row : Changeset). (row.p1 ≢ node) × (row.p2 ≢ node)) rows
  head_childless r node has none =
      unnamed rows r node has (λ child is. none child (by_number rows graph limits whole r child is))

  childless_head : (r : ℕ) (node : List ℕ) → HasNode rows r node
      → All (λ (row : Changeset). (row.p1 ≢ node) × (row.p2 ≢ node)) rows → (child : ℕ)
      → ¬ (HasParent graph r child)
  childless_head r node has none child named =
      no_parent rows r node has none child (by_id rows graph limits whole r child named)

  module _ (revs : List ℕ) (childless : AreChildless graph revs) where
    ids_differ : (nodes : List Node) → AreIdsOf rows revs nodes → Differ (ids nodes)
    unfolding Differ
    ids_differ nodes are a b d a_in b_in apart same =
        let len : length (ids nodes) ≡ length nodes = length-map nodes (λ (n : Node). n.0) in
        let a_rev : a < length revs = omega (arith, are.as_long) in
        let b_rev : b < length revs = omega (arith, are.as_long) in
        let a_is : get_or (ids nodes) a d ≡ (get_or nodes a null_node).0 = get_or-map
        (λ (n : Node). n.0) nodes a null_node d (omega arith) in
        let b_is : get_or (ids nodes) b d ≡ (get_or nodes b null_node).0 = get_or-map
        (λ (n : Node). n.0) nodes b null_node d (omega arith) in
        let one = are.each a null_node a_rev in
        let two = are.each b null_node b_rev in
        let both : slice_index revs a ≡ slice_index revs b = same_rev rows _ _ _ whole.lawful one
        (subst (λ id. HasNode rows (slice_index revs b) id) (sym b_is ∙ sym same ∙ a_is) two) in
        elim (cases_order a b) [
          | inl e ↦ apart e
          | inr (inl less) ↦ childless.distinct a b 0 less b_rev both
          | inr (inr less) ↦ childless.distinct b a 0 less a_rev (sym both)
        ]

    head_there : (nodes : List Node) → AreIdsOf rows revs nodes → (node : List ℕ) → Contains (ids nodes) node
        → IsHead rows node
    head_there nodes are node found =
        let k = found.0 in
        let within : k < length nodes = omega (arith, found.1, length-map nodes (λ (n : Node). n.0)) in
        let k_rev : k < length revs = omega (arith, are.as_long) in
        let is : (get_or nodes k null_node).0 ≡ node = sym
        (get_or-map (λ (n : Node). n.0) nodes k null_node node within) ∙ found.2 in
        let has = subst (λ id. HasNode rows (slice_index revs k) id) is (are.each k null_node k_rev) in
        let free = (childless.each (slice_index revs k)).0 (Contains-get_or revs k 0 k_rev) in
        record {
          rev = slice_index revs k;
          has = has;
          childless = head_childless (slice_index revs k) node has free.1;
        }

    head_here : (nodes : List Node) → AreIdsOf rows revs nodes → (node : List ℕ) → IsHead rows node
        → Contains (ids nodes) node
    head_here nodes are node head =
        let r_in : head.rev < length graph = omega (
          arith,
          has_within rows head.rev node head.has,
          whole.numbered.as_long,
        ) in
        let found = (childless.each head.rev).1
        (r_in, childless_head head.rev node head.has head.childless) in
        let k = found.0 in
        let at : slice_index revs k ≡ head.rev = get_or_default revs k 0 head.rev found.1 ∙ found.2 in
        let within : k < length nodes = omega (arith, found.1, are.as_long) in
        let one = subst (λ r. HasNode rows r (get_or nodes k null_node).0) at (are.each k null_node
        found.1) in
        let two = head.has in
        let same : one.row ≡ two.row = let a = one.row_at in let b = two.row_at in cc in
        let id : (get_or nodes k null_node).0 ≡ node = sym one.node_is ∙ ap (λ (x : Changeset). x.node) same
        ∙ two.node_is in (
          k,
          omega (arith, within, length-map nodes (λ (n : Node). n.0)),
          get_or-map (λ (n : Node). n.0) nodes k null_node node within ∙ id,
        )

    heads_of : (nodes sorted : List Node) → AreIdsOf rows revs nodes → IsPermutation nodes sorted
        → IsSorted ord.cmp-value.it sorted → AreHeadsOf rows (ids sorted)
    heads_of nodes sorted are moved order =
        let shown = IsPermutation-map (λ (n : Node). n.0) nodes sorted moved in
        record {
          each = λ node. (
            (λ found. head_there nodes are node
                (Contains-permutation (ids sorted) (ids nodes) node
                (IsPermutation-sym (ids nodes) (ids sorted) shown) found)),
            (λ head. Contains-permutation (ids nodes) (ids sorted) node shown
                (head_here nodes are node head)),
          );
          distinct = distinct_permuted (ids nodes) (ids sorted) shown (ids_differ nodes are);
          ascending = sorted_ids sorted order;
        }

    -- where there are rows, the last is nobody's parent
    last_head : (n : ℕ) → length rows ≡ suc n → 0 < length revs
    last_head n len =
        let free = λ (child : ℕ) (has : HasParent graph n child).
        let low = parent_earlier rows graph limits whole n child has in
        let within : child < length graph = slice_get_within graph child has.parents has.row_at in
        let none : ⊥ = absurd (omega (arith, len, whole.numbered.as_long)) in none in
        let found = (childless.each n).1 (omega (arith, len, whole.numbered.as_long), free) in
        omega (arith, found.1)

pub are_heads : (rows : List Changeset) (graph : List Parents) (limits : Limits) → IsWhole rows graph limits
    → (revs : List ℕ) → AreChildless graph revs
    → (nodes sorted : List Node) → AreIdsOf rows revs nodes → IsPermutation nodes sorted
    → IsSorted ord.cmp-value.it sorted → length revs ≢ 0 → AreHeads rows (ids sorted)
are_heads [] graph limits whole revs childless nodes sorted are moved order some =
    let within = (childless.each (slice_index revs 0)).0 (Contains-get_or revs 0 0 (omega (arith, some))) in
    absurd (omega (arith, within.0, whole.numbered.as_long))
are_heads (row ∷ rows) graph limits whole revs childless nodes sorted are moved order some =
    heads_of (row ∷ rows) graph limits whole revs childless nodes sorted are moved order

pub no_heads : (rows : List Changeset) (graph : List Parents) (limits : Limits) → IsWhole rows graph limits
    → (revs : List ℕ) → AreChildless graph revs
    → length revs ≡ 0 → AreHeads rows (null_id ∷ [])
no_heads [] graph limits whole revs childless none = refl
no_heads (row ∷ rows) graph limits whole revs childless none =
    absurd (omega (arith, last_head (row ∷ rows) graph limits whole revs childless (length rows) refl))
