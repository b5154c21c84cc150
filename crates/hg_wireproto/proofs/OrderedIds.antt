-- The ids of all changesets in their order: as changesets come, and what a beginning of digits names among them.
use Rattle.std.proofs.Common.{◌≡◌, ◌≢◌, ◌⊎◌, ℕ, zero, suc, ◌+◌, ◌-◌, ◌<◌, List, [], ◌∷◌, ◌++◌, length, take}
use Rattle.std.proofs.Common.{Bool, true, false, cond, filter, replicate, Option, Some, None, slice_get, get_or, Contains}
use Rattle.std.proofs.Common.{refl, sym, ap, ◌∙◌, subst, inl, inr, arith, Err}
use Rattle.std.specs.Prelude.{nat_eq, nat_lt, ◌==◌, ◌&&◌, ◌/◌, ◌%◌, IfSome}
use Rattle.std.specs.BTreeMap.Range.{IsFromStart}
use Rattle.std.specs.BTreeSet.{BTreeSet, IsKeyRangeOf}
use Rattle.std.specs.Cmp.Lexicographic.{slice_cmp}
use Rattle.std.specs.List.{list_all, starts_with}
use Rattle.std.specs.Ordering.{is_gt, nat_cmp}
use Rattle.std.specs.declared.cmp.Ordering.{Ordering}
use Rattle.std.specs.declared.cmp.Ordering.TheVariants.{Less, Equal, Greater}
use Rattle.std.specs.declared.ops.Bound.{Bound}
use Rattle.std.specs.declared.ops.Bound.TheVariants.{Included, Excluded, Unbounded}
use Rattle.std.proofs.lemmas.Bool.{and_parts, cases_lt, ltb-true, true≢false}
use Rattle.std.proofs.lemmas.Cmp.{nat_list_cmp_total, tied_itself}
use Rattle.std.proofs.lemmas.List.{length-append, length-replicate}
use Rattle.std.proofs.lemmas.Map.Lookups.{exact_bytes}
use Rattle.std.proofs.lemmas.Map.Views.{btree_set_contains_iff}
use Rattle.std.proofs.lemmas.Option.{slice_get_within, get_or_from_slice_get}
use Rattle.hex.specs.Hex.{decode_pairs, encode_lower}
use Rattle.hex.specs.declared.error.FromHexError.TheVariants.{InvalidStringLength, OddLength}
use Rattle.hg_types.specs.contracts.node.NodeOrd.TheImpl as ord
use Rattle.hg_types.specs.declared.node.Node.{Node}
use Rattle.hg_log.specs.Changeset.{Changeset}
use Rattle.hg_log.specs.Rows.{AreLawful, HasNode}
use Rattle.hg_keys.specs.PushKey.{node_from, node_in_hex}
use Rattle.hg_wireproto.specs.declared.lookup.Resolved.TheVariants.{Id, Ambiguous, Unknown}
use Rattle.hg_wireproto.specs.Lookup.{is_beginning, is_begun, is_lower_digit, one_of}
use Rattle.hg_wireproto.specs.code.Ids.{if_begun, AreIds, IsFrom, IsId, IsNextId}
use Rattle.hg_wireproto.proofs.Coming.{slice_get_taken}
use Rattle.hg_wireproto.proofs.HeadIds.{has_back, has_on, order_exact, order_is, order_total, IsPut}
use Rattle.hg_wireproto.proofs.Lines.{taken_more}
use Rattle.hg_wireproto.proofs.Beginnings.{between, cut, cut_le, cut_read, cut_starts, starts_from, starts_to, IsLe, Starts}

-- ---- rows that pass a test

-- rows with the same id are one
abbrev AreApart : List Changeset → Type 0
AreApart rows = (i j : ℕ) (one two : Changeset) → slice_get rows i ≡ Some one → slice_get rows j ≡ Some two
    → one.node ≡ two.node → i ≡ j

module _ (test : Changeset → Bool) where
  -- what passes, with one row more in front
  with_one : (x : Changeset) (xs : List Changeset) → test x ≡ true → filter test (x ∷ xs) ≡ x ∷ filter test xs
  with_one x xs is = ap (λ b. cond b (x ∷ filter test xs) (filter test xs)) is

  without : (x : Changeset) (xs : List Changeset) → test x ≡ false → filter test (x ∷ xs) ≡ filter test xs
  without x xs is = ap (λ b. cond b (x ∷ filter test xs) (filter test xs)) is

  not_that : (x row : Changeset) → test row ≡ true → test x ≡ false → Some x ≢ Some row
  not_that x row is other same = let e : x ≡ row = cc in true≢false (sym is ∙ ap test (sym e) ∙ other)

  -- none does
  pub none_pass : (rows : List Changeset)
      → ((r : ℕ) (row : Changeset) → slice_get rows r ≡ Some row → test row ≡ true → ⊥) → filter test rows ≡ []
  none_pass [] none = refl
  none_pass (x ∷ xs) none = by (test x) refl (none_pass xs (λ r row at. none (suc r) row at))
    where
      by : (b : Bool) → test x ≡ b → filter test xs ≡ [] → filter test (x ∷ xs) ≡ []
      by true is rest = absurd (none 0 x refl is)
      by false is rest = without x xs is ∙ rest

  -- one does
  abbrev SomePass : List Changeset → Type 0
  SomePass rows = (first : Changeset) × (rest : List Changeset) × (filter test rows ≡ first ∷ rest)

  some_pass : (rows : List Changeset) (r : ℕ) (row : Changeset) → slice_get rows r ≡ Some row → test row ≡ true
      → SomePass rows
  some_pass [] r row at is = absurd (let e = at in cc)
  some_pass (x ∷ xs) r row at is = by (test x) refl r at (λ k here. some_pass xs k row here is)
    where
      by : (b : Bool) → test x ≡ b → (r : ℕ) → slice_get (x ∷ xs) r ≡ Some row
          → ((k : ℕ) → slice_get xs k ≡ Some row → SomePass xs) → SomePass (x ∷ xs)
      by true passes r here rest = (x, filter test xs, with_one x xs passes)
      by false other zero here rest = absurd (not_that x row is other here)
      by false other (suc r) here rest =
          let found = rest r here in
          (found.0, found.1, without x xs other ∙ found.2)

  -- two with other ids do
  pub two_pass : (rows : List Changeset) (i j : ℕ) (one two : Changeset) → slice_get rows i ≡ Some one
      → slice_get rows j ≡ Some two → test one ≡ true → test two ≡ true → one.node ≢ two.node
      → one_of (filter test rows) ≡ Ambiguous
  two_pass [] i j one two first second is also other = absurd (let e = first in cc)
  two_pass (x ∷ xs) i j one two first second is also other =
      by (test x) refl i j first second (λ i j at there. two_pass xs i j one two at there is also other)
    where
      more : (r : ℕ) (row : Changeset) → slice_get xs r ≡ Some row → test row ≡ true
          → one_of (x ∷ filter test xs) ≡ Ambiguous
      more r row at passes =
          let found = some_pass xs r row at passes in
          ap (λ (rows : List Changeset). one_of (x ∷ rows)) found.2

      by : (b : Bool) → test x ≡ b → (i j : ℕ) → slice_get (x ∷ xs) i ≡ Some one → slice_get (x ∷ xs) j ≡ Some two
          → ((i j : ℕ) → slice_get xs i ≡ Some one → slice_get xs j ≡ Some two
          → one_of (filter test xs) ≡ Ambiguous) → one_of (filter test (x ∷ xs)) ≡ Ambiguous
      by true passes (suc i) j at there rest = ap one_of (with_one x xs passes) ∙ more i one at is
      by true passes zero (suc j) at there rest = ap one_of (with_one x xs passes) ∙ more j two there also
      by true passes zero zero at there rest =
          absurd (other (let same : one ≡ two = cc in ap (λ (c : Changeset). c.node) same))
      by false fails (suc i) (suc j) at there rest = ap one_of (without x xs fails) ∙ rest i j at there
      by false fails zero j at there rest = absurd (not_that x one is fails at)
      by false fails (suc i) zero at there rest = absurd (not_that x two also fails there)

  -- those that do have one id
  pub one_passes : (rows : List Changeset) (r : ℕ) (row : Changeset) → AreApart rows → slice_get rows r ≡ Some row
      → test row ≡ true
      → ((j : ℕ) (other : Changeset) → slice_get rows j ≡ Some other → test other ≡ true → other.node ≡ row.node)
      → filter test rows ≡ row ∷ []
  one_passes [] r row apart at is same = absurd (let e = at in cc)
  one_passes (x ∷ xs) r row apart at is same =
      by (test x) refl r at (λ k here. one_passes xs k row (λ i j one two a b e.
      let up : suc i ≡ suc j = apart (suc i) (suc j) one two a b e in omega (arith, up)) here is
      (λ j other a passes. same (suc j) other a passes))
    where
      none : (r : ℕ) → slice_get (x ∷ xs) r ≡ Some row → test x ≡ true → filter test xs ≡ []
      none r here passes = none_pass xs (λ j other a also.
          let first : 0 ≡ r = apart 0 r x row refl here (same 0 x refl passes) in
          let up : suc j ≡ r = apart (suc j) r other row a here (same (suc j) other a also) in
          omega (arith, up, first))

      by : (b : Bool) → test x ≡ b → (r : ℕ) → slice_get (x ∷ xs) r ≡ Some row
          → ((k : ℕ) → slice_get xs k ≡ Some row → filter test xs ≡ row ∷ []) → filter test (x ∷ xs) ≡ row ∷ []
      by true passes zero here rest =
          let e : x ≡ row = cc in
          with_one x xs passes ∙ ap (λ (rows : List Changeset). x ∷ rows) (none 0 here passes)
          ∙ ap (λ (c : Changeset). c ∷ []) e
      by true passes (suc r) here rest =
          absurd (let up : 0 ≡ suc r = apart 0 (suc r) x row refl here (same 0 x refl passes) in omega (arith, up))
      by false fails zero here rest = absurd (not_that x row is fails here)
      by false fails (suc r) here rest = without x xs fails ∙ rest r here

-- ---- ids

abbrev node_of : List ℕ → Node
node_of id = record { 0 = id }

same_node : (a b : Node) → a.0 ≡ b.0 → a ≡ b
same_node a b same = ap node_of same

-- no row but that one has its id
apart_of : (rows : List Changeset) → AreLawful rows → AreApart rows
apart_of rows lawful i j one two first second same =
    let i_in : i < length rows = slice_get_within rows i one first in
    let j_in : j < length rows = slice_get_within rows j two second in
    let a : (get_or rows i one).node ≡ one.node = ap (λ (c : Changeset). c.node) (get_or_from_slice_get rows i one one first) in
    let b : (get_or rows j one).node ≡ two.node = ap (λ (c : Changeset). c.node) (get_or_from_slice_get rows j two one second) in
    elim (cases_lt i j) [
      | inl less ↦ absurd (lawful.distinct i j one less j_in (a ∙ same ∙ sym b))
      | inr rest ↦ elim (cases_lt j i) [
        | inl more ↦ absurd (lawful.distinct j i one more i_in (b ∙ sym same ∙ sym a))
        | inr other ↦ omega (arith, rest, other)
      ]
    ]

-- ---- changesets as they come

pub more_ids : (rows : List Changeset) (r : ℕ) (key : Node) (old new : List Node) → HasNode rows r key.0
    → length key.0 ≡ 20 → AreIds (take r rows) old → IsPut key old new → AreIds (take (r + 1) rows) new
more_ids rows r key old new has long held put =
    let row = has.row in
    let front : List Changeset = take r rows in
    let all : front ++ row ∷ [] ≡ take (r + 1) rows = sym (taken_more rows r row has.row_at) in
    record {
      each = λ node. (
        (λ there. elim ((put node).0 there) [
          | inl in_old ↦
              let is = (held.each node).0 in_old in
              (is.0, subst (λ rs. HasNode rs is.0 node.0) all (has_on front row is.0 node.0 is.1))
          | inr same ↦ (
            r,
            record {
              row = row;
              row_at = slice_get_taken rows (r + 1) r (omega arith) ∙ has.row_at;
              node_is = has.node_is ∙ ap (λ (n : Node). n.0) same;
            },
          )
        ]),
        (λ is. elim (has_back front row is.0 node.0 (subst (λ rs. HasNode rs is.0 node.0) (sym all) is.1)) [
          | inl same ↦ (put node).1 (inr (same_node key node (sym has.node_is ∙ same)))
          | inr was ↦ (put node).1 (inl ((held.each node).1 (is.0, was)))
        ]),
      );
      long = λ node there. elim ((put node).0 there) [
        | inl in_old ↦ held.long node in_old
        | inr same ↦ ap (λ (n : Node). length n.0) (sym same) ∙ long
      ];
    }

-- ---- the next of them

from_told : (start : Bound Node) (q : Node) → IsFromStart ord.cmp-value.it start q → IsFrom start q
from_told (Included a) q is = ap is_gt (sym (order_is a q)) ∙ is
from_told (Excluded a) q is = sym (order_is a q) ∙ is
from_told Unbounded q is = tt

told_from : (start : Bound Node) (q : Node) → IsFrom start q → IsFromStart ord.cmp-value.it start q
told_from (Included a) q is = ap is_gt (order_is a q) ∙ is
told_from (Excluded a) q is = order_is a q ∙ is
told_from Unbounded q is = tt

module _ (set : BTreeSet Node) (start : Bound Node) where
  pub none_next : IsKeyRangeOf ord.cmp-value.it start Unbounded set [] → IsNextId set.keys start None
  none_next is = record {
    is_one = tt;
    least = λ node there from.
        let has = (btree_set_contains_iff order_total order_exact set node).1 there in
        absurd (true≢false (sym has ∙ is.5 refl node (told_from start node from, tt)));
  }

  pub some_next : (n : Node) (rest : List Node) → IsKeyRangeOf ord.cmp-value.it start Unbounded set (n ∷ rest)
      → IsNextId set.keys start (Some n)
  some_next n rest is = record {
    is_one = (
      (btree_set_contains_iff order_total order_exact set n).0 is.1.1,
      from_told start n is.1.0.0,
    );
    least = λ node there from.
        let has = (btree_set_contains_iff order_total order_exact set node).1 there in (
          n,
          refl,
          ap is_gt (sym (order_is n node)) ∙ is.2 node (told_from start node from, tt) has,
        );
  }

-- ---- what a beginning names

pub parts_of : (key : List ℕ) → is_beginning key ≡ true → (length key < 40) × (list_all is_lower_digit key ≡ true)
unfolding is_beginning
parts_of key is =
    let all = and_parts (nat_lt 0 (length key) && nat_lt (length key) 40) (list_all is_lower_digit key) is in
    (ltb-true (length key) 40 (and_parts (nat_lt 0 (length key)) (nat_lt (length key) 40) all.0).1, all.1)

-- the key with zeros behind it
abbrev padded : List ℕ → List ℕ
padded key = key ++ replicate (40 - length key) 48

padded_read : (key id : List ℕ) → is_beginning key ≡ true → length id ≡ 20 → Starts key id
    → node_in_hex (padded key) ≡ Some (node_of (cut key id))
unfolding node_in_hex
padded_read key id is long starts =
    let parts = parts_of key is in
    let zeros : List ℕ = replicate (40 - length key) 48 in
    let long_zeros : length zeros ≡ 40 - length key = length-replicate {A = ℕ} (40 - length key) 48 in
    let all : length (padded key) ≡ 40 = omega (arith, length-append key zeros, long_zeros, parts.0) in
    ap node_from (ap (λ (n : ℕ). cond (n % 2 == 1) (Err OddLength) (cond (n / 2 == 20) (decode_pairs 0 (padded key)) (Err InvalidStringLength))) all)
    ∙ ap node_from (cut_read 0 key id (40 - length key) (omega (arith, parts.0, long)) parts.1 starts)

-- what is not above is the same or below
le_cases : (a b : Node) → IsLe a.0 b.0 → (slice_cmp nat_cmp a.0 b.0 ≡ Less) ⊎ (a ≡ b)
le_cases a b low = by (slice_cmp nat_cmp a.0 b.0) refl
  where
    by : (o : Ordering) → slice_cmp nat_cmp a.0 b.0 ≡ o → (slice_cmp nat_cmp a.0 b.0 ≡ Less) ⊎ (a ≡ b)
    by Less is = inl is
    by Equal is = inr (same_node a b (exact_bytes a.0 b.0 is))
    by Greater is = absurd (true≢false (sym (ap is_gt is) ∙ low))

less_not_same : (a b : Node) → slice_cmp nat_cmp a.0 b.0 ≡ Less → a.0 ≢ b.0
less_not_same a b less same =
    let tied : slice_cmp nat_cmp a.0 a.0 ≡ Equal = tied_itself nat_list_cmp_total a.0 in
    let e : Less ≡ Equal = sym less ∙ ap (λ (id : List ℕ). slice_cmp nat_cmp a.0 id) (sym same) ∙ tied in
    cc

begun_is : (key : List ℕ) (next : Option Node) (f : Node) → if_begun key next ≡ Some f
    → (next ≡ Some f) × Starts key f.0
begun_is key None f is = absurd (let e = is in cc)
begun_is key (Some m) f is = by (starts_with nat_eq (encode_lower m.0) key) refl
  where
    by : (b : Bool) → starts_with nat_eq (encode_lower m.0) key ≡ b → (Some m ≡ Some f) × Starts key f.0
    by true passes =
        let same : Some m ≡ Some f = sym (ap (λ b. cond b (Some m) None) passes) ∙ is in
        let e : m ≡ f = cc in
        (same, subst (λ (n : Node). Starts key n.0) e (starts_from key m.0 passes))
    by false fails = absurd (let e : None ≡ Some f = sym (ap (λ b. cond b (Some m) None) fails) ∙ is in cc)

begun_some : (key : List ℕ) (m : Node) → Starts key m.0 → if_begun key (Some m) ≡ None → ⊥
begun_some key m starts none =
    let e : Some m ≡ None = sym (ap (λ b. cond b (Some m) None) (starts_to key m.0 starts)) ∙ none in
    cc

module _ (key : List ℕ) (is : is_beginning key ≡ true) (rows : List Changeset) (lawful : AreLawful rows)
    (nodes : List Node) (held : AreIds rows nodes) where
  -- a changeset that the key begins
  abbrev IsBegun : ℕ → Changeset → Type 0
  IsBegun r row = (slice_get rows r ≡ Some row) × (is_begun key row ≡ true)

  lower : list_all is_lower_digit key ≡ true
  lower = (parts_of key is).1

  there : (r : ℕ) (row : Changeset) → slice_get rows r ≡ Some row → Contains nodes (node_of row.node)
  there r row at = (held.each (node_of row.node)).1 (r, record { row = row; row_at = at; node_is = refl })

  padded_is : (r : ℕ) (row : Changeset) → IsBegun r row
      → node_in_hex (padded key) ≡ Some (node_of (cut key row.node))
  padded_is r row begun =
      let long : length row.node ≡ 20 = held.long (node_of row.node) (there r row begun.0) in
      padded_read key row.node is long (starts_from key row.node begun.1)

  -- the least id is not above one that begins with the key, and begins with it too
  least_is : (n : Node) → node_in_hex (padded key) ≡ Some n → (r : ℕ) (row : Changeset) → IsBegun r row
      → Starts key n.0 × IsLe n.0 row.node
  least_is n least r row begun =
      let same : Some (node_of (cut key row.node)) ≡ Some n = sym (padded_is r row begun) ∙ least in
      let e : cut key row.node ≡ n.0 = ap (λ (m : Node). m.0) (let e : node_of (cut key row.node) ≡ n = cc in e) in (
        subst (Starts key) e (cut_starts key row.node (starts_from key row.node begun.1)),
        subst (λ id. IsLe id row.node) e (cut_le key row.node),
      )

  nothing : ((r : ℕ) (row : Changeset) → IsBegun r row → ⊥) → Unknown ≡ one_of (filter (is_begun key) rows)
  nothing none =
      ap one_of (sym (none_pass (is_begun key) rows (λ r row at passes. none r row (at, passes))))

  -- the key with zeros is no id
  pub no_least : node_in_hex (padded key) ≡ None → Unknown ≡ one_of (filter (is_begun key) rows)
  no_least none = nothing (λ r row begun.
      let e : None ≡ Some (node_of (cut key row.node)) = sym none ∙ padded_is r row begun in cc)

  -- what begins with the key is not below the next that does
  next_is : (start low : Node) (bound : Bound Node) (next : Option Node) → IsNextId nodes bound next
      → ((m : Node) → IsFrom bound m → IsLe low.0 m.0) → Starts key low.0 → (r : ℕ) (row : Changeset)
      → IsBegun r row → IsFrom bound (node_of row.node)
      → (m : Node) × (next ≡ Some m) × IsLe m.0 row.node × Starts key m.0
  next_is start low bound next is_next above starts r row begun from =
      let q = node_of row.node in
      let found = is_next.least q (there r row begun.0) from in
      let m = found.0 in
      let own = subst (λ o. IfSome o (λ n. Contains nodes n × IsFrom bound n)) found.1 is_next.is_one in (
        m,
        found.1,
        found.2,
        between key low.0 m.0 row.node lower starts (starts_from key row.node begun.1) (above m own.1) found.2,
      )

  pub none_from : (n : Node) (next : Option Node) → node_in_hex (padded key) ≡ Some n
      → IsNextId nodes (Included n) next → if_begun key next ≡ None → Unknown ≡ one_of (filter (is_begun key) rows)
  none_from n next least is_next none = nothing (λ r row begun.
      let low = least_is n least r row begun in
      let found = next_is n n (Included n) next is_next (λ m from. from) low.0 r row begun low.1 in
      begun_some key found.0 found.3 (ap (if_begun key) (sym found.1) ∙ none))

  module _ (n f : Node) (next after : Option Node) (least : node_in_hex (padded key) ≡ Some n)
      (is_next : IsNextId nodes (Included n) next) (first : if_begun key next ≡ Some f)
      (is_after : IsNextId nodes (Excluded f) after) where
    own : IsId rows f
    own = (held.each f).0 (subst (λ o. IfSome o (λ n. Contains nodes n)) (begun_is key next f first).0
        (one_there next is_next.is_one))
      where
        one_there : (o : Option Node) → IfSome o (λ m. Contains nodes m × IsFrom (Included n) m)
            → IfSome o (λ m. Contains nodes m)
        one_there None some = tt
        one_there (Some m) some = some.0

    own_passes : is_begun key own.1.row ≡ true
    own_passes =
        ap (λ (id : List ℕ). starts_with nat_eq (encode_lower id) key) own.1.node_is
        ∙ starts_to key f.0 (begun_is key next f first).1

    pub several_from : (g : Node) → if_begun key after ≡ Some g
        → Ambiguous ≡ one_of (filter (is_begun key) rows)
    several_from g second =
        let begun = begun_is key after g second in
        let one = subst (λ o. IfSome o (λ n. Contains nodes n × IsFrom (Excluded f) n)) begun.0 is_after.is_one in
        let other = (held.each g).0 one.0 in
        let passes : is_begun key other.1.row ≡ true =
        ap (λ (id : List ℕ). starts_with nat_eq (encode_lower id) key) other.1.node_is
        ∙ starts_to key g.0 begun.1 in
        sym (two_pass (is_begun key) rows own.0 other.0 own.1.row other.1.row own.1.row_at other.1.row_at own_passes
        passes (λ same. less_not_same f g one.1 (sym own.1.node_is ∙ same ∙ other.1.node_is)))

    -- all that begin with the key are that one
    only : if_begun key after ≡ None → (r : ℕ) (row : Changeset) → IsBegun r row → row.node ≡ own.1.row.node
    only none r row begun =
        let low = least_is n least r row begun in
        let found = next_is n n (Included n) next is_next (λ m from. from) low.0 r row begun low.1 in
        let started = begun_is key next f first in
        let same : found.0 ≡ f = (let e : Some found.0 ≡ Some f = sym found.1 ∙ started.0 in cc) in
        let up : IsLe f.0 row.node = subst (λ (m : Node). IsLe m.0 row.node) same found.2 in
        elim (le_cases f (node_of row.node) up) [
          | inl less ↦
              let later = next_is f f (Excluded f) after is_after (λ m from. ap is_gt from) started.1 r row begun less in
              absurd (begun_some key later.0 later.3 (ap (if_begun key) (sym later.1) ∙ none))
          | inr equal ↦ sym (ap (λ (m : Node). m.0) equal) ∙ sym own.1.node_is
        ]

    pub one_from : if_begun key after ≡ None → Id f ≡ one_of (filter (is_begun key) rows)
    one_from none =
        let all = one_passes (is_begun key) rows own.0 own.1.row (apart_of rows lawful) own.1.row_at own_passes
        (λ j other at passes. only none j other (at, passes)) in
        ap (λ (id : List ℕ). Id (node_of id)) (sym own.1.node_is) ∙ ap one_of (sym all)
