-- The parents of rows by their numbers: what the numbers are, what appending and cutting leave of them, and
-- the test of ancestors.
use Rattle.std.proofs.Common.{◌≡◌, ◌≢◌, ◌⊎◌, ◌↔◌, ℕ, zero, suc, ◌<◌, ◌≤◌, ◌==◌, ◌||◌, Bool, true, false}
use Rattle.std.proofs.Common.{cond, IsTrue, List, [], ◌∷◌, length, take, get_or, slice_get, Option, Some}
use Rattle.std.proofs.Common.{None, IfSome, refl, sym, ap, ◌∙◌, subst, inl, inr, arith, rules}
use Rattle.std.specs.Prelude.{bytes_eq, nat_lt}
use Rattle.std.specs.List.{position_or_len}
use Rattle.std.proofs.lemmas.Bool.{eqb-true, eq-eqb, lt-ltb, ltb-true, and_parts, and_from, cond-true}
use Rattle.std.proofs.lemmas.Bool.{cond-false}
use Rattle.std.proofs.lemmas.List.Quantifiers.{position-Some}
use Rattle.std.proofs.lemmas.List.Sums.{position_or_len_is}
use Rattle.std.proofs.lemmas.Option.{slice_get_within, get_or_from_slice_get, slice_get-get_or}
use Rattle.std.proofs.lemmas.Slice.Eq.{bytes_eq-Decides}
use Rattle.hg_log.specs.declared.graph.Parents.{Parents}
use Rattle.hg_types.specs.NullId.{null_id}
use Rattle.hg_log.specs.Changeset.{Changeset}
use Rattle.hg_log.specs.Rows.{HasNode, LacksNode, IsEarlier, AreLawful}
use Rattle.hg_log.specs.Ancestors.{IsParent, IsAncestor}
use Rattle.hg_log.specs.Ancestors.IsAncestor.{itself as same_row, of_parent as by_parent}
use Rattle.hg_log.specs.Parents.{rev_of, parents_in, parents_of, IsParentIn, AreOrdered, Leads, some_leads}
use Rattle.hg_log.specs.Parents.{leads_within, leads, is_ancestor}
use Rattle.hg_log.specs.Parents.Leads.{itself, of_parent}
use Rattle.hg_log.specs.code.Inside.{IsAt, AreParentsOf}
use Rattle.hg_log.proofs.Lists.{slice_get_take}
use Rattle.hg_log.proofs.RowLemmas.{has_within, has_taken, lawful_taken, not_null}

-- ---- the number of an id

differ : (a b : List ℕ) → a ≢ b → bytes_eq a b ≡ false
differ a b other = by (bytes_eq a b) refl
  where
    by : (v : Bool) → bytes_eq a b ≡ v → bytes_eq a b ≡ false
    by true is = absurd (other ((bytes_eq-Decides a b).0 is))
    by false is = is

-- the id of a row has its number
pub rev_found : (rows : List Changeset) (p : ℕ) (node : List ℕ) → AreLawful rows → HasNode rows p node
    → rev_of rows node ≡ Some p
unfolding rev_of
rev_found rows p node lawful has =
    let within : p < length rows = has_within rows p node has in
    let here : (get_or rows p has.row).node ≡ node = ap (λ (x : Changeset). x.node)
    (get_or_from_slice_get rows p has.row has.row has.row_at) ∙ has.node_is in
    let before : (k : ℕ) → k < p → bytes_eq (get_or rows k has.row).node node ≡ false =
    λ k low. differ (get_or rows k has.row).node node
    (λ same. lawful.distinct k p has.row low within (same ∙ sym here)) in
    let found : position_or_len (λ row. bytes_eq row.node node) rows ≡ p =
    position_or_len_is (λ row. bytes_eq row.node node) rows p has.row (omega arith) before
    (λ _. (bytes_eq-Decides (get_or rows p has.row).node node).1 here) in
    ap (λ n. cond (nat_lt n (length rows)) (Some n) None) found
    ∙ cond-true (nat_lt p (length rows)) (Some p) None (lt-ltb p (length rows) within)

-- what has a number is the id of the row
pub found_row : (rows : List Changeset) (p : ℕ) (node : List ℕ) → rev_of rows node ≡ Some p
    → HasNode rows p node
unfolding rev_of
found_row [] p node is = absurd cc
found_row (first ∷ rows) p node is =
    let at = position-Some (λ (row : Changeset). bytes_eq row.node node) (first ∷ rows) p first is in
    record {
      row = get_or (first ∷ rows) p first;
      row_at = slice_get-get_or (first ∷ rows) p first at.0;
      node_is = (bytes_eq-Decides (get_or (first ∷ rows) p first).node node).0 at.1;
    }

-- an id of no row has none
pub rev_lacks : (rows : List Changeset) (node : List ℕ) → LacksNode rows node → rev_of rows node ≡ None
unfolding rev_of
rev_lacks [] node lacks = refl
rev_lacks (first ∷ rows) node lacks =
    let all : List Changeset = first ∷ rows in
    let found : position_or_len (λ row. bytes_eq row.node node) all ≡ length all =
    position_or_len_is (λ row. bytes_eq row.node node) all (length all) first (omega arith)
    (λ k low. differ (get_or all k first).node node (lacks k first low)) (λ low. absurd (omega arith)) in
    ap (λ n. cond (nat_lt n (length all)) (Some n) None) found
    ∙ cond-false (nat_lt (length all) (length all)) (Some (length all)) None (not_below (length all))
  where
    not_below : (n : ℕ) → nat_lt n n ≡ false
    not_below n = by (nat_lt n n) refl
      where
        by : (v : Bool) → nat_lt n n ≡ v → nat_lt n n ≡ false
        by true is = absurd (let low = ltb-true n n is in omega arith)
        by false is = is

null_lacks : (rows : List Changeset) → AreLawful rows → LacksNode rows null_id
null_lacks rows lawful k d low same =
    not_null rows k lawful (record {
      row = get_or rows k d;
      row_at = slice_get-get_or rows k d low;
      node_is = same;
    })

-- the numbers that a whole log keeps are those of the ids
at_rev : (rows : List Changeset) (r : ℕ) (node : List ℕ) (o : Option ℕ) → AreLawful rows → IsAt rows r node o
    → o ≡ rev_of rows node
at_rev rows r node None lawful at =
    sym (rev_lacks rows node (subst (LacksNode rows) (sym at) (null_lacks rows lawful)))
at_rev rows r node (Some p) lawful at = sym (rev_found rows p node lawful at.1)

at_low : (rows : List Changeset) (r : ℕ) (node : List ℕ) (o : Option ℕ) → IsAt rows r node o
    → IfSome o (λ p. p < r)
at_low rows r node None at = search rules
at_low rows r node (Some p) at = at.0

pub numbers_low : (rows : List Changeset) (r : ℕ) (row : Changeset) (parents : Parents)
    → AreParentsOf rows r row parents → IfSome parents.p1 (λ p. p < r) × IfSome parents.p2 (λ p. p < r)
numbers_low rows r row parents are =
    (at_low rows r row.p1 parents.p1 are.p1, at_low rows r row.p2 parents.p2 are.p2)

pub numbers_kept : (rows : List Changeset) (r : ℕ) (row : Changeset) (parents : Parents) → AreLawful rows
    → slice_get rows r ≡ Some row → AreParentsOf rows r row parents
    → (parents.p1 ≡ (parents_of rows r).0) × (parents.p2 ≡ (parents_of rows r).1)
unfolding parents_of
numbers_kept rows r row parents lawful at are =
    let here = ap (parents_in rows) at in (
      at_rev rows r row.p1 parents.p1 lawful are.p1
          ∙ ap (λ q. q.0) (sym here),
      at_rev rows r row.p2 parents.p2 lawful are.p2
          ∙ ap (λ q. q.1) (sym here),
    )

-- ---- a parent is an earlier row

earlier_rev : (rows : List Changeset) (r p : ℕ) (node : List ℕ) → AreLawful rows → IsEarlier rows r node
    → rev_of rows node ≡ Some p → (p < r) × HasNode rows p node
earlier_rev rows r p node lawful (inl null) is =
    let none : rev_of rows node ≡ None = rev_lacks rows node
    (subst (LacksNode rows) (sym null) (null_lacks rows lawful)) in absurd cc
earlier_rev rows r p node lawful (inr (q, low, has)) is =
    let found : rev_of rows node ≡ Some q = rev_found rows q node lawful has in let same : q ≡ p = cc in
    (subst (λ k. k < r) same low, subst (λ k. HasNode rows k node) same has)

pub parent_is : (rows : List Changeset) (p r : ℕ) → AreLawful rows → IsParentIn (parents_of rows) p r
    → (p < r) × IsParent rows p r
unfolding parents_of
parent_is rows p r lawful is = by (slice_get rows r) refl is
  where
    by : (o : Option Changeset) → slice_get rows r ≡ o
        → ((parents_in rows o).0 ≡ Some p) ⊎ ((parents_in rows o).1 ≡ Some p) → (p < r) × IsParent rows p r
    by None at (inl e) = absurd cc
    by None at (inr e) = absurd cc
    by (Some row) at (inl e) = let f = earlier_rev rows r p row.p1 lawful (lawful.each r row at).p1 e in (
      f.0,
      record {
        parent = f.1.row;
        child = row;
        parent_at = f.1.row_at;
        child_at = at;
        named = inl (sym f.1.node_is);
      },
    )
    by (Some row) at (inr e) = let f = earlier_rev rows r p row.p2 lawful (lawful.each r row at).p2 e in (
      f.0,
      record {
        parent = f.1.row;
        child = row;
        parent_at = f.1.row_at;
        child_at = at;
        named = inr (sym f.1.node_is);
      },
    )

pub is_parent : (rows : List Changeset) (p r : ℕ) → AreLawful rows → IsParent rows p r
    → IsParentIn (parents_of rows) p r
unfolding parents_of
is_parent rows p r lawful is =
    let here = ap (parents_in rows) is.child_at in
    let has : HasNode rows p is.parent.node = record {
      row = is.parent;
      row_at = is.parent_at;
      node_is = refl;
    } in
    elim is.named [
      | inl e ↦ inl (ap (λ q. q.0) here ∙ ap (rev_of rows) e ∙ rev_found rows p is.parent.node lawful has)
      | inr e ↦ inr (ap (λ q. q.1) here ∙ ap (rev_of rows) e ∙ rev_found rows p is.parent.node lawful has)
    ]

pub ordered : (rows : List Changeset) → AreLawful rows → AreOrdered (parents_of rows)
ordered rows lawful p r is = (parent_is rows p r lawful is).0

-- ---- what is left of the numbers where rows are cut off, or come

earlier_same : (rows : List Changeset) (n r : ℕ) (node : List ℕ) → n ≤ length rows → AreLawful rows → r < n
    → IsEarlier rows r node → rev_of (take n rows) node ≡ rev_of rows node
earlier_same rows n r node within lawful low (inl null) =
    let cut = lawful_taken rows n within lawful in
    rev_lacks (take n rows) node (subst (LacksNode (take n rows)) (sym null) (null_lacks (take n rows) cut))
    ∙ sym (rev_lacks rows node (subst (LacksNode rows) (sym null) (null_lacks rows lawful)))
earlier_same rows n r node within lawful low (inr (q, less, has)) =
    rev_found (take n rows) q node (lawful_taken rows n within lawful)
    (has_taken rows n q node (omega arith) has) ∙ sym (rev_found rows q node lawful has)

pub parents_kept : (rows : List Changeset) (n r : ℕ) → n ≤ length rows → AreLawful rows → r < n
    → parents_of (take n rows) r ≡ parents_of rows r
unfolding parents_of
parents_kept rows n r within lawful low = ap (parents_in (take n rows)) (slice_get_take rows n r low)
    ∙ by (slice_get rows r) refl
  where
    by : (o : Option Changeset) → slice_get rows r ≡ o → parents_in (take n rows) o ≡ parents_in rows o
    by None at = refl
    by (Some row) at = let law = lawful.each r row at in
        ap (λ x. (x, rev_of (take n rows) row.p2)) (earlier_same rows n r row.p1 within lawful low law.p1)
        ∙ ap (λ y. (rev_of rows row.p1, y)) (earlier_same rows n r row.p2 within lawful low law.p2)

-- ---- ancestors

or_cases : (b c : Bool) → (b || c) ≡ true → (b ≡ true) ⊎ (c ≡ true)
or_cases true c is = inl refl
or_cases false c is = inr is

module _ (parents : ℕ → Option ℕ × Option ℕ) where
  pub leads_on : (a b r : ℕ) → Leads parents a b → Leads parents b r → Leads parents a r
  leads_on a b r first itself = first
  leads_on a b r first (of_parent p q is more) = of_parent p q is (leads_on a b p first more)

  pub not_later : AreOrdered parents → (a r : ℕ) → Leads parents a r → a ≤ r
  not_later early a r itself = omega arith
  not_later early a r (of_parent p q is more) = let low : a ≤ p = not_later early a p more in
      let less : p < q = early p q is in omega arith

  some_passes : (test : ℕ → Bool) (o : Option ℕ) → some_leads test o ≡ true
      → (p : ℕ) × (o ≡ Some p) × (test p ≡ true)
  some_passes test None is = absurd cc
  some_passes test (Some p) is = (p, refl, is)

  from_test : (a n r : ℕ) → leads_within parents a n r ≡ true → Leads parents a r
  unfolding leads_within
  from_test a zero r is = absurd cc
  from_test a (suc n) r is = elim (or_cases (a == r) _ is) [
    | inl e ↦ subst (Leads parents a) (eqb-true a r e) itself
    | inr more ↦ elim (or_cases _ _ more) [
      | inl e ↦ let p = some_passes (leads_within parents a n) (parents r).0 e in
          of_parent p.0 r (inl p.1) (from_test a n p.0 p.2)
      | inr e ↦ let p = some_passes (leads_within parents a n) (parents r).1 e in
          of_parent p.0 r (inr p.1) (from_test a n p.0 p.2)
    ]
  ]

  or_first : (b c : Bool) → b ≡ true → (b || c) ≡ true
  or_first true c is = refl
  or_first false c is = absurd cc

  or_second : (b c : Bool) → c ≡ true → (b || c) ≡ true
  or_second true c is = refl
  or_second false c is = is

  to_test : AreOrdered parents → (a n r : ℕ) → r < n → Leads parents a r → leads_within parents a n r ≡ true
  unfolding leads_within
  to_test early a zero r low l = absurd (omega arith)
  to_test early a (suc n) r low itself = or_first (a == a) _ (eq-eqb a a refl)
  to_test early a (suc n) r low (of_parent p q is more) =
      let deep : leads_within parents a n p ≡ true = to_test early a n p (let less : p < q = early p q is in
      omega arith) more in
      or_second (a == q) _ (elim is [
        | inl e ↦ or_first _ _ (ap (some_leads (leads_within parents a n)) e ∙ deep)
        | inr e ↦ or_second _ _ (ap (some_leads (leads_within parents a n)) e ∙ deep)
      ])

  -- the test says what the relation says
  pub leads_test : AreOrdered parents → (a r : ℕ) → IsTrue (leads parents a r) ↔ Leads parents a r
  unfolding leads
  leads_test early a r = (λ is. from_test a (suc r) r is, λ l. to_test early a (suc r) r (omega arith) l)

-- only the parents of the row and of what leads to it decide
pub leads_same : (parents others : ℕ → Option ℕ × Option ℕ) (n : ℕ) → AreOrdered parents
    → ((r : ℕ) → r < n → parents r ≡ others r) → (a r : ℕ) → r < n → Leads parents a r → Leads others a r
leads_same parents others n early same a r low itself = itself
leads_same parents others n early same a r low (of_parent p q is more) =
    let named : IsParentIn others p q = elim is [
      | inl e ↦ inl (ap (λ x. x.0) (sym (same q low)) ∙ e)
      | inr e ↦ inr (ap (λ x. x.1) (sym (same q low)) ∙ e)
    ] in
    of_parent p q named (leads_same parents others n early same a p (let less : p < q = early p q is in
    omega arith) more)

module _ (rows : List Changeset) (lawful : AreLawful rows) where
  pub leads_ancestor : (a r : ℕ) → r < length rows → Leads (parents_of rows) a r → IsAncestor rows a r
  leads_ancestor a r within itself = same_row within
  leads_ancestor a r within (of_parent p q is more) = let f = parent_is rows p q lawful is in
      by_parent p q f.1 (leads_ancestor a p (omega arith) more)

  pub ancestor_leads : (a r : ℕ) → IsAncestor rows a r → Leads (parents_of rows) a r
  ancestor_leads a r (same_row within) = itself
  ancestor_leads a r (by_parent p q is more) =
      of_parent p q (is_parent rows p q lawful is) (ancestor_leads a p more)

  ancestor_within : (a r : ℕ) → IsAncestor rows a r → r < length rows
  ancestor_within a r (same_row within) = within
  ancestor_within a r (by_parent p q is more) = slice_get_within rows q is.child is.child_at

  -- the test of ancestors decides the relation
  pub ancestor_test : (a r : ℕ) → IsTrue (is_ancestor rows a r) ↔ IsAncestor rows a r
  ancestor_test a r =
      let test = leads_test (parents_of rows) (ordered rows lawful) a r in (
        λ is. let both = and_parts _ _ is in
            leads_ancestor a r (ltb-true r (length rows) both.0) (test.0 both.1),
        λ is. and_from _ _ (lt-ltb r (length rows) (ancestor_within a r is)) (test.1 (ancestor_leads a r is)),
      )
