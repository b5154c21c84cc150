-- The rows beside the graph of their parents, as rows come and go; and what the one says of the other.
use Rattle.std.proofs.Common.{rules, ◌≡◌, ◌≢◌, ℕ, ◌<◌, ◌≤◌, List, [], ◌∷◌, ◌++◌, length, take, slice_get}
use Rattle.std.proofs.Common.{Option, Some, None, IfSome, sym, ap, ◌∙◌, subst, inl, inr, arith}
use Rattle.std.proofs.lemmas.List.{length-take-le, length_push}
use Rattle.std.proofs.lemmas.Option.{slice_get_within}
use Rattle.hg_types.specs.declared.limits.Limits.{Limits}
use Rattle.hg_types.specs.NullId.{null_id}
use Rattle.hg_log.specs.declared.graph.Parents.{Parents}
use Rattle.hg_log.specs.NodeId.{node_id_of}
use Rattle.hg_log.specs.Changeset.{Changeset}
use Rattle.hg_log.specs.Rows.{HasNode, LacksNode, IsEarlier}
use Rattle.hg_log.specs.Ancestors.{IsParent, IsAncestor}
use Rattle.hg_log.specs.Ancestors.IsAncestor.{itself, of_parent}
use Rattle.hg_log.specs.code.Graph.{HasParent, Reaches, AreEarlier}
use Rattle.hg_log.specs.code.Graph.Reaches.{itself as itself_by_number, of_parent as of_parent_by_number}
use Rattle.hg_log.specs.Parents.{parents_of}
use Rattle.hg_log.specs.code.Family.{numbers, numbers_in}
use Rattle.hg_log.specs.code.Inside.{IsAt, AreParentsOf, IsWhole}
use Rattle.hg_log.proofs.Lists.{slice_get_pushed, slice_get_kept, slice_get_in}
use Rattle.hg_log.proofs.ParentLemmas.{numbers_kept}
use Rattle.hg_log.proofs.RowLemmas.{has_pushed, has_taken, lawful_pushed, lawful_taken, same_rev, not_null}

at_pushed : (rows : List Changeset) (new : Changeset) (r : ℕ) (node : List ℕ) (o : Option ℕ)
    → IsAt rows r node o → IsAt (rows ++ new ∷ []) r node o
at_pushed rows new r node None at = at
at_pushed rows new r node (Some p) at = (at.0, has_pushed rows new p node at.1)

pub at_taken : (rows : List Changeset) (n r : ℕ) (node : List ℕ) (o : Option ℕ) → r ≤ n → IsAt rows r node o
    → IsAt (take n rows) r node o
at_taken rows n r node None low at = at
at_taken rows n r node (Some p) low at = (at.0, has_taken rows n p node (omega (arith, at.0)) at.1)

at_earlier : (rows : List Changeset) (r : ℕ) (node : List ℕ) (o : Option ℕ) → IsAt rows r node o
    → IsEarlier rows r node
at_earlier rows r node None at = inl at
at_earlier rows r node (Some p) at = inr (p, at.0, at.1)

at_low : (rows : List Changeset) (r : ℕ) (node : List ℕ) (o : Option ℕ) → IsAt rows r node o
    → IfSome o (λ p. p < r)
at_low rows r node None at = search rules
at_low rows r node (Some p) at = at.0

pub early : (rows : List Changeset) (new : Changeset) (parents : Parents) (n : ℕ) → n ≡ length rows
    → IsAt rows (length rows) new.p1 parents.p1 → IsAt rows (length rows) new.p2 parents.p2
    → AreEarlier n parents
early rows new parents n len p1 p2 =
    rw len (at_low rows (length rows) new.p1 parents.p1 p1, at_low rows (length rows) new.p2 parents.p2 p2)

pub whole_pushed : (rows : List Changeset) (graph : List Parents) (limits : Limits) (new : Changeset)
    (parents : Parents) → IsWhole rows graph limits
    → length rows < limits.revisions → new.node ≡ node_id_of new.p1 new.p2 new.text → new.node ≢ null_id
    → LacksNode rows new.node
    → IsAt rows (length rows) new.p1 parents.p1 → IsAt rows (length rows) new.p2 parents.p2
    → IsWhole (rows ++ new ∷ []) (graph ++ parents ∷ []) limits
whole_pushed rows graph limits new parents whole room hash not_null lacks p1 p2 = record {
  lawful = lawful_pushed rows new whole.lawful lacks
      (record {
        hash = hash;
        not_null = not_null;
        p1 = at_earlier rows (length rows) new.p1 parents.p1 p1;
        p2 = at_earlier rows (length rows) new.p2 parents.p2 p2;
      });
  numbered = record {
    as_long = omega (arith, length_push graph parents, length_push rows new, whole.numbered.as_long);
    each = each;
  };
  allowed = whole.allowed;
  few = omega (arith, length_push rows new);
}
  where
    kept : (r : ℕ) (row : Changeset) (ps : Parents) → AreParentsOf rows r row ps
        → AreParentsOf (rows ++ new ∷ []) r row ps
    kept r row ps are = record {
      p1 = at_pushed rows new r row.p1 ps.p1 are.p1;
      p2 = at_pushed rows new r row.p2 ps.p2 are.p2;
    }

    each : (r : ℕ) (row : Changeset) (ps : Parents) → slice_get (rows ++ new ∷ []) r ≡ Some row
        → slice_get (graph ++ parents ∷ []) r ≡ Some ps → AreParentsOf (rows ++ new ∷ []) r row ps
    each r row ps row_at ps_at = elim (slice_get_pushed rows new row r row_at) [
      | inl old ↦ elim (slice_get_pushed graph parents ps r ps_at) [
        | inl same ↦ kept r row ps (whole.numbered.each r row ps old same)
        | inr past ↦ absurd (omega (arith, past.0, slice_get_within rows r row old, whole.numbered.as_long))
      ]
      | inr here ↦ elim (slice_get_pushed graph parents ps r ps_at) [
        | inl same ↦ absurd (omega (arith, here.0, slice_get_within graph r ps same, whole.numbered.as_long))
        | inr there ↦ kept r row ps
            (subst (λ (x : Changeset). AreParentsOf rows r x ps) here.1
            (subst (λ (q : Parents). AreParentsOf rows r new q) there.1
            (subst (λ k. AreParentsOf rows k new parents) (sym here.0) (record { p1 = p1; p2 = p2 }))))
      ]
    ]

pub whole_taken : (rows : List Changeset) (graph : List Parents) (limits : Limits) (n : ℕ) → n ≤ length rows
    → IsWhole rows graph limits → IsWhole (take n rows) (take n graph) limits
whole_taken rows graph limits n within whole = record {
  lawful = lawful_taken rows n within whole.lawful;
  numbered = record {
    as_long = length-take-le n graph (omega (arith, whole.numbered.as_long))
        ∙ sym (length-take-le n rows within);
    each = λ r row ps row_at ps_at.
        let old = slice_get_kept rows n r row row_at in
        let same = slice_get_kept graph n r ps ps_at in
        let are = whole.numbered.each r row ps old.1 same.1 in
        record {
          p1 = at_taken rows n r row.p1 ps.p1 (omega (arith, old.0)) are.p1;
          p2 = at_taken rows n r row.p2 ps.p2 (omega (arith, old.0)) are.p2;
        };
  };
  allowed = whole.allowed;
  few = omega (arith, length-take-le n rows within, whole.few);
}

module _ (rows : List Changeset) (graph : List Parents) (limits : Limits)
    (whole : IsWhole rows graph limits) where
  -- the number beside a parent's id is that of its row
  named : (r p : ℕ) (node : List ℕ) (o : Option ℕ) → IsAt rows r node o → HasNode rows p node → o ≡ Some p
  named r p node None at has = absurd (not_null rows p whole.lawful (subst (HasNode rows p) at has))
  named r p node (Some q) at has = ap (λ (x : ℕ). Some x) (same_rev rows q p node whole.lawful at.1 has)

  numbered : (r p : ℕ) (node : List ℕ) (o : Option ℕ) → IsAt rows r node o → o ≡ Some p → HasNode rows p node
  numbered r p node None at is = absurd cc
  numbered r p node (Some q) at is = let same : q ≡ p = cc in subst (λ k. HasNode rows k node) same at.1

  pub by_number : (p r : ℕ) → IsParent rows p r → HasParent graph p r
  by_number p r is =
      let in_graph = slice_get_in graph r
      (omega (arith, slice_get_within rows r is.child is.child_at, whole.numbered.as_long)) in
      let are = whole.numbered.each r is.child in_graph.0 is.child_at in_graph.1 in
      record {
        parents = in_graph.0;
        row_at = in_graph.1;
        named = elim is.named [
          | inl e ↦ inl (named r p is.child.p1 in_graph.0.p1 are.p1
              (record { row = is.parent; row_at = is.parent_at; node_is = sym e }))
          | inr e ↦ inr (named r p is.child.p2 in_graph.0.p2 are.p2
              (record { row = is.parent; row_at = is.parent_at; node_is = sym e }))
        ];
      }

  pub by_id : (p r : ℕ) → HasParent graph p r → IsParent rows p r
  by_id p r has =
      let in_rows = slice_get_in rows r
      (omega (arith, slice_get_within graph r has.parents has.row_at, whole.numbered.as_long)) in
      let are = whole.numbered.each r in_rows.0 has.parents in_rows.1 has.row_at in
      elim has.named [
        | inl e ↦ let parent = numbered r p in_rows.0.p1 has.parents.p1 are.p1 e in
            record {
              parent = parent.row;
              child = in_rows.0;
              parent_at = parent.row_at;
              child_at = in_rows.1;
              named = inl (sym parent.node_is);
            }
        | inr e ↦ let parent = numbered r p in_rows.0.p2 has.parents.p2 are.p2 e in
            record {
              parent = parent.row;
              child = in_rows.0;
              parent_at = parent.row_at;
              child_at = in_rows.1;
              named = inr (sym parent.node_is);
            }
      ]

  pub ancestor_by_number : (a r : ℕ) → IsAncestor rows a r → Reaches graph a r
  ancestor_by_number a r (itself within) = itself_by_number (omega (arith, whole.numbered.as_long))
  ancestor_by_number a r (of_parent p q is more) =
      of_parent_by_number p q (by_number p q is) (ancestor_by_number a p more)

  pub ancestor_by_id : (a r : ℕ) → Reaches graph a r → IsAncestor rows a r
  ancestor_by_id a r (itself_by_number within) = itself (omega (arith, whole.numbered.as_long))
  ancestor_by_id a r (of_parent_by_number p q has more) =
      of_parent p q (by_id p q has) (ancestor_by_id a p more)

  number_low : (r p : ℕ) (node : List ℕ) (o : Option ℕ) → IsAt rows r node o → o ≡ Some p → p < r
  number_low r p node None at is = absurd cc
  number_low r p node (Some q) at is = let same : q ≡ p = cc in omega (arith, at.0)

  pub parent_earlier : (p r : ℕ) → HasParent graph p r → p < r
  parent_earlier p r has =
      let in_rows = slice_get_in rows r
      (omega (arith, slice_get_within graph r has.parents has.row_at, whole.numbered.as_long)) in
      let are = whole.numbered.each r in_rows.0 has.parents in_rows.1 has.row_at in
      elim has.named [
        | inl e ↦ number_low r p in_rows.0.p1 has.parents.p1 are.p1 e
        | inr e ↦ number_low r p in_rows.0.p2 has.parents.p2 are.p2 e
      ]

  -- the numbers are those of the ids
  pub numbers_whole : (r : ℕ) → r < length rows → numbers graph r ≡ parents_of rows r
  numbers_whole r low =
      let in_rows = slice_get_in rows r low in
      let in_graph = slice_get_in graph r (omega (arith, low, whole.numbered.as_long)) in
      let are = whole.numbered.each r in_rows.0 in_graph.0 in_rows.1 in_graph.1 in
      let kept = numbers_kept rows r in_rows.0 in_graph.0 whole.lawful in_rows.1 are in
      ap numbers_in in_graph.1
      ∙ ap (λ (x : Option ℕ). (x, in_graph.0.p2)) kept.0
      ∙ ap (λ (y : Option ℕ). ((parents_of rows r).0, y)) kept.1
