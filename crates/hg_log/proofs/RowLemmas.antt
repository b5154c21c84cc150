-- Rows, as rows come and go.
use Rattle.std.proofs.Common.{◌≡◌, ◌≢◌, ℕ, ◌<◌, ◌≤◌, All, List, [], ◌∷◌, ◌++◌, length, take, get_or}
use Rattle.std.proofs.Common.{slice_get, Some, AllPairs, sym, ap, ◌∙◌, subst, inl, inr, arith}
use Rattle.std.proofs.lemmas.List.{length-take-le, get_or-take}
use Rattle.std.proofs.lemmas.List.Quantifiers.{all_pairs_push}
use Rattle.std.proofs.lemmas.Bool.{cases_order}
use Rattle.std.proofs.lemmas.Option.{slice_get_within, get_or_from_slice_get, slice_get-get_or}
use Rattle.hg_types.specs.NullId.{null_id}
use Rattle.hg_log.specs.Changeset.{Changeset}
use Rattle.hg_log.specs.Rows.{HasNode, LacksNode, IsKnown, IsEarlier, IsLawfulRow, AreLawful}
use Rattle.hg_log.specs.Ancestors.{IsParent}
use Rattle.hg_log.proofs.Lists.{slice_get_front, slice_get_pushed, slice_get_take, slice_get_kept}

pub has_within : (rows : List Changeset) (r : ℕ) (node : List ℕ) → HasNode rows r node → r < length rows
has_within rows r node has = slice_get_within rows r has.row has.row_at

pub has_pushed : (rows : List Changeset) (row : Changeset) (r : ℕ) (node : List ℕ) → HasNode rows r node
    → HasNode (rows ++ row ∷ []) r node
has_pushed rows row r node has =
    record {
      row = has.row;
      row_at = slice_get_front rows (row ∷ []) r (has_within rows r node has)
          ∙ has.row_at;
      node_is = has.node_is;
    }

pub has_taken : (rows : List Changeset) (n r : ℕ) (node : List ℕ) → r < n → HasNode rows r node
    → HasNode (take n rows) r node
has_taken rows n r node low has =
    record { row = has.row; row_at = slice_get_take rows n r low ∙ has.row_at; node_is = has.node_is }

pub earlier_pushed : (rows : List Changeset) (row : Changeset) (r : ℕ) (node : List ℕ) → IsEarlier rows r node
    → IsEarlier (rows ++ row ∷ []) r node
earlier_pushed rows row r node (inl e) = inl e
earlier_pushed rows row r node (inr (k, low, has)) = inr (k, low, has_pushed rows row k node has)

pub earlier_taken : (rows : List Changeset) (n r : ℕ) (node : List ℕ) → r < n → IsEarlier rows r node
    → IsEarlier (take n rows) r node
earlier_taken rows n r node low (inl e) = inl e
earlier_taken rows n r node low (inr (k, less, has)) =
    inr (k, less, has_taken rows n k node (omega arith) has)

lawful_row_pushed : (rows : List Changeset) (new : Changeset) (r : ℕ) (row : Changeset)
    → IsLawfulRow rows r row → IsLawfulRow (rows ++ new ∷ []) r row
lawful_row_pushed rows new r row law =
    record {
      hash = law.hash;
      not_null = law.not_null;
      p1 = earlier_pushed rows new r row.p1 law.p1;
      p2 = earlier_pushed rows new r row.p2 law.p2;
    }

pub lawful_pushed : (rows : List Changeset) (new : Changeset) → AreLawful rows → LacksNode rows new.node
    → IsLawfulRow rows (length rows) new → AreLawful (rows ++ new ∷ [])
lawful_pushed rows new lawful lacks law = record {
  distinct = all_pairs_push (λ (a b : Changeset). a.node ≢ b.node) rows new lawful.distinct lacks;
  each = λ r row at. elim (slice_get_pushed rows new row r at) [
    | inl old ↦ lawful_row_pushed rows new r row (lawful.each r row old)
    | inr here ↦ lawful_row_pushed rows new r row
        (subst (λ (x : Changeset). IsLawfulRow rows r x) here.1
        (subst (λ n. IsLawfulRow rows n new) (sym here.0) law))
  ];
}

pub lawful_taken : (rows : List Changeset) (n : ℕ) → n ≤ length rows → AreLawful rows
    → AreLawful (take n rows)
lawful_taken rows n within lawful = record {
  distinct = distinct;
  each = λ r row at. let kept = slice_get_kept rows n r row at in let law = lawful.each r row kept.1 in
      record {
        hash = law.hash;
        not_null = law.not_null;
        p1 = earlier_taken rows n r row.p1 kept.0 law.p1;
        p2 = earlier_taken rows n r row.p2 kept.0 law.p2;
      };
}
  where
    len : length (take n rows) ≡ n
    len = length-take-le n rows within

    distinct : AllPairs (λ (a b : Changeset). a.node ≢ b.node) (take n rows)
    distinct i j d less j_in same =
        let j_low : j < n = omega (arith, len, j_in) in
        lawful.distinct i j d less (omega arith)
        (ap (λ (x : Changeset). x.node) (sym (get_or-take n rows i d (omega arith))) ∙ same
        ∙ ap (λ (x : Changeset). x.node) (get_or-take n rows j d j_low))

-- one id, one row
pub same_rev : (rows : List Changeset) (a b : ℕ) (node : List ℕ) → AreLawful rows → HasNode rows a node
    → HasNode rows b node → a ≡ b
same_rev rows a b node lawful one two =
    let at_one : (get_or rows a one.row).node ≡ node = ap (λ (x : Changeset). x.node)
    (get_or_from_slice_get rows a one.row one.row one.row_at) ∙ one.node_is in
    let at_two : (get_or rows b one.row).node ≡ node = ap (λ (x : Changeset). x.node)
    (get_or_from_slice_get rows b two.row one.row two.row_at) ∙ two.node_is in
    elim (cases_order a b) [
      | inl e ↦ e
      | inr (inl less) ↦ absurd
          (lawful.distinct a b one.row less (has_within rows b node two) (at_one ∙ sym at_two))
      | inr (inr less) ↦ absurd
          (lawful.distinct b a one.row less (has_within rows a node one) (at_two ∙ sym at_one))
    ]

-- no row has the null id
pub not_null : (rows : List Changeset) (r : ℕ) → AreLawful rows → HasNode rows r null_id → ⊥
not_null rows r lawful has = (lawful.each r has.row has.row_at).not_null has.node_is

-- a row's id is not among the rows before it
pub lacks_taken : (rows : List Changeset) (r : ℕ) (row : Changeset) → AreLawful rows
    → slice_get rows r ≡ Some row → LacksNode (take r rows) row.node
lacks_taken rows r row lawful at k d k_in same =
    let within : r < length rows = slice_get_within rows r row at in
    let low : k < r = omega (arith, k_in, length-take-le r rows (omega arith)) in
    lawful.distinct k r d low within
    (ap (λ (x : Changeset). x.node) (sym (get_or-take r rows k d low)) ∙ same
    ∙ ap (λ (x : Changeset). x.node) (sym (get_or_from_slice_get rows r row d at)))

-- an id that is not known is in no row
pub lacks_unknown : (rows : List Changeset) (node : List ℕ) → ¬ (IsKnown rows node) → LacksNode rows node
lacks_unknown rows node unknown k d k_in same =
    unknown (inr (
      k,
      record {
        row = get_or rows k d;
        row_at = slice_get-get_or rows k d k_in;
        node_is = same;
      },
    ))

-- a row that is nobody's parent is one whose id no row names
pub unnamed : (rows : List Changeset) (r : ℕ) (node : List ℕ) → HasNode rows r node
    → ((child : ℕ) → ¬ (IsParent rows r child))
    → All (λ (row : Changeset). (row.p1 ≢ node) × (row.p2 ≢ node)) rows
unnamed rows r node has none k d k_in =
    let child_at = slice_get-get_or rows k d k_in in (
      (λ e. none k (record {
        parent = has.row;
        child = get_or rows k d;
        parent_at = has.row_at;
        child_at = child_at;
        named = inl (e ∙ sym has.node_is);
      })),
      (λ e. none k (record {
        parent = has.row;
        child = get_or rows k d;
        parent_at = has.row_at;
        child_at = child_at;
        named = inr (e ∙ sym has.node_is);
      })),
    )

pub no_parent : (rows : List Changeset) (r : ℕ) (node : List ℕ) → HasNode rows r node
    → All (λ (row : Changeset). (row.p1 ≢ node) × (row.p2 ≢ node)) rows
    → (child : ℕ) → ¬ (IsParent rows r child)
no_parent rows r node has none child is =
    let same : is.parent ≡ has.row = let a = is.parent_at in let b = has.row_at in cc in
    let id : is.parent.node ≡ node = ap (λ (x : Changeset). x.node) same ∙ has.node_is in
    let at : get_or rows child is.child ≡ is.child = get_or_from_slice_get rows child is.child is.child
    is.child_at in
    let free = none child is.child (slice_get_within rows child is.child is.child_at) in
    elim is.named [
      | inl e ↦ free.0 (ap (λ (x : Changeset). x.p1) at ∙ e ∙ id)
      | inr e ↦ free.1 (ap (λ (x : Changeset). x.p2) at ∙ e ∙ id)
    ]
