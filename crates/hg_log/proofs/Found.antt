-- The search for an ancestor: it marks rows from the descendant down.
use Rattle.std.proofs.Common.{◌≡◌, ◌≢◌, ◌⊎◌, ℕ, ◌+◌, ◌<◌, ◌≤◌, Bool, true, false, List, [], length}
use Rattle.std.proofs.Common.{slice_get, Option, Some, None, IfSome, refl, sym, ap, ◌∙◌, subst, inl, inr}
use Rattle.std.proofs.Common.{arith}
use Rattle.std.proofs.lemmas.Bool.{cases_eq}
use Rattle.std.proofs.lemmas.Option.{slice_get_within}
use Rattle.hg_log.specs.declared.graph.Parents.{Parents}
use Rattle.hg_log.specs.code.Graph.{HasParent, Reaches, AllAreEarlier}
use Rattle.hg_log.specs.code.Graph.Reaches.{itself, of_parent}
use Rattle.hg_log.specs.code.Marks.{IsMarked, AreMarked}

-- ---- marks

pub no_marks : (top row : ℕ) → ¬ (IsMarked top [] row)
no_marks top row m = let is = m.is in let e : false ≡ true = is in cc

-- ---- parents by number

pub parent_low : (graph : List Parents) → AllAreEarlier graph → (p r : ℕ) → HasParent graph p r → p < r
parent_low graph earlier p r has =
    let e = earlier r has.parents has.row_at in
    elim has.named [ inl is ↦ low has.parents.p1 is e.0 | inr is ↦ low has.parents.p2 is e.1 ]
  where
    low : (o : Option ℕ) → o ≡ Some p → IfSome o (λ q. q < r) → p < r
    low None is e = absurd cc
    low (Some q) is e = let same : q ≡ p = cc in omega arith

-- a parent of a row that does not stand after the top does neither
pub not_above : (r top : ℕ) (o : Option ℕ) → IfSome o (λ p. p < r) → r ≤ top → IfSome o (λ p. p ≤ top)
not_above r top None low le = low
not_above r top (Some p) low le = omega arith

-- an ancestor stands no later
pub ancestor_low : (graph : List Parents) → AllAreEarlier graph → (a r : ℕ) → Reaches graph a r → a ≤ r
ancestor_low graph earlier a r (itself within) = omega arith
ancestor_low graph earlier a r (of_parent p q has reach) =
    omega (arith, ancestor_low graph earlier a p reach, parent_low graph earlier p q has)

-- what has an ancestor is a row
pub reached_within : (graph : List Parents) (a r : ℕ) → Reaches graph a r → r < length graph
reached_within graph a r (itself within) = within
reached_within graph a r (of_parent p q has reach) = slice_get_within graph q has.parents has.row_at

parent_in : (graph : List Parents) → AllAreEarlier graph → (p r : ℕ) → HasParent graph p r → p < length graph
parent_in graph earlier p r has =
    omega (arith, parent_low graph earlier p r has, slice_get_within graph r has.parents has.row_at)

-- a parent of an ancestor is an ancestor
pub reach_more : (graph : List Parents) → AllAreEarlier graph → (p c r : ℕ) → HasParent graph p c
    → Reaches graph c r → Reaches graph p r
reach_more graph earlier p c r has (itself within) =
    of_parent p c has (itself (parent_in graph earlier p c has))
reach_more graph earlier p c r has (of_parent q s step reach) =
    of_parent q s step (reach_more graph earlier p c q has reach)

-- ---- the search

-- the rows from `at` on are done: each that is marked is no child of `low`, and its parents after `low` are
-- marked;
-- marked rows stand after `low` and are ancestors of `high`
pub record AreFound (graph : List Parents) (low high at : ℕ) (marks : List Bool) : Type 0 where
  pub sound : (r : ℕ) → IsMarked high marks r → (low < r) × Reaches graph r high
  pub top : IsMarked high marks high
  pub closed : (child p : ℕ) → at ≤ child → IsMarked high marks child → HasParent graph p child
      → (p ≢ low) × (low < p → IsMarked high marks p)

pub found_first : (graph : List Parents) (low high : ℕ) (none marks : List Bool) → low < high
    → high < length graph → none ≡ [] → AreMarked low high (Some high) none marks
    → AreFound graph low high (high + 1) marks
found_first graph low high none marks less within empty marked = record {
  sound = λ r m. elim ((marked r).0 m) [
    | inl old ↦ absurd (no_marks high r (subst (λ (ms : List Bool). IsMarked high ms r) empty old))
    | inr new ↦ let is = new.0 in let same : high ≡ r = cc in
        (new.1, subst (λ x. Reaches graph x high) same (itself within))
  ];
  top = (marked high).1 (inr (refl, less));
  closed = λ child p above m has. absurd (let below = m.below in omega arith);
}

-- a row that is not marked is done
pub found_skip : (graph : List Parents) (low high at : ℕ) (marks : List Bool)
    → AreFound graph low high (at + 1) marks → ¬ (IsMarked high marks at) → AreFound graph low high at marks
found_skip graph low high at marks found unseen = record {
  sound = found.sound;
  top = found.top;
  closed = λ child p above m has.
      elim (cases_eq child at) [
        | inl e ↦ absurd (unseen (subst (IsMarked high marks) e m))
        | inr ne ↦ found.closed child p (omega (arith, ne)) m has
      ];
}

-- a marked row that is no child of `low` is done once its parents are marked
pub found_step : (graph : List Parents) → AllAreEarlier graph
    → (low high at : ℕ) (marks one two : List Bool) (parents : Parents)
    → AreFound graph low high (at + 1) marks → IsMarked high marks at
    → slice_get graph at ≡ Some parents → ¬ ((parents.p1 ≡ Some low) ⊎ (parents.p2 ≡ Some low))
    → AreMarked low high parents.p1 marks one → AreMarked low high parents.p2 one two
    → AreFound graph low high at two
found_step graph earlier low high at marks one two parents found seen row_at other first second = record {
  sound = λ r m. elim ((second r).0 m) [
    | inl m1 ↦ elim ((first r).0 m1) [ inl m0 ↦ found.sound r m0 | inr n ↦ (n.1, new r (inl n.0)) ]
    | inr n ↦ (n.1, new r (inr n.0))
  ];
  top = kept high found.top;
  closed = λ child p above m has. elim (cases_eq child at) [
    | inl e ↦ here p (subst (HasParent graph p) e has)
    | inr ne ↦
        let before = found.closed child p (omega (arith, ne)) (old child (omega (arith, ne)) m) has in
        (before.0, λ high_p. kept p (before.1 high_p))
  ];
}
  where
    new : (r : ℕ) → (parents.p1 ≡ Some r) ⊎ (parents.p2 ≡ Some r) → Reaches graph r high
    new r named = reach_more graph earlier r at high
        (record { parents = parents; row_at = row_at; named = named }) (found.sound at seen).1

    kept : (r : ℕ) → IsMarked high marks r → IsMarked high two r
    kept r m = (second r).1 (inl ((first r).1 (inl m)))

    not_parent : (r : ℕ) → at < r → (parents.p1 ≡ Some r) ⊎ (parents.p2 ≡ Some r) → ⊥
    not_parent r above named =
        absurd (let low_r = parent_low graph earlier
        r at (record { parents = parents; row_at = row_at; named = named }) in omega arith)

    old : (r : ℕ) → at < r → IsMarked high two r → IsMarked high marks r
    old r above m = elim ((second r).0 m) [
      | inl m1 ↦ elim ((first r).0 m1) [ inl m0 ↦ m0 | inr n ↦ absurd (not_parent r above (inl n.0)) ]
      | inr n ↦ absurd (not_parent r above (inr n.0))
    ]

    here : (p : ℕ) → HasParent graph p at → (p ≢ low) × (low < p → IsMarked high two p)
    here p has =
        let same : has.parents ≡ parents = let is = has.row_at in cc in
        elim has.named [
          | inl e ↦
              let first_is : parents.p1 ≡ Some p = sym (ap (λ (q : Parents). q.p1) same) ∙ e in (
                (λ is. other (inl (first_is ∙ ap (λ (x : ℕ). Some x) is))),
                λ high_p. (second p).1 (inl ((first p).1 (inr (first_is, high_p)))),
              )
          | inr e ↦
              let second_is : parents.p2 ≡ Some p = sym (ap (λ (q : Parents). q.p2) same) ∙ e in (
                (λ is. other (inr (second_is ∙ ap (λ (x : ℕ). Some x) is))),
                λ high_p. (second p).1 (inr (second_is, high_p)),
              )
        ]

-- a child of `low` that is marked makes it an ancestor
pub found_it : (graph : List Parents) → AllAreEarlier graph
    → (low high at : ℕ) (marks : List Bool) (parents : Parents) → AreFound graph low high (at + 1) marks
    → IsMarked high marks at
    → slice_get graph at ≡ Some parents → (parents.p1 ≡ Some low) ⊎ (parents.p2 ≡ Some low)
    → Reaches graph low high
found_it graph earlier low high at marks parents found seen row_at named =
    reach_more graph earlier low at high (record { parents = parents; row_at = row_at; named = named })
    (found.sound at seen).1

-- where all marked rows are done, `low` is no ancestor
pub found_none : (graph : List Parents) → AllAreEarlier graph → (low high at : ℕ) (marks : List Bool)
    → AreFound graph low high at marks → ((r : ℕ) → IsMarked high marks r → at ≤ r)
    → ¬ (Reaches graph low high)
found_none graph earlier low high at marks found all reach = from high found.top reach
  where
    from : (r : ℕ) → IsMarked high marks r → Reaches graph low r → ⊥
    from r m (itself within) = absurd (let above = (found.sound low m).0 in omega arith)
    from r m (of_parent p q has more) =
        let done = found.closed q p (all q m) m has in
        let no_earlier : low ≤ p = ancestor_low graph earlier low p more in
        from p (done.1 (let apart = done.0 in omega (arith, λ (e : p ≡ low). apart e))) more
