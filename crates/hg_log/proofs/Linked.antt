-- The newest children and the older ones, as rows come and go.
use Rattle.std.proofs.Common.{◌≡◌, ◌⊎◌, ℕ, suc, ◌+◌, ◌<◌, ◌≤◌, ◌^◌, Bool, true, false, cond, ◌||◌, eqb}
use Rattle.std.proofs.Common.{List, [], ◌∷◌, ◌++◌, length, take, set, get_or, slice_get, Option, Some, None}
use Rattle.std.proofs.Common.{IfSome, refl, sym, ap, ◌∙◌, subst, inl, inr, arith}
use Rattle.std.proofs.lemmas.Bool.{cases_eq, eq-eqb, ne_eqb, cases_Bool, cond-true, cond-false}
use Rattle.std.proofs.lemmas.List.{length-set, length-take-le, get_or-set_same, get_or-set_other, get_or-take}
use Rattle.std.proofs.lemmas.List.{get_or_append_left, get_or_push, length_push}
use Rattle.std.proofs.lemmas.Option.{slice_get_within}
use Rattle.hg_log.specs.declared.graph.Parents.{Parents}
use Rattle.hg_log.specs.HeadCount.{is_number}
use Rattle.hg_log.specs.Children.{child_before}
use Rattle.hg_log.specs.Parents.{IsParentIn}
use Rattle.hg_log.specs.code.Graph.{AreEarlier, AllAreEarlier}
use Rattle.hg_log.specs.code.Family.{numbers, numbers_in, child_of, child_at, with_child, AreLinked}
use Rattle.hg_log.proofs.Lists.{slice_get_front, slice_get_last, slice_get_pushed, slice_get_kept}
use Rattle.hg_log.proofs.Children.{is_number_is, or_neither, before_next, before_none, before_same}
use Rattle.hg_log.proofs.Counted.{below}

pub length-with_child : (o c : Option ℕ) (xs : List (Option ℕ)) → length (with_child o c xs) ≡ length xs
length-with_child None c xs = refl
length-with_child (Some p) c xs = length-set xs p c

child_set : (o c : Option ℕ) (xs : List (Option ℕ)) (p : ℕ) → IfSome o (λ q. q < length xs)
    → get_or (with_child o c xs) p None ≡ cond (is_number o p) c (get_or xs p None)
child_set None c xs p low = refl
child_set (Some q) c xs p low = elim (cases_eq p q) [
  | inl e ↦ ap (λ (k : ℕ). get_or (set xs q c) k None) e ∙ get_or-set_same xs q c None low
      ∙ sym (cond-true (eqb q p) c (get_or xs p None) (eq-eqb q p (sym e)))
  | inr ne ↦ get_or-set_other xs q p c None ne
      ∙ sym (cond-false (eqb q p) c (get_or xs p None) (ne_eqb q p (λ e. ne (sym e))))
]

joined : (a b : Bool) (x y : Option ℕ) → cond b x (cond a x y) ≡ cond (a || b) x y
joined true true x y = refl
joined true false x y = refl
joined false true x y = refl
joined false false x y = refl

some_low : (o : Option ℕ) (p r : ℕ) → IfSome o (λ q. q < r) → o ≡ Some p → p < r
some_low None p r low is = absurd cc
some_low (Some q) p r low is = let same : q ≡ p = cc in omega (arith, low, same)

-- a parent stands before its child
numbers_low : (graph : List Parents) → AllAreEarlier graph → (p r : ℕ) → IsParentIn (numbers graph) p r
    → p < r
numbers_low graph earlier p r is = by (slice_get graph r) refl is
  where
    by : (o : Option Parents) → slice_get graph r ≡ o
        → ((numbers_in o).0 ≡ Some p) ⊎ ((numbers_in o).1 ≡ Some p) → p < r
    by None at (inl e) = absurd cc
    by None at (inr e) = absurd cc
    by (Some ps) at (inl e) = some_low ps.p1 p r (earlier r ps at).0 e
    by (Some ps) at (inr e) = some_low ps.p2 p r (earlier r ps at).1 e

module _ (graph : List Parents) (ps : Parents) where
  len : length (graph ++ ps ∷ []) ≡ suc (length graph)
  len = omega (arith, length_push graph ps)

  before_front : (p n : ℕ) → n ≤ length graph
      → child_before (numbers (graph ++ ps ∷ [])) p n ≡ child_before (numbers graph) p n
  before_front p n within = before_same (numbers (graph ++ ps ∷ [])) (numbers graph) p n
      (λ r low. ap numbers_in (slice_get_front graph (ps ∷ []) r (omega (arith, low, within))))

  pub of_front : (o : Option ℕ) (n : ℕ) → n ≤ length graph
      → child_of (numbers (graph ++ ps ∷ [])) o n ≡ child_of (numbers graph) o n
  of_front None n within = refl
  of_front (Some p) n within = before_front p n within

  before_new : (p : ℕ) → child_before (numbers (graph ++ ps ∷ [])) p (length (graph ++ ps ∷ [])) ≡ cond
      (is_number ps.p1 p || is_number ps.p2 p) (Some (length graph))
      (child_before (numbers graph) p (length graph))
  before_new p =
      ap (child_before (numbers (graph ++ ps ∷ [])) p) len
      ∙ before_next (numbers (graph ++ ps ∷ [])) p (length graph)
      ∙ ap (λ (x : Option ℕ × Option ℕ). cond (is_number x.0 p || is_number x.1 p) (Some (length graph))
      (child_before (numbers (graph ++ ps ∷ [])) p (length graph)))
      (ap numbers_in (slice_get_last graph ps))
      ∙ ap (λ (o : Option ℕ). cond (is_number ps.p1 p || is_number ps.p2 p) (Some (length graph)) o)
      (before_front p (length graph) (omega arith))

module _ (graph : List Parents) (newest : List (Option ℕ)) (older : List Parents)
    (linked : AreLinked graph newest older) where
  pub newest_of : (o : Option ℕ) → IfSome o (λ p. p < length graph)
      → child_at newest o ≡ child_of (numbers graph) o (length graph)
  newest_of None low = refl
  newest_of (Some p) low = linked.newest_is p low

  -- one row more
  pub linked_pushed : (ps : Parents) → length graph + 1 < 2 ^ 31 → AreEarlier (length graph) ps
      → AreLinked (graph ++ ps ∷ [])
      (with_child ps.p2 (Some (length graph)) (with_child ps.p1 (Some (length graph)) (newest ++ None ∷ [])))
      (older ++ record { p1 = child_at newest ps.p1; p2 = child_at newest ps.p2 } ∷ [])
  linked_pushed ps few early = record {
    earlier = λ r qs at. elim (slice_get_pushed graph ps qs r at) [
      | inl old ↦ linked.earlier r qs old
      | inr new ↦ subst (λ (q : Parents). AreEarlier r q) new.1
          (subst (λ (n : ℕ). AreEarlier n ps) (sym new.0) early)
    ];
    few = omega (arith, length_push graph ps, few);
    newest_for = length-with_child ps.p2 _ _ ∙ length-with_child ps.p1 _ _ ∙ more
        ∙ sym (length_push graph ps);
    older_for = length_push older _ ∙ ap (λ (n : ℕ). n + 1) linked.older_for ∙ sym (length_push graph ps);
    newest_is = λ p p_in. newest_is p (omega (arith, p_in, length_push graph ps));
    first_is = λ r qs before at kept. elim (slice_get_pushed graph ps qs r at) [
      | inl old ↦ elim (slice_get_pushed older _ before r kept) [
        | inl same ↦ linked.first_is r qs before old same
            ∙ sym (of_front graph ps qs.p1 r (let low = slice_get_within graph r qs old in omega (arith, low)))
        | inr past ↦ absurd (omega (arith, past.0, slice_get_within graph r qs old, linked.older_for))
      ]
      | inr here ↦ elim (slice_get_pushed older _ before r kept) [
        | inl same ↦ absurd (omega (arith, here.0, slice_get_within older r before same, linked.older_for))
        | inr there ↦ ap (λ (q : Parents). q.p1) (sym there.1) ∙ newest_of ps.p1 early.0
            ∙ sym (of_front graph ps ps.p1 (length graph) (omega arith))
            ∙ ap (λ (q : Parents). child_of (numbers (graph ++ ps ∷ [])) q.p1 (length graph)) here.1
            ∙ ap (child_of (numbers (graph ++ ps ∷ [])) qs.p1) (sym here.0)
      ]
    ];
    second_is = λ r qs before at kept. elim (slice_get_pushed graph ps qs r at) [
      | inl old ↦ elim (slice_get_pushed older _ before r kept) [
        | inl same ↦ linked.second_is r qs before old same
            ∙ sym (of_front graph ps qs.p2 r (let low = slice_get_within graph r qs old in omega (arith, low)))
        | inr past ↦ absurd (omega (arith, past.0, slice_get_within graph r qs old, linked.older_for))
      ]
      | inr here ↦ elim (slice_get_pushed older _ before r kept) [
        | inl same ↦ absurd (omega (arith, here.0, slice_get_within older r before same, linked.older_for))
        | inr there ↦ ap (λ (q : Parents). q.p2) (sym there.1) ∙ newest_of ps.p2 early.1
            ∙ sym (of_front graph ps ps.p2 (length graph) (omega arith))
            ∙ ap (λ (q : Parents). child_of (numbers (graph ++ ps ∷ [])) q.p2 (length graph)) here.1
            ∙ ap (child_of (numbers (graph ++ ps ∷ [])) qs.p2) (sym here.0)
      ]
    ];
  }
    where
      n : ℕ
      n = length graph

      more : length (newest ++ None ∷ []) ≡ length graph + 1
      more = length_push newest None ∙ ap (λ (k : ℕ). k + 1) linked.newest_for

      first : IfSome ps.p1 (λ p. p < length (newest ++ None ∷ []))
      first = below (length graph) (length (newest ++ None ∷ [])) ps.p1 early.0 (omega (arith, more))

      second : IfSome ps.p2 (λ p. p < length (with_child ps.p1 (Some (length graph)) (newest ++ None ∷ [])))
      second = below (length graph) _ ps.p2 early.1
          (omega (arith, more, length-with_child ps.p1 (Some (length graph)) (newest ++ None ∷ [])))

      old : (p : ℕ) → p < length graph + 1
          → get_or (newest ++ None ∷ []) p None ≡ child_before (numbers graph) p (length graph)
      old p p_in = elim (cases_eq p (length graph)) [
        | inl e ↦ get_or_push newest None None p (linked.newest_for ∙ sym e)
            ∙ sym (before_none (numbers graph) p (length graph)
            (λ r low is. let less : p < r = numbers_low graph linked.earlier p r is in
            omega (arith, e, low, less)))
        | inr ne ↦ get_or_append_left newest (None ∷ []) None p (omega (arith, linked.newest_for, ne, p_in))
            ∙ linked.newest_is p (omega (arith, ne, p_in))
      ]

      newest_is : (p : ℕ) → p < length graph + 1
          → get_or (with_child ps.p2 (Some (length graph))
          (with_child ps.p1 (Some (length graph)) (newest ++ None ∷ []))) p None
          ≡ child_before (numbers (graph ++ ps ∷ [])) p (length (graph ++ ps ∷ []))
      newest_is p p_in =
          child_set ps.p2 (Some (length graph)) _ p second
          ∙ ap (λ (o : Option ℕ). cond (is_number ps.p2 p) (Some (length graph)) o)
          (child_set ps.p1 (Some (length graph)) _ p first
          ∙ ap (λ (o : Option ℕ). cond (is_number ps.p1 p) (Some (length graph)) o) (old p p_in))
          ∙ joined (is_number ps.p1 p) (is_number ps.p2 p) (Some (length graph))
          (child_before (numbers graph) p (length graph))
          ∙ sym (before_new graph ps p)

module _ (graph : List Parents) (ps gone : Parents) (newest : List (Option ℕ)) (older : List Parents)
    (linked : AreLinked (graph ++ ps ∷ []) newest older)
    (gone_at : slice_get older (length graph) ≡ Some gone) where
  cut : length (take (length graph) newest) ≡ length graph
  cut = length-take-le (length graph) newest (omega (arith, linked.newest_for, length_push graph ps))

  pub popped_early : AreEarlier (length graph) ps
  popped_early = linked.earlier (length graph) ps (slice_get_last graph ps)

  pub popped_first : IfSome ps.p1 (λ p. p < length (take (length graph) newest))
  popped_first = below (length graph) _ ps.p1 popped_early.0 (omega (arith, cut))

  pub popped_second : IfSome ps.p2
      (λ p. p < length (with_child ps.p1 gone.p1 (take (length graph) newest)))
  popped_second = below (length graph) _ ps.p2 popped_early.1
      (omega (arith, cut, length-with_child ps.p1 gone.p1 (take (length graph) newest)))

  -- the child that a parent of the row had before it
  gone_first : (p : ℕ) → ps.p1 ≡ Some p → gone.p1 ≡ child_before (numbers graph) p (length graph)
  gone_first p is = linked.first_is (length graph) ps gone (slice_get_last graph ps) gone_at
      ∙ of_front graph ps ps.p1 (length graph) (omega arith)
      ∙ ap (λ (o : Option ℕ). child_of (numbers graph) o (length graph)) is

  gone_second : (p : ℕ) → ps.p2 ≡ Some p → gone.p2 ≡ child_before (numbers graph) p (length graph)
  gone_second p is = linked.second_is (length graph) ps gone (slice_get_last graph ps) gone_at
      ∙ of_front graph ps ps.p2 (length graph) (omega arith)
      ∙ ap (λ (o : Option ℕ). child_of (numbers graph) o (length graph)) is

  popped_is : (p : ℕ) → p < length graph
      → cond (is_number ps.p2 p) gone.p2 (cond (is_number ps.p1 p) gone.p1 (get_or newest p None))
      ≡ child_before (numbers graph) p (length graph)
  popped_is p p_in = elim (cases_Bool (is_number ps.p2 p)) [
    | inl is_so ↦ cond-true _ gone.p2 _ is_so ∙ gone_second p (is_number_is ps.p2 p is_so)
    | inr not_so ↦ cond-false _ gone.p2 _ not_so ∙ elim (cases_Bool (is_number ps.p1 p)) [
      | inl is_so ↦ cond-true _ gone.p1 _ is_so ∙ gone_first p (is_number_is ps.p1 p is_so)
      | inr neither ↦ cond-false _ gone.p1 _ neither
          ∙ linked.newest_is p (omega (arith, p_in, length_push graph ps)) ∙ before_new graph ps p
          ∙ cond-false _ (Some (length graph)) _
          (or_neither (is_number ps.p1 p) (is_number ps.p2 p) neither not_so)
    ]
  ]

  -- without the last row
  pub linked_popped : AreLinked graph
      (with_child ps.p2 gone.p2 (with_child ps.p1 gone.p1 (take (length graph) newest)))
      (take (length graph) older)
  linked_popped = record {
    earlier = λ r qs at. linked.earlier r qs (front r qs at);
    few = omega (arith, length_push graph ps, linked.few);
    newest_for = length-with_child ps.p2 _ _ ∙ length-with_child ps.p1 _ _ ∙ cut;
    older_for = length-take-le (length graph) older
        (omega (arith, linked.older_for, length_push graph ps));
    newest_is = λ p p_in. child_set ps.p2 gone.p2 _ p popped_second
        ∙ ap (λ (o : Option ℕ). cond (is_number ps.p2 p) gone.p2 o)
        (child_set ps.p1 gone.p1 _ p popped_first
        ∙ ap (λ (o : Option ℕ). cond (is_number ps.p1 p) gone.p1 o)
        (get_or-take (length graph) newest p None p_in))
        ∙ popped_is p p_in;
    first_is = λ r qs before at kept. let old = slice_get_kept older (length graph) r before kept in
        linked.first_is r qs before (front r qs at) old.1
        ∙ of_front graph ps qs.p1 r (let low = old.0 in omega (arith, low));
    second_is = λ r qs before at kept. let old = slice_get_kept older (length graph) r before kept in
        linked.second_is r qs before (front r qs at) old.1
        ∙ of_front graph ps qs.p2 r (let low = old.0 in omega (arith, low));
  }
    where
      front : (r : ℕ) (qs : Parents) → slice_get graph r ≡ Some qs
          → slice_get (graph ++ ps ∷ []) r ≡ Some qs
      front r qs at = slice_get_front graph (ps ∷ []) r (slice_get_within graph r qs at) ∙ at

pub linked_same : (graph other : List Parents) (newest next : List (Option ℕ)) (older past : List Parents)
    → other ≡ graph → next ≡ newest → past ≡ older → AreLinked graph newest older
    → AreLinked other next past
linked_same graph other newest next older past first second third linked =
    subst (λ (xs : List Parents). AreLinked xs next past) (sym first)
    (subst (λ (xs : List (Option ℕ)). AreLinked graph xs past) (sym second)
    (subst (λ (xs : List Parents). AreLinked graph newest xs) (sym third) linked))

-- a kept number of a row and its parent
pub first_named : (graph : List Parents) (newest : List (Option ℕ)) (older : List Parents)
    → AreLinked graph newest older → (row child : ℕ) (ps before : Parents) → slice_get graph child ≡ Some ps
    → slice_get older child ≡ Some before → ps.p1 ≡ Some row
    → before.p1 ≡ child_before (numbers graph) row child
first_named graph newest older linked row child ps before at kept is =
    linked.first_is child ps before at kept ∙ ap (λ (o : Option ℕ). child_of (numbers graph) o child) is

pub second_named : (graph : List Parents) (newest : List (Option ℕ)) (older : List Parents)
    → AreLinked graph newest older → (row child : ℕ) (ps before : Parents) → slice_get graph child ≡ Some ps
    → slice_get older child ≡ Some before → ps.p2 ≡ Some row
    → before.p2 ≡ child_before (numbers graph) row child
second_named graph newest older linked row child ps before at kept is =
    linked.second_is child ps before at kept ∙ ap (λ (o : Option ℕ). child_of (numbers graph) o child) is
