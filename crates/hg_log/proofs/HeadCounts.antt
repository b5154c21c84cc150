-- The heads as a value: the rows that nobody has as a parent, by the definition and by the graph.
use Rattle.std.proofs.Common.{◌≡◌, ◌≢◌, ℕ, zero, suc, ◌+◌, ◌<◌, ◌≤◌, Bool, true, false, not, cond, List}
use Rattle.std.proofs.Common.{◌∷◌, length, filter, Option, Some, None, AllPairs, Contains, refl, sym, ap}
use Rattle.std.proofs.Common.{◌∙◌, subst, inl, inr, arith}
use Rattle.std.proofs.Common.{IsTrue, ◌↔◌}
use Rattle.std.specs.Prelude.{nat_eq, nat_lt}
use Rattle.std.specs.Cmp.{both_ways}
use Rattle.std.specs.List.{list_any, range_with_len, IsDistinct, AllByRecursion}
use Rattle.std.specs.Set.{is_member}
use Rattle.std.proofs.lemmas.Cmp.{nat_eq_equiv}
use Rattle.std.proofs.lemmas.Bool.Decides.{Decides-eqb}
use Rattle.std.proofs.lemmas.Bool.{cases_eq, cond_both, or_cases, or_left, or_right, eqb-true, eq-eqb}
use Rattle.std.proofs.lemmas.Bool.{ne_eqb, not-true, true≢false, and_from, and_parts, lt-ltb, ltb-true}
use Rattle.std.proofs.lemmas.Map.Made.{length-le_from_is_member, IsDistinct-from_AllPairs}
use Rattle.std.proofs.lemmas.Map.Made.{AllPairs-from_IsDistinct, is_member-Decides}
use Rattle.std.proofs.lemmas.Option.{slice_get_within}
use Rattle.hg_types.specs.declared.limits.Limits.{Limits}
use Rattle.hg_log.specs.declared.graph.Parents.{Parents}
use Rattle.hg_log.specs.Changeset.{Changeset}
use Rattle.hg_log.specs.Rows.{AreLawful}
use Rattle.hg_log.specs.Ancestors.{IsParent}
use Rattle.hg_log.specs.code.Graph.{HasParent, AreChildless}
use Rattle.hg_log.specs.Parents.{parents_of, IsParentIn}
use Rattle.hg_log.specs.HeadCount.{is_number, names, is_childless, is_head, head_revs}
use Rattle.hg_log.specs.code.Inside.{IsWhole}
use Rattle.hg_log.proofs.ParentLemmas.{parent_is, is_parent}
use Rattle.hg_log.proofs.Wholes.{by_number, by_id}

-- ---- what a test finds and keeps in a range

any_from : (p : ℕ → Bool) (a n : ℕ) → list_any p (range_with_len a n) ≡ true
    → (r : ℕ) × (r < a + n) × (p r ≡ true)
any_from p a zero is = absurd cc
any_from p a (suc n) is =
    elim (or_cases (p a) _ is) [
      | inl e ↦ (a, omega arith, e)
      | inr e ↦ let f = any_from p (a + 1) n e in
          (f.0, omega (arith, f.1), f.2)
    ]

to_any : (p : ℕ → Bool) (a n r : ℕ) → a ≤ r → r < a + n → p r ≡ true → list_any p (range_with_len a n) ≡ true
to_any p a zero r low high is = absurd (omega arith)
to_any p a (suc n) r low high is = elim (cases_eq a r) [
  | inl e ↦ or_left (p a) _ (ap p e ∙ is)
  | inr ne ↦ or_right (p a) _ (to_any p (a + 1) n r (omega (arith, ne)) (omega arith) is)
]

member_kept : (p : ℕ → Bool) (a n q : ℕ) → is_member nat_eq (filter p (range_with_len a n)) q ≡ true
    → (a ≤ q) × (q < a + n) × (p q ≡ true)
member_kept p a zero q = λ is. absurd cc
member_kept p a (suc n) q =
    let later : is_member nat_eq (filter p (range_with_len (a + 1) n)) q ≡ true → (a ≤ q) × (q < a + suc n)
    × (p q ≡ true) = λ is. let f = member_kept p (a + 1) n q is in
    (omega (arith, f.0), omega (arith, f.1), f.2) in
    cond_both (p a) (a ∷ filter p (range_with_len (a + 1) n)) (filter p (range_with_len (a + 1) n))
    (λ ks. is_member nat_eq ks q ≡ true → (a ≤ q) × (q < a + suc n) × (p q ≡ true))
    (λ here is. elim (or_cases (nat_eq q a) _ is) [
      | inl e ↦ let same : q ≡ a = eqb-true q a e in
          (omega arith, omega arith, ap p same ∙ here)
      | inr e ↦ later e
    ])
    (λ here is. later is)

kept_member : (p : ℕ → Bool) (a n q : ℕ) → a ≤ q → q < a + n → p q ≡ true
    → is_member nat_eq (filter p (range_with_len a n)) q ≡ true
kept_member p a zero q low high is = absurd (omega arith)
kept_member p a (suc n) q low high is = elim (cases_eq q a) [
  | inl e ↦ subst (λ b. is_member nat_eq
      (cond b (a ∷ filter p (range_with_len (a + 1) n)) (filter p (range_with_len (a + 1) n))) q ≡ true)
      (sym (ap p (sym e) ∙ is)) (or_left (nat_eq q a) _ (eq-eqb q a e))
  | inr ne ↦
      let later : is_member nat_eq (filter p (range_with_len (a + 1) n)) q ≡ true = kept_member p (a + 1) n q
      (omega (arith, ne)) (omega arith) is in
      cond_both (p a) (a ∷ filter p (range_with_len (a + 1) n)) (filter p (range_with_len (a + 1) n))
      (λ ks. is_member nat_eq ks q ≡ true) (λ h. or_right (nat_eq q a) _ later) (λ h. later)
]

above_all : (p : ℕ → Bool) (x a n : ℕ) → x < a
    → AllByRecursion (λ y. nat_eq x y ≡ false) (filter p (range_with_len a n))
above_all p x a zero low = tt
above_all p x a (suc n) low =
    let later : AllByRecursion (λ y. nat_eq x y ≡ false) (filter p (range_with_len (a + 1) n)) = above_all p x
    (a + 1) n (omega arith) in
    cond_both (p a) (a ∷ filter p (range_with_len (a + 1) n)) (filter p (range_with_len (a + 1) n))
    (AllByRecursion (λ y. nat_eq x y ≡ false)) (λ h. (ne_eqb x a (λ e. omega arith), later)) (λ h. later)

distinct_kept : (p : ℕ → Bool) (a n : ℕ) → IsDistinct nat_eq (filter p (range_with_len a n))
unfolding IsDistinct
distinct_kept p a zero = tt
distinct_kept p a (suc n) =
    cond_both (p a) (a ∷ filter p (range_with_len (a + 1) n)) (filter p (range_with_len (a + 1) n))
    (IsDistinct nat_eq)
    (λ h. (above_all p a (a + 1) n (omega arith), distinct_kept p (a + 1) n)) (λ h. distinct_kept p (a + 1) n)

kept_few : (p : ℕ → Bool) (a n : ℕ) → length (filter p (range_with_len a n)) ≤ n
kept_few p a zero = omega arith
kept_few p a (suc n) =
    let later : length (filter p (range_with_len (a + 1) n)) ≤ n = kept_few p (a + 1) n in
    cond_both (p a) (a ∷ filter p (range_with_len (a + 1) n)) (filter p (range_with_len (a + 1) n))
    (λ ks. length ks ≤ suc n) (λ h. omega arith) (λ h. omega arith)

-- ---- the rows that are nobody's parent

number_is : (o : Option ℕ) (r : ℕ) → is_number o r ≡ true → o ≡ Some r
number_is None r is = absurd cc
number_is (Some p) r is = ap (λ (x : ℕ). Some x) (eqb-true p r is)

is_so : (o : Option ℕ) (r : ℕ) → o ≡ Some r → is_number o r ≡ true
is_so None r is = absurd cc
is_so (Some p) r is = let same : p ≡ r = cc in eq-eqb p r same

module _ (rows : List Changeset) (lawful : AreLawful rows) where
  names_of : (r child : ℕ) → names rows r child ≡ true → IsParent rows r child
  names_of r child is =
      let named : IsParentIn (parents_of rows) r child =
      elim (or_cases (is_number (parents_of rows child).0 r) _ is) [
        | inl e ↦ inl (number_is _ r e)
        | inr e ↦ inr (number_is _ r e)
      ] in
      (parent_is rows r child lawful named).1

  named_by : (r child : ℕ) → IsParent rows r child → names rows r child ≡ true
  named_by r child is = elim (is_parent rows r child lawful is) [
    | inl e ↦ or_left (is_number (parents_of rows child).0 r) _ (is_so _ r e)
    | inr e ↦ or_right (is_number (parents_of rows child).0 r) _ (is_so _ r e)
  ]

  pub free : (r : ℕ) → is_childless rows r ≡ true → (child : ℕ) → ¬ (IsParent rows r child)
  free r is child has =
      let within : child < length rows = slice_get_within rows child has.child has.child_at in
      let some = to_any (names rows r) 0 (length rows) child (omega arith) (omega arith)
      (named_by r child has) in
      let none : list_any (names rows r) (range_with_len 0 (length rows)) ≡ false = not-true _ is in
      true≢false (sym some ∙ none)

  pub freed : (r : ℕ) → ((child : ℕ) → ¬ (IsParent rows r child)) → is_childless rows r ≡ true
  freed r none = by (list_any (names rows r) (range_with_len 0 (length rows))) refl
    where
      by : (v : Bool) → list_any (names rows r) (range_with_len 0 (length rows)) ≡ v → not v ≡ true
      by true is = let f = any_from (names rows r) 0 (length rows) is in
          absurd (none f.0 (names_of r f.0 f.2))
      by false is = refl

  -- what the value of the heads has
  pub from_heads : (r : ℕ) → Contains (head_revs rows) r → (r < length rows) × (is_childless rows r ≡ true)
  unfolding head_revs
  from_heads r found =
      let m = member_kept (is_childless rows) 0 (length rows) r
      ((is_member-Decides Decides-eqb (filter (is_childless rows) (range_with_len 0 (length rows))) r).1
      found) in
      (omega (arith, m.1), m.2)

  pub to_heads : (r : ℕ) → r < length rows → is_childless rows r ≡ true → Contains (head_revs rows) r
  unfolding head_revs
  to_heads r within is =
      (is_member-Decides Decides-eqb (filter (is_childless rows) (range_with_len 0 (length rows))) r).0
      (kept_member (is_childless rows) 0 (length rows) r (omega arith) (omega arith) is)

  pub heads_distinct : AllPairs (λ a b. a ≢ b) (head_revs rows)
  unfolding head_revs
  heads_distinct = AllPairs-from_IsDistinct Decides-eqb
      (filter (is_childless rows) (range_with_len 0 (length rows)))
      (distinct_kept (is_childless rows) 0 (length rows))

pub heads_few : (rows : List Changeset) → length (head_revs rows) ≤ length rows
unfolding head_revs
heads_few rows = kept_few (is_childless rows) 0 (length rows)

-- ---- the same by the graph

-- two lists of the rows without children are as long
not_longer : (graph : List Parents) (revs others : List ℕ) → AreChildless graph revs
    → AreChildless graph others → length revs ≤ length others
not_longer graph revs others one two =
    length-le_from_is_member nat_eq_equiv revs others (IsDistinct-from_AllPairs Decides-eqb revs one.distinct)
    (λ q is. (is_member-Decides Decides-eqb others q).1
    ((two.each q).1 ((one.each q).0 ((is_member-Decides Decides-eqb revs q).0 is))))

module _ (rows : List Changeset) (graph : List Parents) (limits : Limits)
    (whole : IsWhole rows graph limits) where
  -- the numbers by the definition are those of the graph
  heads_childless : AreChildless graph (head_revs rows)
  heads_childless = record {
    each = λ r. (
      (λ found.
          let is = from_heads rows whole.lawful r found in (
            omega (arith, is.0, whole.numbered.as_long),
            λ child has. free rows whole.lawful r is.1 child
                (by_id rows graph limits whole r child has),
          )),
      (λ is. to_heads rows whole.lawful r (omega (arith, is.0, whole.numbered.as_long))
          (freed rows whole.lawful r
          (λ child parent. is.1 child (by_number rows graph limits whole r child parent)))),
    );
    distinct = heads_distinct rows whole.lawful;
  }

  -- a row is a head just where the graph tells that nobody has it as a parent
  pub head_told : (r : ℕ) (told : Bool)
      → IsTrue told ↔ ((r < length graph) × ((child : ℕ) → ¬ (HasParent graph r child)))
      → told ≡ is_head rows r
  head_told r told is =
      both_ways told (is_head rows r)
      (λ yes.
      let found = is.0 yes in
      and_from (nat_lt r (length rows)) (is_childless rows r)
      (lt-ltb r (length rows) (omega (arith, found.0, whole.numbered.as_long)))
      (freed rows whole.lawful r
      (λ child parent. found.1 child (by_number rows graph limits whole r child parent))))
      (λ yes.
      let both = and_parts (nat_lt r (length rows)) (is_childless rows r) yes in
      is.1 (
        omega (arith, ltb-true r (length rows) both.0, whole.numbered.as_long),
        λ child has. free rows whole.lawful r both.1 child (by_id rows graph limits whole r child has),
      ))

  pub count_is : (revs : List ℕ) → AreChildless graph revs → length revs ≡ length (head_revs rows)
  count_is revs childless =
      let most = not_longer graph revs (head_revs rows) childless heads_childless in
      let least = not_longer graph (head_revs rows) revs heads_childless childless in
      omega arith

  pub count_few : (revs : List ℕ) → AreChildless graph revs → length revs ≤ length rows
  count_few revs childless = omega (arith, count_is revs childless, heads_few rows)
