-- The heads of branches, found anew, and the lines that are printed of them.
use Rattle.std.proofs.Common.{◌≡◌, ◌↔◌, ◌⊎◌, ℕ, zero, suc, ◌+◌, ◌<◌, ◌≤◌, Bool, true, false, List, [], ◌∷◌, length, map, get_or, filter}
use Rattle.std.proofs.Common.{Some, refl, sym, ap, ◌∙◌, subst, inl, inr, arith}
use Rattle.std.specs.Prelude.{All, Contains, cond, not, ◌&&◌, ◌==◌}
use Rattle.std.specs.Cmp.Lexicographic.{slice_cmp}
use Rattle.std.specs.List.{flat_map, join_with_byte, list_any, range_with_len}
use Rattle.std.specs.List.Sorted.{IsStrictlySortedBy}
use Rattle.std.specs.Map.{keys_of}
use Rattle.std.specs.Ordering.{nat_cmp}
use Rattle.std.proofs.lemmas.Bool.{cases_eq}
use Rattle.std.proofs.lemmas.Cmp.{eq_by_cmp_equiv, nat_list_cmp_total}
use Rattle.std.proofs.lemmas.List.{get_or-map, get_or_default, length-map}
use Rattle.std.proofs.lemmas.List.Elements.{All-contains, All-contains_itself, All-filter, Contains-append_cases}
use Rattle.std.proofs.lemmas.List.Elements.{Contains-append_left, Contains-append_right, Contains-push}
use Rattle.std.proofs.lemmas.List.Elements.{Contains-push_cases, filter_passes}
use Rattle.std.proofs.lemmas.List.FromFn.{get_or-range_with_len, length-range_with_len}
use Rattle.std.proofs.lemmas.List.Kept.{IsStrictlySortedBy-filter}
use Rattle.std.proofs.lemmas.Map.Entries.{lookup_from_place, place_from_lookup}
use Rattle.std.proofs.lemmas.Map.Keys.{IsDistinct-from_sorted, sorted_from_strictly_increasing}
use Rattle.std.proofs.lemmas.Option.{get_or_from_slice_get, slice_get-get_or, slice_get-map, slice_get_within}
use Rattle.std.specs.Option.{option_map}
use Rattle.hg_log.specs.Ancestors.{IsAncestor}
use Rattle.hg_log.specs.Changeset.{Changeset}
use Rattle.hg_log.specs.Parents.{is_ancestor, parents_of}
use Rattle.hg_log.specs.Rows.{AreLawful}
use Rattle.hg_log.proofs.CallerLemmas.{ancestor_leads, ancestor_test, leads_ancestor, leads_on, not_later, ordered}
use Rattle.hg_types.specs.declared.phase.Phase.{Phase}
use Rattle.hg_obs.specs.declared.marker.Marker.{Marker}
use Rattle.hg_wireproto.specs.BranchMap.{branch_line, AreBranchHeads, IsBranchHead, IsBranchMap, IsOfBranch}
use Rattle.hg_wireproto.specs.code.Branches.{branch_at, heads_in, if_any, is_last_in, is_member, is_name, members}
use Rattle.hg_wireproto.specs.code.Branches.{AreBranches}
use Rattle.hg_wireproto.specs.code.Covered.{AreCovered}
use Rattle.hg_wireproto.specs.code.Doubt.{AreCandidates}
use Rattle.hg_wireproto.proofs.Branching.{name_same, same_name}
use Rattle.hg_wireproto.proofs.Covering.{branch_is, is_of}
use Rattle.hg_wireproto.proofs.LastRows.{any_found, any_holds, both_true, eq_not, not_eq, true_both}

-- ---- lists

pub has_filter : {X : Type 0} (test : X → Bool) (xs : List X) (x : X) → Contains xs x → test x ≡ true
    → Contains (filter test xs) x
has_filter test [] x has is = absurd (omega (arith, has.1))
has_filter {X} test (y ∷ ys) x has is = elim (Contains-append_cases (y ∷ []) ys x has) [
  | inl one ↦ elim (Contains-push_cases [] y x one) [
    | inl none ↦ absurd (omega (arith, none.1))
    | inr e ↦ subst (λ (b : Bool). Contains (cond b (y ∷ filter test ys) (filter test ys)) x)
        (sym (ap test e ∙ is))
        (subst (λ (z : X). Contains (y ∷ filter test ys) z) e
        (Contains-append_left (y ∷ []) (filter test ys) y (Contains-push [] y)))
  ]
  | inr more ↦ by (test y) (has_filter test ys x more is)
]
  where
    by : (b : Bool) → Contains (filter test ys) x → Contains (cond b (y ∷ filter test ys) (filter test ys)) x
    by true later = Contains-append_right (y ∷ []) (filter test ys) x later
    by false later = later

pub filter_has : {X : Type 0} (test : X → Bool) (xs : List X) (x : X) → Contains (filter test xs) x
    → Contains xs x × (test x ≡ true)
filter_has test xs x has = (
  All-contains (Contains xs) (filter test xs) x (All-filter test (Contains xs) xs (All-contains_itself xs)) has,
  All-contains (λ y. test y ≡ true) (filter test xs) x (filter_passes test xs) has,
)

range_has : (n r : ℕ) → r < n → Contains (range_with_len 0 n) r
range_has n r low = (
  r,
  omega (arith, length-range_with_len 0 n, low),
  get_or-range_with_len 0 n r r low ∙ omega arith,
)

has_range : (n r : ℕ) → Contains (range_with_len 0 n) r → r < n
has_range n r has =
    let low : has.0 < n = omega (arith, length-range_with_len 0 n, has.1) in
    omega (arith, low, has.2, get_or-range_with_len 0 n has.0 r low)

range_sorted : (n : ℕ) → IsStrictlySortedBy nat_cmp (range_with_len 0 n)
range_sorted n = sorted_from_strictly_increasing (range_with_len 0 n) (λ k low.
    let next : k + 1 < n = omega (arith, low, length-range_with_len 0 n) in
    let this : k < n = omega (arith, next) in
    omega (arith, get_or-range_with_len 0 n k 0 this, get_or-range_with_len 0 n (k + 1) 0 next))

pub map_twice : {X Y Z : Type 0} (f : Y → Z) (g : X → Y) (xs : List X) → map (λ x. f (g x)) xs ≡ map f (map g xs)
map_twice f g [] = refl
map_twice f g (x ∷ xs) = ap (λ zs. f (g x) ∷ zs) (map_twice f g xs)

some_any : (v rs : List ℕ) → Some v ≡ if_any rs → v ≡ rs
some_any v [] e = cc
some_any v (r ∷ rs) e = cc

some_first : (v rs : List ℕ) → Some v ≡ if_any rs → (r : ℕ) × Contains rs r
some_first v [] e = cc
some_first v (r ∷ rs) e = (r, Contains-append_left (r ∷ []) rs r (Contains-push [] r))

any_some : (rs : List ℕ) (r : ℕ) → Contains rs r → if_any rs ≡ Some rs
any_some [] r has = absurd (omega (arith, has.1))
any_some (x ∷ xs) r has = refl

not_true : (b : Bool) → not b ≡ true → b ≡ false
not_true true e = cc
not_true false e = refl

-- what is in one of the lists is in all of them together
pub flat_has : {X : Type 0} (f : X → List ℕ) (xs : List X) (i : ℕ) (d : X) (r : ℕ) → i < length xs
    → Contains (f (get_or xs i d)) r → Contains (flat_map f xs) r
flat_has f [] i d r low has = absurd (omega (arith, low))
flat_has f (x ∷ xs) zero d r low has = Contains-append_left (f x) (flat_map f xs) r has
flat_has f (x ∷ xs) (suc i) d r low has =
    Contains-append_right (f x) (flat_map f xs) r (flat_has f xs i d r (omega (arith, low)) has)

pub has_flat : {X : Type 0} (f : X → List ℕ) (xs : List X) (r : ℕ) → Contains (flat_map f xs) r
    → (i : ℕ) × (d : X) × (i < length xs) × Contains (f (get_or xs i d)) r
has_flat f [] r has = absurd (omega (arith, has.1))
has_flat f (x ∷ xs) r has = elim (Contains-append_cases (f x) (flat_map f xs) r has) [
  | inl here ↦ (0, x, omega arith, here)
  | inr later ↦
      let more = has_flat f xs r later in (suc more.0, more.1, omega (arith, more.2), more.3)
]

module _ (rows : List Changeset) (out : List Bool) (n : ℕ) (es : List (List ℕ × List ℕ))
    (kept : AreBranches rows out n es) where
  entry_is : (i : ℕ) (d : List ℕ × List ℕ) → i < length es
      → Some (get_or es i d).1 ≡ if_any (members rows out n (get_or es i d).0)
  entry_is i d low =
      let e = get_or es i d in
      sym (lookup_from_place (eq_by_cmp_equiv nat_list_cmp_total) es i e.0 e.1
      (IsDistinct-from_sorted (slice_cmp nat_cmp) (keys_of es) kept.ascending) (slice_get-get_or es i d low))
      ∙ kept.each e.0

  rows_within : All (λ e. All (λ r. r < n) e.1) es
  rows_within i d low k r' under =
      let e = get_or es i d in
      let same = some_any e.1 (members rows out n e.0) (entry_is i d low) in
      let has : Contains e.1 (get_or e.1 k r') =
      (k, under, default_same e.1 k (get_or e.1 k r') r' under) in
      has_range n (get_or e.1 k r') (filter_has (is_member rows out e.0) (range_with_len 0 n) _
      (subst (λ (rs : List ℕ). Contains rs (get_or e.1 k r')) same has)).0
    where
      default_same : (xs : List ℕ) (k d e : ℕ) → k < length xs → get_or xs k d ≡ get_or xs k e
      default_same xs k d e low = get_or_default xs k d e low

-- the same of branches as the code keeps them
pub revs_within : {X : Type 0} (rows : List Changeset) (out : List Bool) (n : ℕ) (seen : X → List ℕ × List ℕ)
    (bs : List X) → AreBranches rows out n (map seen bs) → All (λ b. All (λ r. r < n) (seen b).1) bs
revs_within rows out n seen bs kept k d low =
    subst (λ (e : List ℕ × List ℕ). All (λ r. r < n) e.1) (get_or-map seen bs k d (seen d) low)
    (rows_within rows out n (map seen bs) kept k (seen d) (subst (λ m. k < m) (sym (length-map bs seen)) low))

pub revs_are : {X : Type 0} (rows : List Changeset) (out : List Bool) (n : ℕ) (seen : X → List ℕ × List ℕ)
    (bs : List X) → AreBranches rows out n (map seen bs) → (k : ℕ) (d : X) → k < length bs
    → (seen (get_or bs k d)).1 ≡ members rows out n (seen (get_or bs k d)).0
revs_are rows out n seen bs kept k d low =
    subst (λ (e : List ℕ × List ℕ). e.1 ≡ members rows out n e.0) (get_or-map seen bs k d (seen d) low)
    (some_any _ _ (entry_is rows out n (map seen bs) kept k (seen d)
    (subst (λ m. k < m) (sym (length-map bs seen)) low)))

-- the rows of a branch that are not left out
module _ (rows : List Changeset) (out : List Bool) (n : ℕ) (name : List ℕ) where
  pub has_member : (r : ℕ) → r < n → get_or out r false ≡ false → branch_at rows r ≡ name
      → Contains (members rows out n name) r
  has_member r low is named =
      has_filter (is_member rows out name) (range_with_len 0 n) r (range_has n r low)
      (true_both (not (get_or out r false)) (is_name name (branch_at rows r)) (ap not is)
      (ap (is_name name) named ∙ name_same name))

  pub in_members : (r : ℕ) → Contains (members rows out n name) r
      → (r < n) × (get_or out r false ≡ false) × (branch_at rows r ≡ name)
  in_members r has =
      let f = filter_has (is_member rows out name) (range_with_len 0 n) r has in
      let parts = both_true (not (get_or out r false)) (is_name name (branch_at rows r)) f.1 in (
        has_range n r f.0,
        not_true (get_or out r false) parts.0,
        sym (same_name name (branch_at rows r) parts.1),
      )

  members_sorted : IsStrictlySortedBy nat_cmp (members rows out n name)
  members_sorted = IsStrictlySortedBy-filter nat_cmp (is_member rows out name) (range_with_len 0 n) (range_sorted n)

pub never_true : (b : Bool) → (b ≡ true → ⊥) → b ≡ false
never_true true never = absurd (never refl)
never_true false never = refl

-- ---- heads found anew

module _ {A : Type 0} (rows : List Changeset) (markers : List (Marker A)) (phases : List Phase) (out : List Bool)
    (are : AreCandidates rows markers phases out) (lawful : AreLawful rows) where
  shown_member : (name : List ℕ) (r : ℕ) → Contains (members rows out (length rows) name) r
      → IsOfBranch rows markers phases name r
  shown_member name r has =
      let is = in_members rows out (length rows) name r has in
      is_of rows markers phases name r is.0 is.2 (are.shown r is.0 is.1)

  later : (a d : ℕ) → IsAncestor rows a d → a ≤ d
  later a d leads = not_later (parents_of rows) (ordered rows lawful) a d (ancestor_leads rows lawful a d leads)

  head_in : (name : List ℕ) (r : ℕ) → Contains (heads_in rows (members rows out (length rows) name)) r
      → IsBranchHead rows markers phases name r
  head_in name r has =
      let revs = members rows out (length rows) name in
      let f = filter_has (is_last_in rows revs) revs r has in
      record {
        of_branch = shown_member name r f.0;
        last = λ d of leads. elim (cases_eq d r) [
          | inl e ↦ e
          | inr ne ↦ absurd (are.below name d of (λ e low is named more.
              let whole = leads_ancestor rows lawful r e low
              (leads_on (parents_of rows) r d e (ancestor_leads rows lawful r d leads)
              (ancestor_leads rows lawful d e more)) in
              let apart = λ (same : e ≡ r). ne (omega (arith, same, later r d leads, later d e more)) in
              let test = λ (d : ℕ). is_ancestor rows r d && not (d == r) in
              let yes = any_holds test revs e (has_member rows out (length rows) name e low is named)
              (true_both (is_ancestor rows r e) (not (e == r))
              ((ancestor_test rows lawful r e).1 whole) (eq_not e r apart)) in
              let f2 = sym f.1 ∙ ap not yes in cc))
        ];
      }

  head_member_of : (name : List ℕ) (r : ℕ) → IsBranchHead rows markers phases name r
      → Contains (members rows out (length rows) name) r
  head_member_of name r head =
      let at = branch_is rows markers phases name r head.of_branch in
      has_member rows out (length rows) name r at.0 (are.heads name r head) at.1

  in_heads : (name : List ℕ) (r : ℕ) → IsBranchHead rows markers phases name r
      → Contains (heads_in rows (members rows out (length rows) name)) r
  in_heads name r head =
      let revs = members rows out (length rows) name in
      has_filter (is_last_in rows revs) revs r (head_member_of name r head)
      (ap not (never_true (list_any (λ d. is_ancestor rows r d && not (d == r)) revs) (λ is.
      let f = any_found (λ d. is_ancestor rows r d && not (d == r)) revs is in
      let parts = both_true (is_ancestor rows r f.0) (not (f.0 == r)) f.2 in
      not_eq f.0 r parts.1
      (head.last f.0 (shown_member name f.0 f.1) ((ancestor_test rows lawful r f.0).0 parts.0)))))

  module _ (es : List (List ℕ × List ℕ)) (kept : AreBranches rows out (length rows) es) where
    head_listed : (r : ℕ) → Contains (flat_map (λ e. heads_in rows e.1) es) r
        → (r < length rows) × IsBranchHead rows markers phases (branch_at rows r) r
    head_listed r has =
        let f = has_flat (λ (e : List ℕ × List ℕ). heads_in rows e.1) es r has in
        let e = get_or es f.0 f.1 in
        let head = head_in e.0 r (subst (λ rs. Contains (heads_in rows rs) r)
        (some_any e.1 _ (entry_is rows out (length rows) es kept f.0 f.1 f.2)) f.3) in
        let at = branch_is rows markers phases e.0 r head.of_branch in
        (at.0, subst (λ name. IsBranchHead rows markers phases name r) (sym at.1) head)

    listed_head : (r : ℕ) → IsBranchHead rows markers phases (branch_at rows r) r
        → Contains (flat_map (λ e. heads_in rows e.1) es) r
    listed_head r head =
        let name = branch_at rows r in
        let found = kept.each name ∙ any_some _ r (head_member_of name r head) in
        let place = place_from_lookup (is_name name) es _ found in
        let d : List ℕ × List ℕ = (place.1, members rows out (length rows) name) in
        let low = slice_get_within es place.0 d place.2 in
        let at : get_or es place.0 d ≡ d = get_or_from_slice_get es place.0 d d place.2 in
        flat_has (λ (e : List ℕ × List ℕ). heads_in rows e.1) es place.0 d r low
        (subst (λ (e : List ℕ × List ℕ). Contains (heads_in rows e.1) r) (sym at) (in_heads name r head))

    pub listed_within : (heads : List ℕ) (n : ℕ)
        → ((r : ℕ) → Contains heads r ↔ Contains (flat_map (λ e. heads_in rows e.1) es) r) → n ≡ length rows
        → All (λ r. r < n) heads
    listed_within heads n are long k d low =
        let r = get_or heads k d in
        let has : Contains heads r = (k, low, get_or_default heads k r d low) in
        let within = (head_listed r ((are r).0 has)).0 in
        omega (arith, within, long)

    pub covered_by : (heads : List ℕ) (all covered : List Bool)
        → ((r : ℕ) → Contains heads r ↔ Contains (flat_map (λ e. heads_in rows e.1) es) r) → length all ≡ length rows
        → ((r : ℕ) → r < length rows → get_or all r false ≡ false → ⊥) → length covered ≡ length all
        → ((r : ℕ) → (get_or covered r false ≡ false) ↔ ((get_or all r false ≡ false) ⊎ Contains heads r))
        → AreCovered rows markers phases covered
    covered_by heads all covered are long whole size each = record {
      as_long = size ∙ long;
      each = λ r low. (
        λ is. elim ((each r).0 is) [
          | inl e ↦ absurd (whole r low e)
          | inr has ↦ (head_listed r ((are r).0 has)).1
        ],
        λ head. (each r).1 (inr ((are r).1 (listed_head r head))),
      );
    }

-- ---- the lines

module _ {A : Type 0} (rows : List Changeset) (markers : List (Marker A)) (phases : List Phase) (covered : List Bool)
    (told : AreCovered rows markers phases covered) where
  member_head : (name : List ℕ) (r : ℕ) → Contains (members rows covered (length rows) name) r
      → IsBranchHead rows markers phases name r
  member_head name r has =
      let is = in_members rows covered (length rows) name r has in
      subst (λ other. IsBranchHead rows markers phases other r) is.2 ((told.each r is.0).0 is.1)

  head_member : (name : List ℕ) (r : ℕ) → IsBranchHead rows markers phases name r
      → Contains (members rows covered (length rows) name) r
  head_member name r head =
      let at = branch_is rows markers phases name r head.of_branch in
      has_member rows covered (length rows) name r at.0
      ((told.each r at.0).1 (subst (λ other. IsBranchHead rows markers phases other r) (sym at.1) head)) at.1

  are_heads : (name : List ℕ) → AreBranchHeads rows markers phases name (members rows covered (length rows) name)
  are_heads name = record {
    each = λ r. (member_head name r, head_member name r);
    ascending = members_sorted rows covered (length rows) name;
  }

  module _ (lawful : AreLawful rows) where
    -- a branch without heads has no changeset that is not hidden: its last one would be a head
    none_shown : (name : List ℕ) → ((r : ℕ) → ¬ (IsBranchHead rows markers phases name r)) → (m r : ℕ)
        → length rows ≤ r + m → ¬ (IsOfBranch rows markers phases name r)
    none_shown name none zero r past of =
        let at = branch_is rows markers phases name r of in omega (arith, past, at.0)
    none_shown name none (suc m) r past of = none r (record {
      of_branch = of;
      last = λ d other leads. elim (cases_eq d r) [
        | inl e ↦ e
        | inr ne ↦
            let later = not_later (parents_of rows) (ordered rows lawful) r d (ancestor_leads rows lawful r d leads) in
            absurd (none_shown name none m d (omega (arith, past, later, ne)) other)
      ];
    })

    some_member : (name : List ℕ) (r : ℕ) → IsOfBranch rows markers phases name r
        → if_any (members rows covered (length rows) name) ≡ Some (members rows covered (length rows) name)
    some_member name r of = by (members rows covered (length rows) name) refl
      where
        by : (rs : List ℕ) → members rows covered (length rows) name ≡ rs → if_any rs ≡ Some rs
        by [] e = absurd (none_shown name (λ h head. let has = subst (λ (rs : List ℕ). Contains rs h) e (head_member name h head) in
            omega (arith, has.1)) (length rows) r (omega arith) of)
        by (x ∷ xs) e = refl

    module _ (es : List (List ℕ × List ℕ)) (kept : AreBranches rows covered (length rows) es) where
      key_member : (name : List ℕ) → Contains (keys_of es) name → (r : ℕ) × IsOfBranch rows markers phases name r
      key_member name has =
          let i = has.0 in
          let d : List ℕ × List ℕ = (name, []) in
          let low : i < length es = omega (arith, has.1, length-map es (λ (e : List ℕ × List ℕ). e.0)) in
          let same : (get_or es i d).0 ≡ name =
          sym (get_or-map (λ (e : List ℕ × List ℕ). e.0) es i d name low) ∙ has.2 in
          let first = some_first _ _ (entry_is rows covered (length rows) es kept i d low) in (
            first.0,
            subst (λ m. IsOfBranch rows markers phases m first.0) same (member_head _ first.0 first.1).of_branch,
          )

      member_key : (name : List ℕ) → ((r : ℕ) × IsOfBranch rows markers phases name r) → Contains (keys_of es) name
      member_key name of =
          let found = kept.each name ∙ some_member name of.0 of.1 in
          let place = place_from_lookup (is_name name) es _ found in
          let at = slice_get-map (λ (e : List ℕ × List ℕ). e.0) es place.0
          ∙ ap (option_map (λ (e : List ℕ × List ℕ). e.0)) place.2 in
          let has : Contains (keys_of es) place.1 = (
            place.0,
            slice_get_within (keys_of es) place.0 place.1 at,
            get_or_from_slice_get (keys_of es) place.0 place.1 place.1 at,
          ) in
          subst (Contains (keys_of es)) (sym (same_name name place.1 place.3)) has

      pub map_told : (text : List ℕ) → text ≡ join_with_byte 10 (map (branch_line rows) es)
          → IsBranchMap rows markers phases text
      map_told text says = record {
        branches = es;
        names = record { each = λ name. (key_member name, member_key name); ascending = kept.ascending };
        heads = λ i d low.
            let e = get_or es i d in
            subst (λ rs. AreBranchHeads rows markers phases e.0 rs)
            (sym (some_any e.1 _ (entry_is rows covered (length rows) es kept i d low))) (are_heads e.0);
        says = says;
      }
