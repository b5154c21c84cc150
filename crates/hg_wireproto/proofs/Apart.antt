-- Lists of which no two have the same row, and what is noted of them.
use Rattle.std.proofs.Common.{◌≡◌, ◌⊎◌, ◌↔◌, ℕ, suc, ◌+◌, ◌-◌, ◌*◌, ◌/◌, ◌<◌, ◌≤◌, Bool, List, [], ◌∷◌, ◌++◌}
use Rattle.std.proofs.Common.{length, get_or, map, take, Option, refl, sym, ap, ◌∙◌, subst, inl, inr, arith}
use Rattle.std.specs.Prelude.{Contains, not, ◌&&◌, ◌==◌}
use Rattle.std.specs.Cmp.Lexicographic.{slice_cmp}
use Rattle.std.specs.List.{flat_map, list_any}
use Rattle.std.specs.Map.{keys_of}
use Rattle.std.specs.Ordering.{eq_by_cmp, nat_cmp}
use Rattle.std.proofs.lemmas.Bool.{cases_eq, cases_lt, cases_order}
use Rattle.std.proofs.lemmas.List.{get_or-append_right, get_or-map, get_or-take, get_or_append_left, get_or_default}
use Rattle.std.proofs.lemmas.List.Elements.{Contains-append_cases, Contains-append_left, Contains-append_right}
use Rattle.std.proofs.lemmas.List.{append-nil, append_assoc, length-append, length-map, length-take, map-append, take_all}
use Rattle.std.proofs.lemmas.Map.Keys.{IsDistinct-from_sorted, apart_from_distinct}
use Rattle.hg_log.specs.Changeset.{Changeset}
use Rattle.hg_log.specs.Parents.{is_ancestor}
use Rattle.hg_log.specs.Rows.{AreLawful}
use Rattle.hg_log.proofs.CallerLemmas.{ancestor_test}
use Rattle.hg_wireproto.specs.code.Branches.{branch_at, heads_in, is_last_in, is_name, AreBranches}
use Rattle.hg_wireproto.specs.code.Search.{AreApart, AreFirstsOf, HasFirst, IsLastIn, IsListedFrom}
use Rattle.hg_wireproto.proofs.Branching.{name_same}
use Rattle.hg_wireproto.proofs.LastRows.{any_found, any_holds, both_true, eq_not, not_eq, true_both}
use Rattle.hg_wireproto.proofs.Mapping.{filter_has, flat_has, has_filter, has_flat, in_members, never_true, revs_are}
use Rattle.hg_wireproto.proofs.Searching.{first_within}

-- ---- lists that are apart

-- one of them less
pub apart_less : (xs ys : List (List ℕ)) (y : List ℕ) → AreApart (xs ++ y ∷ ys) → AreApart (xs ++ ys)
apart_less xs ys y held i j r low_i low_j in_i in_j =
    let a = moved i low_i in
    let b = moved j low_j in
    let same = held a.0 b.0 r a.1 b.1 (subst (λ (rs : List ℕ). Contains rs r) a.2 in_i)
    (subst (λ (rs : List ℕ). Contains rs r) b.2 in_j) in
    elim a.3 [
      | inl first ↦ elim b.3 [
        | inl second ↦ omega (arith, same, first, second)
        | inr second ↦ omega (arith, same, first, second)
      ]
      | inr first ↦ elim b.3 [
        | inl second ↦ omega (arith, same, first, second)
        | inr second ↦ omega (arith, same, first, second)
      ]
    ]
  where
    moved : (i : ℕ) → i < length (xs ++ ys)
        → (j : ℕ) × (j < length (xs ++ y ∷ ys)) × (get_or (xs ++ ys) i [] ≡ get_or (xs ++ y ∷ ys) j [])
        × (((i < length xs) × (j ≡ i)) ⊎ ((length xs ≤ i) × (j ≡ i + 1)))
    moved i low = elim (cases_lt i (length xs)) [
      | inl before ↦ (
        i,
        omega (arith, length-append xs (y ∷ ys), before),
        get_or_append_left xs ys [] i before ∙ sym (get_or_append_left xs (y ∷ ys) [] i before),
        inl (before, refl),
      )
      | inr past ↦
          let next : i + 1 - length xs ≡ suc (i - length xs) = omega (arith, past) in (
            i + 1,
            omega (arith, length-append xs ys, length-append xs (y ∷ ys), low),
            get_or-append_right xs ys (length xs) i [] refl past
                ∙ sym (ap (λ m. get_or (y ∷ ys) m []) next)
                ∙ sym (get_or-append_right xs (y ∷ ys) (length xs) (i + 1) [] refl (omega (arith, past))),
            inr (past, refl),
          )
    ]

module _ {X : Type 0} (list : X → List ℕ) (ds left rest : List X) (x : X) (is : left ≡ x ∷ rest)
    (held : AreApart (map list ds ++ map list left)) where
  opened : AreApart (map list ds ++ list x ∷ map list rest)
  opened = subst (λ (xs : List X). AreApart (map list ds ++ map list xs)) is held

  pub apart_told : AreApart (map list ds ++ map list rest)
  apart_told = apart_less (map list ds) (map list rest) (list x) opened

  pub apart_put : (next : List X) → next ≡ ds ++ x ∷ [] → AreApart (map list next ++ map list rest)
  apart_put next put =
      let same : map list next ++ map list rest ≡ map list ds ++ list x ∷ map list rest =
      ap (λ (xs : List X). map list xs ++ map list rest) put
      ∙ ap (λ (ls : List (List ℕ)). ls ++ map list rest) (map-append list ds (x ∷ []))
      ∙ append_assoc (map list ds) (list x ∷ []) (map list rest) in
      subst AreApart (sym same) opened

pub apart_end : {X : Type 0} (list : X → List ℕ) (ds left : List X) → length left ≡ 0
    → AreApart (map list ds ++ map list left) → AreApart (map list ds)
apart_end list ds [] none held = subst AreApart (append-nil (map list ds)) held
apart_end list ds (x ∷ xs) some held = absurd (omega (arith, some))

-- branches by their names are
module _ {X : Type 0} (rows : List Changeset) (out : List Bool) (n : ℕ) (seen : X → List ℕ × List ℕ) (bs : List X)
    (kept : AreBranches rows out n (map seen bs)) where
  -- a row of a list is of the branch with that name
  named : (i r : ℕ) (d : X) → i < length bs → Contains (get_or (map (λ b. (seen b).1) bs) i []) r
      → branch_at rows r ≡ (seen (get_or bs i d)).0
  named i r d low has =
      (in_members rows out n (seen (get_or bs i d)).0 r (subst (λ (rs : List ℕ). Contains rs r)
      (get_or-map (λ (b : X). (seen b).1) bs i d [] low ∙ revs_are rows out n seen bs kept i d low) has)).2

  never : (i j r : ℕ) (d : X) → i < j → j < length bs → Contains (get_or (map (λ b. (seen b).1) bs) i []) r
      → Contains (get_or (map (λ b. (seen b).1) bs) j []) r → ⊥
  never i j r d before low in_i in_j =
      let keys = keys_of (map seen bs) in
      let key = λ (k : ℕ) (under : k < length bs).
      let e : get_or keys k [] ≡ (seen (get_or bs k d)).0 =
      get_or-map (λ (e : List ℕ × List ℕ). e.0) (map seen bs) k (seen d) []
      (subst (λ m. k < m) (sym (length-map bs seen)) under)
      ∙ ap (λ (e : List ℕ × List ℕ). e.0) (get_or-map seen bs k d (seen d) under) in e in
      let same : get_or keys i [] ≡ get_or keys j [] =
      key i (omega (arith, before, low)) ∙ sym (named i r d (omega (arith, before, low)) in_i)
      ∙ named j r d low in_j ∙ sym (key j low) in
      let apart = apart_from_distinct (eq_by_cmp (slice_cmp nat_cmp)) keys i j []
      (IsDistinct-from_sorted (slice_cmp nat_cmp) keys kept.ascending) before
      (omega (arith, length-map (map seen bs) (λ (e : List ℕ × List ℕ). e.0), length-map bs seen, low)) in
      let one = ap (is_name (get_or keys i [])) (sym same) ∙ name_same (get_or keys i []) in
      let f = sym apart ∙ one in cc

  pub apart_branches : AreApart (map (λ b. (seen b).1) bs)
  apart_branches = by bs refl
    where
      by : (xs : List X) → bs ≡ xs → AreApart (map (λ b. (seen b).1) bs)
      by [] e i j r low_i low_j in_i in_j =
          absurd (omega (arith, low_i, length-map bs (λ (b : X). (seen b).1), ap length e))
      by (x ∷ xs) e i j r low_i low_j in_i in_j =
          let under_i : i < length bs = omega (arith, low_i, length-map bs (λ (b : X). (seen b).1)) in
          let under_j : j < length bs = omega (arith, low_j, length-map bs (λ (b : X). (seen b).1)) in
          elim (cases_order i j) [
            | inl same ↦ same
            | inr more ↦ absurd (elim more [
              | inl before ↦ never i j r x before under_j in_i in_j
              | inr after ↦ never j i r x after under_i in_j in_i
            ])
          ]

-- ---- the first rows of lists

pub firsts_none : (lists : List (List ℕ)) (firsts : List (Option ℕ)) → ((r f : ℕ) → ¬ (HasFirst firsts r f))
    → AreFirstsOf (take 0 lists) firsts
firsts_none lists firsts none r f = (λ has. absurd (none r f has), λ l. absurd (omega (arith, l.within)))

-- one list more
pub firsts_more : (lists : List (List ℕ)) (i : ℕ) (revs : List ℕ) (old new : List (Option ℕ)) → i < length lists
    → revs ≡ get_or lists i [] → AreApart lists → AreFirstsOf (take i lists) old
    → ((r f : ℕ) → HasFirst new r f
    ↔ ((HasFirst old r f × ¬ (Contains revs r)) ⊎ (Contains revs r × (get_or revs 0 0 ≡ f))))
    → AreFirstsOf (take (i + 1) lists) new
firsts_more lists i revs old new low is apart held noted r f = (
  λ has. elim ((noted r f).0 has) [
    | inl both ↦ let l = (held r f).0 both.0 in
        let under : l.place < i = omega (arith, l.within, length-take i lists, low) in
        listed l.place (omega (arith, under))
        (subst (λ (rs : List ℕ). Contains rs r) (get_or-take i lists l.place [] under) l.has)
        (ap (λ (rs : List ℕ). get_or rs 0 0) (sym (get_or-take i lists l.place [] under)) ∙ l.first)
    | inr both ↦ listed i (omega arith) (subst (λ (rs : List ℕ). Contains rs r) is both.0)
        (ap (λ (rs : List ℕ). get_or rs 0 0) (sym is) ∙ both.1)
  ],
  λ l.
      let under : l.place < i + 1 = omega (arith, l.within, length-take (i + 1) lists, low) in
      let same = get_or-take (i + 1) lists l.place [] under in
      let has = subst (λ (rs : List ℕ). Contains rs r) same l.has in
      let first : get_or (get_or lists l.place []) 0 0 ≡ f = ap (λ (rs : List ℕ). get_or rs 0 0) (sym same) ∙ l.first in
      (noted r f).1 (elim (cases_eq l.place i) [
        | inl e ↦
            let here : get_or lists l.place [] ≡ revs = ap (λ n. get_or lists n []) e ∙ sym is in
            inr (
              subst (λ (rs : List ℕ). Contains rs r) here has,
              ap (λ (rs : List ℕ). get_or rs 0 0) (sym here) ∙ first,
            )
        | inr ne ↦
            let before : l.place < i = omega (arith, under, ne) in
            let there = get_or-take i lists l.place [] before in
            inl (
              (held r f).1 (record {
                place = l.place;
                within = omega (arith, before, length-take i lists, low);
                has = subst (λ (rs : List ℕ). Contains rs r) (sym there) has;
                first = ap (λ (rs : List ℕ). get_or rs 0 0) there ∙ first;
              }),
              λ more. ne (apart l.place i r (omega (arith, before, low)) low has
                  (subst (λ (rs : List ℕ). Contains rs r) is more)),
            )
      ]),
)
  where
    listed : (place : ℕ) → place < i + 1 → Contains (get_or lists place []) r
        → get_or (get_or lists place []) 0 0 ≡ f → IsListedFrom (take (i + 1) lists) r f
    listed place under has first =
        let same = get_or-take (i + 1) lists place [] under in
        record {
          place = place;
          within = omega (arith, under, length-take (i + 1) lists, low);
          has = subst (λ (rs : List ℕ). Contains rs r) (sym same) has;
          first = ap (λ (rs : List ℕ). get_or rs 0 0) same ∙ first;
        }

pub firsts_all : (lists : List (List ℕ)) (i : ℕ) (firsts : List (Option ℕ)) → length lists ≤ i
    → AreFirstsOf (take i lists) firsts → AreFirstsOf lists firsts
firsts_all lists i firsts past held =
    subst (λ (ls : List (List ℕ)). AreFirstsOf ls firsts) (take_all i lists past) held

-- ---- the groups

module _ (rows : List Changeset) (firsts : List (Option ℕ)) where
  -- the row is a head of a group before that one
  pub record IsLastBefore (n r : ℕ) : Type 0 where
    pub group : ℕ
    pub before : group < n
    pub last : IsLastIn rows firsts group r

  -- the heads of the groups before that one are found
  abbrev pub AreFoundBefore : ℕ → List ℕ → List ℕ → Type 0
  AreFoundBefore n old heads = (r : ℕ) → Contains heads r ↔ (Contains old r ⊎ IsLastBefore n r)

  pub before_none : (old : List ℕ) → AreFoundBefore 0 old old
  before_none old r = (
    λ has. inl has,
    λ has. elim has [ inl was ↦ was | inr last ↦ absurd (omega (arith, last.before)) ],
  )

  pub before_more : (n : ℕ) (old now next : List ℕ) → AreFoundBefore n old now
      → ((r : ℕ) → Contains next r ↔ (Contains now r ⊎ IsLastIn rows firsts n r)) → AreFoundBefore (n + 1) old next
  before_more n old now next held put r = (
    λ has. elim ((put r).0 has) [
      | inl was ↦ elim ((held r).0 was) [
        | inl first ↦ inl first
        | inr last ↦ inr record { group = last.group; before = omega (arith, last.before); last = last.last }
      ]
      | inr last ↦ inr record { group = n; before = omega arith; last = last }
    ],
    λ has. (put r).1 (elim has [
      | inl first ↦ inl ((held r).1 (inl first))
      | inr last ↦ elim (cases_eq last.group n) [
        | inl e ↦ inr (subst (λ m. IsLastIn rows firsts m r) e last.last)
        | inr ne ↦ inl ((held r).1 (inr record {
          group = last.group;
          before = omega (arith, last.before, ne);
          last = last.last;
        }))
      ]
    ]),
  )

  module _ (lawful : AreLawful rows) (lists : List (List ℕ)) (apart : AreApart lists) (are : AreFirstsOf lists firsts) where
    first_of : (i r : ℕ) → i < length lists → Contains (get_or lists i []) r
        → HasFirst firsts r (get_or (get_or lists i []) 0 0)
    first_of i r low has = (are r (get_or (get_or lists i []) 0 0)).1 (record {
      place = i;
      within = low;
      has = has;
      first = refl;
    })

    begins : (revs : List ℕ) (r : ℕ) → Contains revs r → Contains revs (get_or revs 0 0)
    begins revs r has = (0, omega (arith, has.1), get_or_default revs 0 (get_or revs 0 0) 0 (omega (arith, has.1)))

    pub first_low : (r f : ℕ) → HasFirst firsts r f → f < length firsts
    first_low r f has =
        let l = (are r f).0 has in
        let begin = subst (Contains (get_or lists l.place [])) l.first (begins (get_or lists l.place []) r l.has) in
        first_within firsts f _ (first_of l.place f l.within begin)

    -- the last rows of groups are heads of lists
    listed_if : (n r : ℕ) → IsLastBefore n r → Contains (flat_map (heads_in rows) lists) r
    listed_if n r x =
        let last = x.last in
        let l = (are r last.first).0 last.has in
        let revs = get_or lists l.place [] in
        flat_has (heads_in rows) lists l.place [] r l.within
        (has_filter (is_last_in rows revs) revs r l.has
        (ap not (never_true (list_any (λ d. is_ancestor rows r d && not (d == r)) revs) (λ is.
        let f = any_found (λ d. is_ancestor rows r d && not (d == r)) revs is in
        let parts = both_true (is_ancestor rows r f.0) (not (f.0 == r)) f.2 in
        not_eq f.0 r parts.1 (last.last f.0
        (subst (HasFirst firsts f.0) l.first (first_of l.place f.0 l.within f.1))
        ((ancestor_test rows lawful r f.0).0 parts.0))))))

    if_listed : (n r : ℕ) → length firsts < n * 512 → Contains (flat_map (heads_in rows) lists) r → IsLastBefore n r
    if_listed n r enough has =
        let f = has_flat (heads_in rows) lists r has in
        let revs = get_or lists f.0 [] in
        let in_heads = subst (λ (rs : List ℕ). Contains (heads_in rows rs) r) (get_or_default lists f.0 f.1 [] f.2) f.3 in
        let both = filter_has (is_last_in rows revs) revs r in_heads in
        let first = get_or revs 0 0 in
        let here = first_of f.0 r f.2 both.0 in
        record {
          group = first / 512;
          before = let low = first_low r first here in omega (arith, low, enough);
          last = record {
            first = first;
            has = here;
            of_group = refl;
            last = λ d has_d down. elim (cases_eq d r) [
              | inl e ↦ e
              | inr ne ↦
                  let l = (are d first).0 has_d in
                  let other = subst (Contains (get_or lists l.place [])) l.first (begins (get_or lists l.place []) d l.has) in
                  let one = apart l.place f.0 first l.within f.2 other (begins revs r both.0) in
                  let in_revs = subst (λ n. Contains (get_or lists n []) d) one l.has in
                  let yes = any_holds (λ (d : ℕ). is_ancestor rows r d && not (d == r)) revs d in_revs
                  (true_both (is_ancestor rows r d) (not (d == r)) ((ancestor_test rows lawful r d).1 down)
                  (eq_not d r ne)) in
                  absurd (let e = sym both.1 ∙ ap not yes in cc)
            ];
          };
        }

    -- all groups
    pub found_heads : (n : ℕ) (old heads : List ℕ) → length firsts < n * 512 → AreFoundBefore n old heads → (r : ℕ)
        → Contains heads r ↔ Contains (old ++ flat_map (heads_in rows) lists) r
    found_heads n old heads enough held r = (
      λ has. elim ((held r).0 has) [
        | inl was ↦ Contains-append_left old (flat_map (heads_in rows) lists) r was
        | inr last ↦ Contains-append_right old (flat_map (heads_in rows) lists) r (listed_if n r last)
      ],
      λ has. (held r).1 (elim (Contains-append_cases old (flat_map (heads_in rows) lists) r has) [
        | inl was ↦ inl was
        | inr head ↦ inr (if_listed n r enough head)
      ]),
    )

-- there are no lists
pub none_found : {X : Type 0} (f : X → List ℕ) (heads : List ℕ) (bs : List X) → length bs ≡ 0 → (r : ℕ)
    → Contains heads r ↔ Contains (heads ++ flat_map f bs) r
none_found f heads [] none r = (
  λ has. subst (λ (xs : List ℕ). Contains xs r) (sym (append-nil heads)) has,
  λ has. subst (λ (xs : List ℕ). Contains xs r) (append-nil heads) has,
)
none_found f heads (x ∷ xs) some r = absurd (omega (arith, some))
