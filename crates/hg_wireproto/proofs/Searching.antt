-- The search for the heads of branches in doubt.
use Rattle.std.proofs.Common.{◌≡◌, ◌≢◌, ◌⊎◌, ◌↔◌, ℕ, zero, suc, ◌+◌, ◌-◌, ◌/◌, ◌%◌, ◌<◌, ◌≤◌, List, [], ◌∷◌, ◌++◌, length}
use Rattle.std.proofs.Common.{get_or, set, take, Option, None, Some, refl, sym, ap, ◌∙◌, subst, inl, inr, arith}
use Rattle.std.proofs.Common.{get_or-set_same, get_or-set_other}
use Rattle.std.specs.Prelude.{All, Contains, IfSome}
use Rattle.std.proofs.lemmas.Bool.{cases_eq, cases_lt}
use Rattle.std.proofs.lemmas.List.{get_or_past, length-set, take_all, take_more}
use Rattle.std.proofs.lemmas.List.Elements.{Contains-append_left, Contains-push, Contains-push_cases}
use Rattle.hg_log.specs.Changeset.{Changeset}
use Rattle.hg_log.specs.Parents.{parents_of, IsParentIn, Leads}
use Rattle.hg_log.specs.Parents.Leads.{itself, of_parent}
use Rattle.hg_log.specs.Rows.{AreLawful}
use Rattle.hg_log.proofs.CallerLemmas.{ancestor_leads, leads_ancestor, leads_on, not_later, ordered}
use Rattle.hg_wireproto.specs.code.Search.{AreBetween, HasFirst, IsLastIn, IsNumber}
use Rattle.hg_wireproto.specs.code.Sets.{AreEmpty, HasNumber, IsAt}
use Rattle.hg_wireproto.specs.declared.search.Window.{Window}
use Rattle.hg_wireproto.specs.declared.set.NumberSet.{NumberSet}

-- ---- the first rows of branches

pub first_within : (firsts : List (Option ℕ)) (r f : ℕ) → HasFirst firsts r f → r < length firsts
first_within firsts r f has = elim (cases_lt r (length firsts)) [
  | inl low ↦ low
  | inr past ↦ absurd (let e = sym (get_or_past firsts r None past) ∙ has in cc)
]

pub no_first_more : (firsts next : List (Option ℕ)) → next ≡ firsts ++ None ∷ []
    → ((r f : ℕ) → ¬ (HasFirst firsts r f)) → (r f : ℕ) → ¬ (HasFirst next r f)
no_first_more firsts next same none r f has =
    by firsts r (λ n. none n f) (ap (λ (xs : List (Option ℕ)). get_or xs r None) (sym same) ∙ has)
  where
    by : (xs : List (Option ℕ)) (n : ℕ) → ((m : ℕ) → ¬ (HasFirst xs m f)) → ¬ (HasFirst (xs ++ None ∷ []) n f)
    by [] zero never is = cc
    by [] (suc n) never is = cc
    by (x ∷ xs) zero never is = never 0 is
    by (x ∷ xs) (suc n) never is = by xs n (λ m. never (suc m)) is

-- what is noted of the first rows of a list
pub record IsNoted (revs : List ℕ) (first : ℕ) (old new : List (Option ℕ)) : Type 0 where
  pub as_long : length new ≡ length old
  pub each : (r f : ℕ) → HasFirst new r f
      ↔ ((HasFirst old r f × ¬ (Contains revs r)) ⊎ (Contains revs r × (first ≡ f)))

pub noted_none : (first : ℕ) (old : List (Option ℕ)) (revs : List ℕ) → length revs ≡ 0 → IsNoted revs first old old
noted_none first old revs none = record {
  as_long = refl;
  each = λ r f. (
    λ has. inl (has, λ in_none. omega (arith, none, in_none.1)),
    λ has. elim has [ inl both ↦ both.0 | inr both ↦ absurd (omega (arith, none, both.0.1)) ],
  );
}

pub noted_more : (revs : List ℕ) (i first rev : ℕ) (old now next : List (Option ℕ)) → i < length revs
    → rev ≡ get_or revs i 0 → rev < length now → next ≡ set now rev (Some first)
    → IsNoted (take i revs) first old now → IsNoted (take (i + 1) revs) first old next
noted_more revs i first rev old now next low is within same held = record {
  as_long = ap length same ∙ length-set now rev (Some first) ∙ held.as_long;
  each = λ r f. elim (cases_eq r rev) [
    | inl e ↦
        let here : get_or next r None ≡ Some first =
        ap (λ (xs : List (Option ℕ)). get_or xs r None) same ∙ ap (λ n. get_or (set now rev (Some first)) n None) e
        ∙ get_or-set_same now rev (Some first) None within in
        let has_it : Contains (take (i + 1) revs) r =
        subst (Contains (take (i + 1) revs)) (sym e) (subst (λ (rs : List ℕ). Contains rs rev) (sym more)
        (subst (λ (x : ℕ). Contains (take i revs ++ rev ∷ []) x) refl (Contains-push (take i revs) rev))) in (
          λ has. inr (has_it, let f = sym here ∙ has in cc),
          λ has. elim has [
            | inl both ↦ absurd (both.1 has_it)
            | inr both ↦ here ∙ ap (λ (x : ℕ). Some x) both.1
          ],
        )
    | inr ne ↦
        let there : get_or next r None ≡ get_or now r None =
        ap (λ (xs : List (Option ℕ)). get_or xs r None) same ∙ get_or-set_other now rev r (Some first) None ne in
        let fewer = λ (has : Contains (take (i + 1) revs) r).
        let c : Contains (take i revs) r = elim (Contains-push_cases (take i revs) rev r
        (subst (λ (rs : List ℕ). Contains rs r) more has)) [ inl old_one ↦ old_one | inr e ↦ absurd (ne (sym e)) ] in c in
        let further = λ (has : Contains (take i revs) r).
        let c : Contains (take (i + 1) revs) r = subst (λ (rs : List ℕ). Contains rs r) (sym more)
        (Contains-append_left (take i revs) (rev ∷ []) r has) in c in (
          λ has. elim ((held.each r f).0 (sym there ∙ has)) [
            | inl both ↦ inl (both.0, λ h. both.1 (fewer h))
            | inr both ↦ inr (further both.0, both.1)
          ],
          λ has. there ∙ (held.each r f).1 (elim has [
            | inl both ↦ inl (both.0, λ h. both.1 (further h))
            | inr both ↦ inr (fewer both.0, both.1)
          ]),
        )
  ];
}
  where
    more : take (i + 1) revs ≡ take i revs ++ rev ∷ []
    more = take_more revs i 0 low ∙ ap (λ (x : ℕ). take i revs ++ x ∷ []) (sym is)

pub noted_all : (revs : List ℕ) (i first : ℕ) (old now : List (Option ℕ)) → length revs ≤ i
    → IsNoted (take i revs) first old now → IsNoted revs first old now
noted_all revs i first old now past held =
    subst (λ (rs : List ℕ). IsNoted rs first old now) (take_all i revs past) held

-- ---- what passes go through

-- among the first n rows
abbrev pub AreBetweenTo : List (Option ℕ) → ℕ → ℕ → Window → Type 0
AreBetweenTo firsts n group w = (r f : ℕ) → r < n → HasFirst firsts r f → f / 512 ≡ group → (w.first ≤ r) × (r < w.end)

-- for each group so far
pub record AreWindows (firsts : List (Option ℕ)) (n : ℕ) (windows : List Window) : Type 0 where
  pub enough : length windows ≡ length firsts / 512 + 1
  pub each : (g : ℕ) (d : Window) → g < length windows → AreBetweenTo firsts n g (get_or windows g d)
  pub ends : All (λ w. w.end ≤ n) windows

pub windows_none : (firsts : List (Option ℕ)) (windows : List Window) → length windows ≡ length firsts / 512 + 1
    → All (λ w. w.end ≤ 0) windows → AreWindows firsts 0 windows
windows_none firsts windows enough ends = record {
  enough = enough;
  each = λ g d low r f under. absurd (omega (arith, under));
  ends = ends;
}

-- a row of no branch
pub windows_same : (firsts : List (Option ℕ)) (n : ℕ) (windows : List Window) → AreWindows firsts n windows
    → ((f : ℕ) → ¬ (HasFirst firsts n f)) → AreWindows firsts (n + 1) windows
windows_same firsts n windows held none = record {
  enough = held.enough;
  each = λ g d low r f under has is. elim (cases_eq r n) [
    | inl e ↦ absurd (none f (subst (λ m. HasFirst firsts m f) e has))
    | inr ne ↦ held.each g d low r f (omega (arith, under, ne)) has is
  ];
  ends = λ g d low. let e = held.ends g d low in omega (arith, e);
}

-- a row of a branch
pub windows_more : (firsts : List (Option ℕ)) (n first : ℕ) (windows next : List Window) (old new : Window)
    → AreWindows firsts n windows → HasFirst firsts n first → first / 512 < length windows
    → old ≡ get_or windows (first / 512) old → next ≡ set windows (first / 512) new
    → (new.first ≤ old.first) × (new.first ≤ n) → (old.end ≤ new.end) × (n < new.end)
    → ((m : ℕ) → old.end ≤ m → n < m → new.end ≤ m) → AreWindows firsts (n + 1) next
windows_more firsts n first windows next old new held has low was same from to most = record {
  enough = long ∙ held.enough;
  each = λ g d within. elim (cases_eq g (first / 512)) [
    | inl e ↦ λ r f under has_r is.
        let here : get_or next g d ≡ new =
        ap (λ (ws : List Window). get_or ws g d) same ∙ ap (λ m. get_or (set windows (first / 512) new) m d) e
        ∙ get_or-set_same windows (first / 512) new d low in
        subst (λ (w : Window). (w.first ≤ r) × (r < w.end)) (sym here) (elim (cases_eq r n) [
          | inl at ↦ (omega (arith, from.1, at), omega (arith, to.1, at))
          | inr ne ↦
              let b = subst (λ (w : Window). AreBetweenTo firsts n (first / 512) w) (sym was)
              (held.each (first / 512) old low) in
              let c = b r f (omega (arith, under, ne)) has_r (is ∙ e) in
              (omega (arith, from.0, c.0), omega (arith, to.0, c.1))
        ])
    | inr ne ↦ λ r f under has_r is.
        let there : get_or next g d ≡ get_or windows g d =
        ap (λ (ws : List Window). get_or ws g d) same ∙ get_or-set_other windows (first / 512) g new d ne in
        subst (λ (w : Window). (w.first ≤ r) × (r < w.end)) (sym there) (elim (cases_eq r n) [
          | inl at ↦ absurd (
              let two = sym has ∙ subst (λ m. HasFirst firsts m f) at has_r in
              let one : first ≡ f = cc in
              ne (sym is ∙ ap (λ (x : ℕ). x / 512) (sym one)))
          | inr other ↦ held.each g d (omega (arith, within, long)) r f (omega (arith, under, other)) has_r is
        ])
  ];
  ends = λ g d within. elim (cases_eq g (first / 512)) [
    | inl e ↦
        let here : get_or next g d ≡ new =
        ap (λ (ws : List Window). get_or ws g d) same ∙ ap (λ m. get_or (set windows (first / 512) new) m d) e
        ∙ get_or-set_same windows (first / 512) new d low in
        subst (λ (w : Window). w.end ≤ n + 1) (sym here) (most (n + 1)
        (let b = subst (λ (w : Window). w.end ≤ n) (sym was) (held.ends (first / 512) old low) in omega (arith, b))
        (omega arith))
    | inr ne ↦
        let there : get_or next g d ≡ get_or windows g d =
        ap (λ (ws : List Window). get_or ws g d) same ∙ get_or-set_other windows (first / 512) g new d ne in
        subst (λ (w : Window). w.end ≤ n + 1) (sym there)
        (let b = held.ends g d (omega (arith, within, long)) in omega (arith, b))
  ];
}
  where
    long : length next ≡ length windows
    long = ap length same ∙ length-set windows (first / 512) new

pub windows_all : (firsts : List (Option ℕ)) (n : ℕ) (windows : List Window) → length firsts ≤ n
    → AreWindows firsts n windows → (g : ℕ) (w : Window) → g < length windows
    → AreBetween firsts g (get_or windows g w).first (get_or windows g w).end
windows_all firsts n windows past held g w low r f has is =
    held.each g w low r f (let within = first_within firsts r f has in omega (arith, within, past)) has is

-- ---- the pass of a group

pub number_small : (first : Option ℕ) (group : ℕ) (number : Option ℕ)
    → ((k : ℕ) → (number ≡ Some k) ↔ IsNumber first group k) → IfSome number (λ k. k < 512)
number_small first group None is = tt
number_small first group (Some k) is = let n = (is k).0 refl in omega (arith, n.number)

module _ (rows : List Changeset) (firsts : List (Option ℕ)) (group : ℕ) where
  -- the row is of the branch of that number
  abbrev pub IsOf : ℕ → ℕ → Type 0
  IsOf r k = IsNumber (get_or firsts r None) group k

  -- it leads to one of that
  pub record Reaches (r k : ℕ) : Type 0 where
    pub other : ℕ
    pub leads : Leads (parents_of rows) r other
    pub is_of : IsOf other k

  -- a child from that row on does
  pub record IsFed (n p k : ℕ) : Type 0 where
    pub child : ℕ
    pub from : n ≤ child
    pub is_parent : IsParentIn (parents_of rows) p child
    pub reaches : Reaches child k

  -- what the rows from that one on gave to those before it, from another on
  abbrev pub AreHanded : ℕ → ℕ → List NumberSet → Type 0
  AreHanded low n sets = (i k : ℕ) → IsAt sets i k ↔ ((low + i < n) × IsFed n (low + i) k)

  -- the heads from that row on are found
  abbrev pub AreFound : ℕ → List ℕ → List ℕ → Type 0
  AreFound n old heads = (x : ℕ) → Contains heads x ↔ (Contains old x ⊎ ((n ≤ x) × IsLastIn rows firsts group x))

  module _ (lawful : AreLawful rows) where
    first_step : (a d : ℕ) → Leads (parents_of rows) a d
        → (d ≡ a) ⊎ ((c : ℕ) × IsParentIn (parents_of rows) a c × Leads (parents_of rows) c d)
    first_step a d itself = inl refl
    first_step a d (of_parent p q is_parent more) = elim (first_step a p more) [
      | inl e ↦ inr (d, subst (λ n. IsParentIn (parents_of rows) n d) e is_parent, itself)
      | inr f ↦ inr (f.0, f.1, of_parent p d is_parent f.2)
    ]

    later : (a d : ℕ) → Leads (parents_of rows) a d → a ≤ d
    later a d leads = not_later (parents_of rows) (ordered rows lawful) a d leads

    reached : (r k : ℕ) → Reaches r k → IsOf r k ⊎ IsFed (r + 1) r k
    reached r k x = elim (first_step r x.other x.leads) [
      | inl e ↦ inl (subst (λ n. IsOf n k) e x.is_of)
      | inr f ↦ inr record {
        child = f.0;
        from = let low = ordered rows lawful r f.0 f.1 in omega (arith, low);
        is_parent = f.1;
        reaches = record { other = x.other; leads = f.2; is_of = x.is_of };
      }
    ]

    reaches_by : (n r k : ℕ) → IsFed n r k → Reaches r k
    reaches_by n r k fed = record {
      other = fed.reaches.other;
      leads = leads_on (parents_of rows) r fed.child fed.reaches.other (of_parent r fed.child fed.is_parent itself)
          fed.reaches.leads;
      is_of = fed.reaches.is_of;
    }

    pub handed_none : (low end : ℕ) (sets : List NumberSet) → AreBetween firsts group low end → AreEmpty sets
        → AreHanded low end sets
    handed_none low end sets between empty i k = (
      λ has. absurd (empty i k has),
      λ both. absurd (
          let x = both.1.reaches in
          let b = between x.other x.is_of.row x.is_of.is x.is_of.of_group in
          omega (arith, b.1, both.1.from, later both.1.child x.other x.leads)
          ),
    )

    pub handed_all : (low n : ℕ) (sets : List NumberSet) → n ≤ low → AreHanded low n sets → AreEmpty sets
    handed_all low n sets past held i k has = let both = (held i k).0 has in omega (arith, past, both.0)

    pub found_none : (low end : ℕ) (old : List ℕ) → AreBetween firsts group low end → AreFound end old old
    found_none low end old between x = (
      λ has. inl has,
      λ has. elim has [
        | inl was ↦ was
        | inr both ↦ absurd (
            let b = between x both.1.first both.1.has both.1.of_group in omega (arith, b.1, both.0))
      ],
    )

    pub found_all : (low end n : ℕ) (old heads : List ℕ) → n ≤ low → AreBetween firsts group low end
        → AreFound n old heads → (x : ℕ) → Contains heads x ↔ (Contains old x ⊎ IsLastIn rows firsts group x)
    found_all low end n old heads past between held x = (
      λ has. elim ((held x).0 has) [ inl was ↦ inl was | inr both ↦ inr both.1 ],
      λ has. (held x).1 (elim has [
        | inl was ↦ inl was
        | inr last ↦ inr (let b = between x last.first last.has last.of_group in omega (arith, b.0, past), last)
      ]),
    )

    module _ (low r : ℕ) (old : List NumberSet) (mine : List ℕ) (number : Option ℕ) (past : low ≤ r)
        (held : AreHanded low (r + 1) old) (took : (k : ℕ) → HasNumber mine k ↔ IsAt old (r - low) k)
        (numbered : (k : ℕ) → (number ≡ Some k) ↔ IsOf r k) where
      same : low + (r - low) ≡ r
      same = omega (arith, past)

      -- what was handed to it
      fed_if : (k : ℕ) → HasNumber mine k → IsFed (r + 1) r k
      fed_if k has = subst (λ n. IsFed (r + 1) n k) same ((held (r - low) k).0 ((took k).0 has)).1

      if_fed : (k : ℕ) → IsFed (r + 1) r k → HasNumber mine k
      if_fed k fed = (took k).1 ((held (r - low) k).1 (
        omega (arith, past),
        subst (λ n. IsFed (r + 1) n k) (sym same) fed,
      ))

      pub handed_more : (taken one two : List NumberSet) (own : List ℕ) (p1 p2 : Option ℕ)
          → ((i k : ℕ) → IsAt taken i k ↔ (IsAt old i k × ¬ (i ≡ r - low)))
          → ((k : ℕ) → HasNumber own k ↔ (HasNumber mine k ⊎ (number ≡ Some k)))
          → p1 ≡ (parents_of rows r).0 → p2 ≡ (parents_of rows r).1
          → ((i k : ℕ) → IsAt one i k ↔ (IsAt taken i k ⊎ ((p1 ≡ Some (low + i)) × HasNumber own k)))
          → ((i k : ℕ) → IsAt two i k ↔ (IsAt one i k ⊎ ((p2 ≡ Some (low + i)) × HasNumber own k)))
          → AreHanded low r two
      handed_more taken one two own p1 p2 left joined first second at_one at_two i k = (
        λ has. elim ((at_two i k).0 has) [
          | inl mid ↦ elim ((at_one i k).0 mid) [
            | inl was ↦
                let both = (left i k).0 was in
                let fed = (held i k).0 both.0 in (
                  let ne : low + i ≢ r = λ e. both.1 (omega (arith, e)) in omega (arith, fed.0, ne),
                  record {
                    child = fed.1.child;
                    from = omega (arith, fed.1.from);
                    is_parent = fed.1.is_parent;
                    reaches = fed.1.reaches;
                  },
                )
            | inr both ↦ given (inl (sym first ∙ both.0)) both.1
          ]
          | inr both ↦ given (inr (sym second ∙ both.0)) both.1
        ],
        λ both. let fed = both.1 in elim (cases_eq fed.child r) [
          | inl e ↦
              let is_parent = subst (IsParentIn (parents_of rows) (low + i)) e fed.is_parent in
              let has = owned (subst (λ n. Reaches n k) e fed.reaches) in
              elim is_parent [
                | inl is ↦ (at_two i k).1 (inl ((at_one i k).1 (inr (first ∙ is, has))))
                | inr is ↦ (at_two i k).1 (inr (second ∙ is, has))
              ]
          | inr ne ↦ (at_two i k).1 (inl ((at_one i k).1 (inl ((left i k).1 (
            (held i k).1 (
              omega (arith, both.0),
              record {
                child = fed.child;
                from = omega (arith, fed.from, ne);
                is_parent = fed.is_parent;
                reaches = fed.reaches;
              },
            ),
            λ e. omega (arith, both.0, e, past),
          )))))
        ],
      )
        where
          owned : Reaches r k → HasNumber own k
          owned x = (joined k).1 (elim (reached r k x) [
            | inl is ↦ inr ((numbered k).1 is)
            | inr fed ↦ inl (if_fed k fed)
          ])

          given : IsParentIn (parents_of rows) (low + i) r → HasNumber own k → (low + i < r) × IsFed r (low + i) k
          given is_parent has = (
            ordered rows lawful (low + i) r is_parent,
            record {
              child = r;
              from = omega arith;
              is_parent = is_parent;
              reaches = elim ((joined k).0 has) [
                | inl was ↦ reaches_by (r + 1) r k (fed_if k was)
                | inr is ↦ record { other = r; leads = itself; is_of = (numbered k).0 is }
              ];
            },
          )

      -- it is the last of its branch where it was handed nothing of that
      is_last : (k : ℕ) → number ≡ Some k → ¬ (HasNumber mine k) → IsLastIn rows firsts group r
      is_last k is none =
          let of = (numbered k).0 is in
          record {
            first = of.row;
            has = of.is;
            of_group = of.of_group;
            last = λ d has down. elim (first_step r d (ancestor_leads rows lawful r d down)) [
              | inl e ↦ e
              | inr f ↦ absurd (none (if_fed k (record {
                child = f.0;
                from = let low_one = ordered rows lawful r f.0 f.1 in omega (arith, low_one);
                is_parent = f.1;
                reaches = record {
                  other = d;
                  leads = f.2;
                  is_of = record { row = of.row; is = has; of_group = of.of_group; number = of.number };
                };
              })))
            ];
          }

      last_is : length firsts ≡ length rows → IsLastIn rows firsts group r
          → (k : ℕ) × (number ≡ Some k) × ¬ (HasNumber mine k)
      last_is long last =
          let k = last.first % 512 in
          let of : IsOf r k = record { row = last.first; is = last.has; of_group = last.of_group; number = refl } in (
            k,
            (numbered k).1 of,
            λ has.
                let fed = fed_if k has in
                let x = fed.reaches in
                let same_row : x.is_of.row ≡ last.first =
                omega (arith, x.is_of.of_group, x.is_of.number, last.of_group) in
                let has_it = subst (λ f. HasFirst firsts x.other f) same_row x.is_of.is in
                let down = leads_on (parents_of rows) r fed.child x.other (of_parent r fed.child fed.is_parent itself) x.leads in
                let within = first_within firsts x.other last.first has_it in
                let e = last.last x.other has_it
                (leads_ancestor rows lawful r x.other (omega (arith, within, long)) down) in
                omega (arith, e, fed.from, later fed.child x.other x.leads),
          )

      pub found_more : (start now next : List ℕ) → length firsts ≡ length rows → AreFound (r + 1) start now
          → ((x : ℕ) → Contains next x ↔ (Contains now x
          ⊎ ((x ≡ r) × (k : ℕ) × (number ≡ Some k) × ¬ (HasNumber mine k))))
          → AreFound r start next
      found_more start now next long found put x = (
        λ has. elim ((put x).0 has) [
          | inl was ↦ elim ((found x).0 was) [
            | inl first ↦ inl first
            | inr both ↦ inr (omega (arith, both.0), both.1)
          ]
          | inr here ↦ inr (
            omega (arith, here.0),
            subst (λ n. IsLastIn rows firsts group n) (sym here.0) (is_last here.1 here.2 here.3),
          )
        ],
        λ has. (put x).1 (elim has [
          | inl first ↦ inl ((found x).1 (inl first))
          | inr both ↦ elim (cases_eq x r) [
            | inl e ↦
                let told = last_is long (subst (λ n. IsLastIn rows firsts group n) e both.1) in
                inr (e, told.0, told.1, told.2)
            | inr ne ↦ inl ((found x).1 (inr (omega (arith, both.0, ne), both.1)))
          ]
        ]),
      )
