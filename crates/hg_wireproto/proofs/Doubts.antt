-- Branches of which children say which rows are heads.
use Rattle.std.proofs.Common.{◌≡◌, ◌↔◌, ℕ, zero, suc, ◌+◌, ◌<◌, ◌≤◌, Bool, true, false, List, [], ◌∷◌, ◌++◌, length}
use Rattle.std.proofs.Common.{filter, get_or, map, refl, sym, ap, ◌∙◌, subst, inl, inr, arith}
use Rattle.std.specs.Prelude.{All, Contains, cond, not, ◌&&◌, ◌==◌}
use Rattle.std.specs.Int.{bit_at}
use Rattle.std.specs.List.{flat_map, list_any}
use Rattle.std.proofs.lemmas.Bool.{cases_eq}
use Rattle.std.proofs.lemmas.List.{append-nil, append_assoc, get_or_default}
use Rattle.std.proofs.lemmas.List.Concat.{flat_map-append}
use Rattle.std.proofs.lemmas.List.Elements.{Contains-append_cases, Contains-append_left, Contains-append_right}
use Rattle.std.proofs.lemmas.List.Folds.{flat_map-map}
use Rattle.std.proofs.lemmas.Nat.Bits.{bit_at-lt}
use Rattle.hg_log.specs.Ancestors.{IsAncestor}
use Rattle.hg_log.specs.Ancestors.IsAncestor.{itself as same_row}
use Rattle.hg_log.specs.Changeset.{Changeset}
use Rattle.hg_log.specs.Parents.{is_ancestor, parents_of}
use Rattle.hg_log.specs.Parents.Leads.{itself, of_parent}
use Rattle.hg_log.specs.Rows.{AreLawful}
use Rattle.hg_log.proofs.CallerLemmas.{ancestor_leads, ancestor_test, leads_ancestor, leads_on, not_later, ordered}
use Rattle.hg_types.specs.declared.phase.Phase.{Phase}
use Rattle.hg_obs.specs.declared.marker.Marker.{Marker}
use Rattle.hg_wireproto.specs.Hidden.{AreHidden, IsHidden, IsObsolete}
use Rattle.hg_wireproto.specs.code.Behind.{AreBehind}
use Rattle.hg_wireproto.specs.code.Branches.{branch_at, heads_in, is_last_in, members, AreBranches}
use Rattle.hg_wireproto.specs.code.Covered.{IsOwnParent}
use Rattle.hg_wireproto.specs.code.Doubt.{AreAllTold, AreCandidates, AreLeftOut, HasNoOwnChild, IsKin}
use Rattle.hg_wireproto.specs.code.Hiding.{TellsKept}
use Rattle.hg_wireproto.proofs.LastRows.{any_found, both_true, not_eq}
use Rattle.hg_wireproto.proofs.Covering.{branch_is, is_of}
use Rattle.hg_wireproto.proofs.Gathering.{ancestor_within}
use Rattle.hg_wireproto.proofs.Hiding.{pushed_before, pushed_here}
use Rattle.hg_wireproto.proofs.Mapping.{in_members, never_true, revs_are}

-- ---- one row more

module _ (rows : List Changeset) (lawful : AreLawful rows) (hidden : List Bool) (n : ℕ) (old two next : List Bool)
    (long : length two ≡ n) (pushed : next ≡ two ++ get_or hidden n false ∷ [])
    (told : AreLeftOut rows hidden n old) where
  read : (r : ℕ) → r < n → get_or next r false ≡ get_or two r false
  read r low = ap (λ (bs : List Bool). get_or bs r false) pushed
      ∙ pushed_before two (get_or hidden n false) false r (omega (arith, low, long))

  here : get_or next n false ≡ get_or hidden n false
  here = ap (λ (bs : List Bool). get_or bs n false) pushed
      ∙ ap (λ k. get_or (two ++ get_or hidden n false ∷ []) k false) (sym long)
      ∙ pushed_here two (get_or hidden n false) false

  fewer : (r : ℕ) → HasNoOwnChild rows hidden (n + 1) r → HasNoOwnChild rows hidden n r
  fewer r none c low = none c (omega (arith, low))

  -- a row has no child before it
  childless : HasNoOwnChild rows hidden (n + 1) n
  childless c low seen own = omega (arith, low, ordered rows lawful n c own.0)

  -- each row before it is left out with it, or is a parent of it
  out_by : ((r : ℕ) → r < n → (get_or two r false ≡ false)
      ↔ ((get_or old r false ≡ false) × (get_or hidden n false ≡ false → ¬ (IsOwnParent rows r n))))
      → AreLeftOut rows hidden (n + 1) next
  out_by each r low = elim (cases_eq r n) [
    | inl e ↦ subst (λ k. (get_or next k false ≡ false)
        ↔ ((get_or hidden k false ≡ false) × HasNoOwnChild rows hidden (n + 1) k)) (sym e)
        (λ is. (sym here ∙ is, childless), λ both. here ∙ both.0)
    | inr ne ↦
        let under : r < n = omega (arith, low, ne) in (
          λ is.
              let parts = (each r under).0 (sym (read r under) ∙ is) in
              let was = (told r under).0 parts.0 in (
                was.0,
                λ c within seen own. elim (cases_eq c n) [
                  | inl same ↦ parts.1 (ap (λ k. get_or hidden k false) (sym same) ∙ seen)
                      (subst (IsOwnParent rows r) same own)
                  | inr other ↦ was.1 c (omega (arith, within, other)) seen own
                ],
              ),
          λ both. read r under ∙ (each r under).1
              ((told r under).1 (both.0, fewer r both.1), λ seen. both.1 n (omega arith) seen),
        )
  ]

  -- the row is not hidden
  pub out_more : get_or hidden n false ≡ false
      → ((r : ℕ) → (get_or two r false ≡ false) ↔ ((get_or old r false ≡ false) × ¬ (IsOwnParent rows r n)))
      → AreLeftOut rows hidden (n + 1) next
  out_more shown each = out_by (λ r low. (
    λ is. let parts = (each r).0 is in (parts.0, λ _. parts.1),
    λ both. (each r).1 (both.0, both.1 shown),
  ))

  -- it is hidden
  pub out_same : get_or hidden n false ≡ true → two ≡ old → AreLeftOut rows hidden (n + 1) next
  out_same hid same = out_by (λ r low. (
    λ is. (ap (λ (bs : List Bool). get_or bs r false) (sym same) ∙ is, λ seen. let f = sym hid ∙ seen in absurd cc),
    λ both. ap (λ (bs : List Bool). get_or bs r false) same ∙ both.0,
  ))

-- ---- what is told of a branch

module _ {A : Type 0} (rows : List Changeset) (markers : List (Marker A)) (phases : List Phase) (lawful : AreLawful rows)
    (hidden out : List Bool) (told : AreHidden rows markers phases hidden) (outs : AreLeftOut rows hidden (length rows) out) where
  later : (r d : ℕ) → IsAncestor rows r d → r ≤ d
  later r d leads = not_later (parents_of rows) (ordered rows lawful) r d (ancestor_leads rows lawful r d leads)

  onward : (r d e : ℕ) → IsAncestor rows r d → IsAncestor rows d e → IsAncestor rows r e
  onward r d e first second =
      leads_ancestor rows lawful r e (ancestor_within rows d e second)
      (leads_on (parents_of rows) r d e (ancestor_leads rows lawful r d first) (ancestor_leads rows lawful d e second))

  seen_of : (r : ℕ) → r < length rows → ¬ (IsHidden rows markers phases r) → get_or hidden r false ≡ false
  seen_of r low shown = never_true (get_or hidden r false) (λ e. shown ((told.each r low).0 e))

  -- a row that is not hidden is below one of its branch that is not left out
  under_one : (m d : ℕ) → length rows ≤ d + m → d < length rows → get_or hidden d false ≡ false
      → ((e : ℕ) → e < length rows → get_or out e false ≡ false → branch_at rows e ≡ branch_at rows d
      → IsAncestor rows d e → ⊥) → ⊥
  under_one zero d past low seen none = omega (arith, past, low)
  under_one (suc m) d past low seen none =
      none d low ((outs d low).1 (
        seen,
        λ c within shown own.
            let early = ordered rows lawful d c own.0 in
            under_one m c (omega (arith, past, early)) within shown (λ e under is named leads.
            none e under is (named ∙ sym own.1)
            (onward d c e (leads_ancestor rows lawful d c within (of_parent d c own.0 itself)) leads)),
      ))
      refl (same_row low)

  pub candidates : AreCandidates rows markers phases out
  candidates = record {
    shown = λ r low is hid. let f = sym ((outs r low).0 is).0 ∙ (told.each r low).1 hid in cc;
    heads = λ name r head.
        let at = branch_is rows markers phases name r head.of_branch in
        (outs r at.0).1 (
          seen_of r at.0 head.of_branch.shown,
          λ c low seen own.
              let early = ordered rows lawful r c own.0 in
              let leads = leads_ancestor rows lawful r c low (of_parent r c own.0 itself) in
              let of = is_of rows markers phases name c low (sym own.1 ∙ at.1)
              (λ hid. let f = sym seen ∙ (told.each c low).1 hid in cc) in
              omega (arith, early, head.last c of leads),
        );
    below = λ name d of none.
        let at = branch_is rows markers phases name d of in
        under_one (length rows) d (omega arith) at.0 (seen_of d at.0 of.shown)
        (λ e low is named leads. none e low is (named ∙ at.1) leads);
  }

  module _ (kept behind : List ℕ)
      (tells : (r : ℕ) → r < length rows → TellsKept rows markers phases r (get_or kept r 0))
      (are : AreBehind rows kept behind) where
    module _ (name revs : List ℕ) (is : revs ≡ members rows out (length rows) name) where
      member : (r : ℕ) → Contains revs r → (r < length rows) × (get_or hidden r false ≡ false)
      member r has =
          let at = in_members rows out (length rows) name r (subst (λ (rs : List ℕ). Contains rs r) is has) in
          (at.0, ((outs r at.0).0 at.1).0)

      -- no other of them is a descendant
      last_where : (r : ℕ) → ((d : ℕ) → Contains revs d → IsAncestor rows r d → (d ≡ r → ⊥) → ⊥)
          → is_last_in rows revs r ≡ true
      last_where r none =
          ap not (never_true (list_any (λ d. is_ancestor rows r d && not (d == r)) revs) (λ yes.
          let f = any_found (λ d. is_ancestor rows r d && not (d == r)) revs yes in
          let parts = both_true (is_ancestor rows r f.0) (not (f.0 == r)) f.2 in
          none f.0 f.1 ((ancestor_test rows lawful r f.0).0 parts.0) (not_eq f.0 r parts.1)))

      all_obsolete : (r d e : ℕ) → r < length rows → bit_at (get_or behind r 0) 0 ≡ 0 → IsAncestor rows r d
          → (d ≡ r → ⊥) → IsAncestor rows d e → IsObsolete rows markers phases e
      all_obsolete r d e low none down ne more =
          let within = ancestor_within rows d e more in
          elim (cases_eq (bit_at (get_or kept e 0) 0) 1) [
            | inl one ↦ absurd (let f = (are.each r 0 low).1 (record {
              other = e;
              descends = onward r d e down more;
              proper = λ same. ne (omega (arith, later r d down, later d e more, same));
              is_in = one;
            }) in omega (arith, f, none))
            | inr not_one ↦ (tells e within).obsolete (omega (arith, not_one, bit_at-lt (get_or kept e 0) 0))
          ]

      pub kin_of : IsKin rows behind revs
      kin_of = record {
        within = λ k d low. (member (get_or revs k d) (k, low, get_or_default revs k (get_or revs k d) d low)).0;
        barren = λ r has none. last_where r (λ d at down ne.
            let seen = member d at in
            let hid = (told.each d seen.0).1
            (λ e more. all_obsolete r d e (member r has).0 none down ne more) in
            let f = sym seen.1 ∙ hid in cc);
        last = λ r n has all past. last_where r (λ d at down ne.
            let low : d ≤ n = omega (arith, all at.0 d at.1, at.2) in
            ne (omega (arith, low, past, later r d down)));
      }

    -- the same of branches as the code keeps them
    pub all_kin : {X : Type 0} (seen : X → List ℕ × List ℕ) (bs : List X)
        → AreBranches rows out (length rows) (map seen bs) → All (λ b. IsKin rows behind (seen b).1) bs
    all_kin seen bs held k d low =
        kin_of (seen (get_or bs k d)).0 (seen (get_or bs k d)).1 (revs_are rows out (length rows) seen bs held k d low)

-- ---- where it is told of each

passes_one : (b : Bool) (x : ℕ) (rest xs : List ℕ) → b ≡ true → rest ≡ xs → cond b (x ∷ rest) rest ≡ x ∷ xs
passes_one true x rest xs e same = ap (λ (ys : List ℕ). x ∷ ys) same
passes_one false x rest xs e same = cc

passes_all : (test : ℕ → Bool) (xs : List ℕ) → ((k : ℕ) → k < length xs → test (get_or xs k 0) ≡ true)
    → filter test xs ≡ xs
passes_all test [] all = refl
passes_all test (x ∷ xs) all =
    passes_one (test x) x (filter test xs) xs (all 0 (omega arith))
    (passes_all test xs (λ k low. all (suc k) (omega (arith, low))))

pub told_heads : (rows : List Changeset) (behind revs : List ℕ) (last : ℕ) → IsKin rows behind revs
    → AreAllTold behind last revs (length revs) → ((k : ℕ) → k < length revs → get_or revs k 0 ≤ last)
    → heads_in rows revs ≡ revs
told_heads rows behind revs last kin told most = passes_all (is_last_in rows revs) revs (λ k low.
    let r = get_or revs k 0 in
    let has : Contains revs r = (k, low, get_or_default revs k r 0 low) in
    elim (told k low) [
      | inl leaf ↦ kin.barren r has leaf
      | inr past ↦ kin.last r last has (λ i d under. omega (arith, most i under, get_or_default revs i d 0 under)) past
    ])

-- ---- heads that are told, and branches in doubt

-- two of four lists change places
swapped : (a b c d : List ℕ) (r : ℕ) → Contains (((a ++ b) ++ c) ++ d) r → Contains ((a ++ c) ++ (b ++ d)) r
swapped a b c d r has = elim (Contains-append_cases ((a ++ b) ++ c) d r has) [
  | inl front ↦ elim (Contains-append_cases (a ++ b) c r front) [
    | inl ab ↦ elim (Contains-append_cases a b r ab) [
      | inl is_a ↦ Contains-append_left (a ++ c) (b ++ d) r (Contains-append_left a c r is_a)
      | inr is_b ↦ Contains-append_right (a ++ c) (b ++ d) r (Contains-append_left b d r is_b)
    ]
    | inr is_c ↦ Contains-append_left (a ++ c) (b ++ d) r (Contains-append_right a c r is_c)
  ]
  | inr is_d ↦ Contains-append_right (a ++ c) (b ++ d) r (Contains-append_right b d r is_d)
]

swapped_back : (a b c d : List ℕ) (r : ℕ) → Contains ((a ++ c) ++ (b ++ d)) r → Contains (((a ++ b) ++ c) ++ d) r
swapped_back a b c d r has = elim (Contains-append_cases (a ++ c) (b ++ d) r has) [
  | inl front ↦ elim (Contains-append_cases a c r front) [
    | inl is_a ↦ Contains-append_left ((a ++ b) ++ c) d r
        (Contains-append_left (a ++ b) c r (Contains-append_left a b r is_a))
    | inr is_c ↦ Contains-append_left ((a ++ b) ++ c) d r (Contains-append_right (a ++ b) c r is_c)
  ]
  | inr back ↦ elim (Contains-append_cases b d r back) [
    | inl is_b ↦ Contains-append_left ((a ++ b) ++ c) d r
        (Contains-append_left (a ++ b) c r (Contains-append_right a b r is_b))
    | inr is_d ↦ Contains-append_right ((a ++ b) ++ c) d r is_d
  ]
]

-- both have the same numbers
abbrev pub HaveSame : List ℕ → List ℕ → Type 0
HaveSame a b = (r : ℕ) → Contains a r ↔ Contains b r

module _ {X : Type 0} (f : X → List ℕ) (heads whole : List ℕ) (doubtful left rest : List X) (branch : X)
    (is : left ≡ branch ∷ rest) (held : HaveSame ((heads ++ flat_map f doubtful) ++ flat_map f left) whole) where
  opened : HaveSame ((heads ++ flat_map f doubtful) ++ (f branch ++ flat_map f rest)) whole
  opened = subst (λ (xs : List X). HaveSame ((heads ++ flat_map f doubtful) ++ flat_map f xs) whole) is held

  -- the heads of a branch are put
  pub heads_put : (next : List ℕ) → next ≡ heads ++ f branch
      → HaveSame ((next ++ flat_map f doubtful) ++ flat_map f rest) whole
  heads_put next more =
      subst (λ (hs : List ℕ). HaveSame ((hs ++ flat_map f doubtful) ++ flat_map f rest) whole) (sym more) (λ r. (
        λ has. (opened r).0 (swapped heads (f branch) (flat_map f doubtful) (flat_map f rest) r has),
        λ has. swapped_back heads (f branch) (flat_map f doubtful) (flat_map f rest) r ((opened r).1 has),
      ))

  -- a branch is in doubt
  pub branch_put : (next : List X) → next ≡ doubtful ++ branch ∷ []
      → HaveSame ((heads ++ flat_map f next) ++ flat_map f rest) whole
  branch_put next more =
      let there : flat_map f next ≡ flat_map f doubtful ++ f branch =
      ap (flat_map f) more ∙ flat_map-append f doubtful (branch ∷ [])
      ∙ ap (λ (xs : List ℕ). flat_map f doubtful ++ xs) (append-nil (f branch)) in
      let same : (heads ++ flat_map f next) ++ flat_map f rest
      ≡ (heads ++ flat_map f doubtful) ++ (f branch ++ flat_map f rest) =
      ap (λ (xs : List ℕ). (heads ++ xs) ++ flat_map f rest) there
      ∙ ap (λ (xs : List ℕ). xs ++ flat_map f rest) (sym (append_assoc heads (flat_map f doubtful) (f branch)))
      ∙ append_assoc (heads ++ flat_map f doubtful) (f branch) (flat_map f rest) in
      subst (λ (xs : List ℕ). HaveSame xs whole) (sym same) opened

pub none_put : {X : Type 0} (f : X → List ℕ) (heads : List ℕ) (bs : List X)
    → HaveSame ((heads ++ flat_map f []) ++ flat_map f bs) (heads ++ flat_map f bs)
none_put f heads bs r =
    let same : (heads ++ []) ++ flat_map f bs ≡ heads ++ flat_map f bs =
    ap (λ (xs : List ℕ). xs ++ flat_map f bs) (append-nil heads) in (
      λ has. subst (λ (xs : List ℕ). Contains xs r) same has,
      λ has. subst (λ (xs : List ℕ). Contains xs r) (sym same) has,
    )

pub all_put : {X : Type 0} (f : X → List ℕ) (heads whole : List ℕ) (doubtful left : List X) → length left ≡ 0
    → HaveSame ((heads ++ flat_map f doubtful) ++ flat_map f left) whole → HaveSame (heads ++ flat_map f doubtful) whole
all_put {X} f heads whole doubtful [] none held =
    subst (λ (xs : List ℕ). HaveSame xs whole) (append-nil (heads ++ flat_map f doubtful)) held
all_put f heads whole doubtful (x ∷ xs) some held = absurd (omega (arith, some))

pub all_first : {X : Type 0} (P : X → Type 0) (xs rest : List X) (x : X) → xs ≡ x ∷ rest → All P xs → P x
all_first {X} P xs rest x is all = let here = subst (λ (ys : List X). All P ys) is all in here 0 x (omega arith)

pub all_rest : {X : Type 0} (P : X → Type 0) (xs rest : List X) (x : X) → xs ≡ x ∷ rest → All P xs → All P rest
all_rest {X} P xs rest x is all k d low =
    let here = subst (λ (ys : List X). All P ys) is all in here (suc k) d (omega (arith, low))

-- what was put and what is in doubt are the heads of all branches
pub all_heads : {X : Type 0} (rows : List Changeset) (seen : X → List ℕ × List ℕ) (bs ds slice : List X)
    (none heads more final : List ℕ) → none ≡ []
    → HaveSame (heads ++ flat_map (λ b. heads_in rows (seen b).1) ds) (none ++ flat_map (λ b. heads_in rows (seen b).1) bs)
    → slice ≡ ds → HaveSame more (heads ++ flat_map (λ b. heads_in rows (seen b).1) slice) → final ≡ more
    → HaveSame final (flat_map (λ e. heads_in rows e.1) (map seen bs))
all_heads {X} rows seen bs ds slice none heads more final empty held same put last =
    let line = λ (b : X). heads_in rows (seen b).1 in
    let front = subst (λ (xs : List X). HaveSame more (heads ++ flat_map line xs)) same put in
    let back : none ++ flat_map line bs ≡ flat_map (λ (e : List ℕ × List ℕ). heads_in rows e.1) (map seen bs) =
    ap (λ (xs : List ℕ). xs ++ flat_map line bs) empty
    ∙ sym (flat_map-map (λ (e : List ℕ × List ℕ). heads_in rows e.1) seen bs) in
    λ r. (
      λ has. subst (λ (xs : List ℕ). Contains xs r) back
          ((held r).0 ((front r).0 (subst (λ (xs : List ℕ). Contains xs r) last has))),
      λ has. subst (λ (xs : List ℕ). Contains xs r) (sym last)
          ((front r).1 ((held r).1 (subst (λ (xs : List ℕ). Contains xs r) (sym back) has))),
    )
