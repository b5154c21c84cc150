-- What came to changesets, markers and phases.
use Rattle.std.proofs.Common.{◌≡◌, ◌≢◌, true, false, ◌⊎◌, ◌↔◌, ℕ, zero, suc, ◌+◌, ◌-◌, ◌<◌, ◌≤◌, List, [], ◌∷◌}
use Rattle.std.proofs.Common.{◌++◌, length, get_or, take}
use Rattle.std.proofs.Common.{Option, Some, None, slice_get, refl, sym, ap, ◌∙◌, subst, inl, inr, arith}
use Rattle.std.specs.Prelude.{All, Contains}
use Rattle.std.specs.Int.{bit_at}
use Rattle.std.proofs.lemmas.Bool.{and_parts, both_ways, cases_eq, cases_lt, cases_order, false_from_ne_true}
use Rattle.std.proofs.lemmas.Bool.{ltb-true}
use Rattle.std.proofs.lemmas.List.{get_or-append_right, get_or-take, get_or_append_left, get_or_read}
use Rattle.std.proofs.lemmas.List.{length-append, length-take-le, take_all}
use Rattle.std.proofs.lemmas.List.Elements.{All-push, Contains-append_left, Contains-push, filter_passes}
use Rattle.std.proofs.lemmas.Option.{get_or_from_slice_get, slice_get-get_or, slice_get_within}
use Rattle.hg_types.specs.declared.node.Node.{Node}
use Rattle.hg_types.specs.declared.phase.Phase.{Phase}
use Rattle.hg_log.specs.Changeset.{Changeset}
use Rattle.hg_log.specs.HeadCount.{id_at, id_of}
use Rattle.hg_log.specs.Rows.{AreLawful, HasNode}
use Rattle.hg_log.proofs.CallerLemmas.{parents_kept}
use Rattle.hg_phases.specs.Order.{phase_at}
use Rattle.hg_obs.specs.declared.marker.Marker.{Marker}
use Rattle.hg_obs.specs.Markers.{IsPredecessor}
use Rattle.hg_wireproto.specs.Hidden.{IsMarked, IsObsolete, is_public}
use Rattle.hg_wireproto.specs.declared.since.ViewRow.{ViewRow}
use Rattle.hg_wireproto.specs.Viewed.{is_shown, shown_of, IsBefore, Since, Viewed}
use Rattle.hg_wireproto.specs.code.Branches.{branch_at, text_of}
use Rattle.hg_wireproto.specs.Branch.{branch_of}
use Rattle.hg_wireproto.specs.code.Hiding.{TellsKept}
use Rattle.hg_wireproto.specs.code.Kept.{AreSaid}
use Rattle.hg_wireproto.specs.code.Viewed.{AreEntries, AreListed, AreNames, ArePublic}
use Rattle.hg_wireproto.specs.code.Viewed.{IsEntry, IsKeptOf, IsSinceOf}

-- ---- markers that came

-- the first rows that the first n markers make obsolete, and the known ones do not
pub record AreListedTo {A : Type 0} (rows : List Changeset) (markers : List (Marker A)) (phases : List Phase)
    (first known n : ℕ) (revs : List ℕ) : Type 0 where
  pub each : (r : ℕ) → r < first → is_public (phase_at phases r) ≡ false → IsMarked rows (take n markers) r
      → IsMarked rows (take known markers) r ⊎ Contains revs r
  pub within : All (λ r. r < first) revs
  pub obsolete : All (λ r. IsObsolete rows markers phases r) revs

pub none_listed : {A : Type 0} (rows : List Changeset) (markers : List (Marker A)) (phases : List Phase)
    (first known : ℕ)
    → AreListedTo rows markers phases first known known []
none_listed rows markers phases first known = record {
  each = λ r low not_public is. inl is;
  within = λ k d low. absurd (omega (arith, low));
  obsolete = λ k d low. absurd (omega (arith, low));
}

-- a marker more is the predecessor's, or one before it is
some_before : {A : Type 0} (markers : List (Marker A)) (n : ℕ) (marker : Marker A) (node : Node)
    → n < length markers → marker ≡ get_or markers n marker → IsPredecessor (take (n + 1) markers) node
    → IsPredecessor (take n markers) node ⊎ (marker.predecessor ≡ node)
some_before {A} markers n marker node within read is =
    let k = is.0 in
    let m = is.1 in
    let long : length (take (n + 1) markers) ≡ n + 1 = length-take-le (n + 1) markers (omega (arith, within)) in
    let low : k < n + 1 = omega (arith, long, is.2) in
    let at : get_or markers k m ≡ m = sym (get_or-take (n + 1) markers k m low) ∙ is.3 in
    elim (cases_eq k n) [
      | inl e ↦ inr (ap (λ (o : Marker A). o.predecessor)
          (get_or_read_is markers n marker m within read ∙ sym (ap (λ i. get_or markers i m) e) ∙ at) ∙ is.4)
      | inr ne ↦ let below : k < n = omega (arith, low, ne) in
          inl (
            k,
            m,
            omega (arith, below, length-take-le n markers (omega (arith, within))),
            get_or-take n markers k m below ∙ at,
            is.4,
          )
    ]
  where
    get_or_read_is : (ms : List (Marker A)) (i : ℕ) (x d : Marker A) → i < length ms → x ≡ get_or ms i x
        → x ≡ get_or ms i d
    get_or_read_is ms i x d l r = get_or_read ms i x l r d

predecessor_here : {A : Type 0} (markers : List (Marker A)) (n : ℕ) (marker : Marker A) (node : Node)
    → n < length markers → marker ≡ get_or markers n marker → marker.predecessor ≡ node
    → IsPredecessor markers node
predecessor_here markers n marker node within read is = (n, marker, within, sym read, is)

-- one marker more, which makes none of the first rows obsolete, or one
pub listed_more : {A : Type 0} (rows : List Changeset) (markers : List (Marker A)) (phases : List Phase)
    (first known n : ℕ)
    (marker : Marker A) (found : Option ℕ) (old new : List ℕ) → n < length markers
    → marker ≡ get_or markers n marker
    → ((r : ℕ) → r < first → is_public (phase_at phases r) ≡ false → id_at rows r ≡ marker.predecessor.0
    → found ≡ Some r)
    → ((r : ℕ) → Contains old r → Contains new r) → ((r : ℕ) → found ≡ Some r → Contains new r)
    → All (λ r. r < first) new → All (λ r. IsObsolete rows markers phases r) new
    → AreListedTo rows markers phases first known n old → AreListedTo rows markers phases first known (n + 1) new
listed_more rows markers phases first known n marker found old new within read finds kept here low obsolete held =
    record {
      each = λ r before not_public is. elim (some_before markers n marker _ within read is) [
        | inl earlier ↦ elim (held.each r before not_public earlier) [
          | inl was ↦ inl was
          | inr has ↦ inr (kept r has)
        ]
        | inr same ↦ inr (here r (finds r before not_public (sym (ap (λ (o : Node). o.0) same))))
      ];
      within = low;
      obsolete = obsolete;
    }

pub listed_none : {A : Type 0} (rows : List Changeset) (markers : List (Marker A)) (phases : List Phase)
    (first known n : ℕ)
    (marker : Marker A) (found : Option ℕ) (revs : List ℕ) → n < length markers
    → marker ≡ get_or markers n marker → found ≡ None
    → ((r : ℕ) → r < first → is_public (phase_at phases r) ≡ false → id_at rows r ≡ marker.predecessor.0
    → found ≡ Some r)
    → AreListedTo rows markers phases first known n revs → AreListedTo rows markers phases first known (n + 1) revs
listed_none rows markers phases first known n marker found revs within read none finds held =
    listed_more rows markers phases first known n marker found revs revs within read finds (λ r has. has)
    (λ r is. absurd (let e = sym none ∙ is in cc)) held.within held.obsolete held

pub listed_one : {A : Type 0} (rows : List Changeset) (markers : List (Marker A)) (phases : List Phase)
    (first known n rev : ℕ)
    (marker : Marker A) (found : Option ℕ) (old new : List ℕ) → n < length markers
    → marker ≡ get_or markers n marker → found ≡ Some rev → rev < first → id_at rows rev ≡ marker.predecessor.0
    → is_public (phase_at phases rev) ≡ false
    → ((r : ℕ) → r < first → is_public (phase_at phases r) ≡ false → id_at rows r ≡ marker.predecessor.0
    → found ≡ Some r) → new ≡ old ++ rev ∷ []
    → AreListedTo rows markers phases first known n old → AreListedTo rows markers phases first known (n + 1) new
listed_one rows markers phases first known n rev marker found old new within read one low named not_public
    finds pushed held =
    let id = λ (id : List ℕ). let made : Node = record { 0 = id } in made in
    let same : marker.predecessor ≡ id (id_at rows rev) = ap id (sym named) in
    subst (AreListedTo rows markers phases first known (n + 1)) (sym pushed)
    (listed_more rows markers phases first known n marker found old (old ++ rev ∷ []) within read finds
    (λ r has. Contains-append_left old (rev ∷ []) r has)
    (λ r is. subst (Contains (old ++ rev ∷ [])) (let e = sym one ∙ is in cc) (Contains-push old rev))
    (All-push (λ r. r < first) old rev held.within low)
    (All-push (λ r. IsObsolete rows markers phases r) old rev held.obsolete (record {
      marked = predecessor_here markers n marker (id (id_at rows rev)) within read same;
      not_public = not_public;
    })) held)

pub listed_all : {A : Type 0} (rows : List Changeset) (markers : List (Marker A)) (phases : List Phase)
    (first known n : ℕ)
    (revs : List ℕ) → length markers ≤ n → AreListedTo rows markers phases first known n revs
    → AreListed rows markers phases first known revs
listed_all rows markers phases first known n revs past held = record {
  each = λ r low is. held.each r low is.not_public
      (subst (λ ms. IsMarked rows ms r) (sym (take_all n markers past)) is.marked);
  within = held.within;
  obsolete = held.obsolete;
}

-- ---- the number of an id

-- the row of a number has its id
here_row : (rows : List Changeset) (r : ℕ) → r < length rows
    → (row : Changeset) × (slice_get rows r ≡ Some row) × (row.node ≡ id_at rows r)
here_row rows r within =
    let none : Changeset = record { node = []; p1 = []; p2 = []; text = [] } in
    let at = slice_get-get_or rows r none within in (get_or rows r none, at, sym (ap id_of at))

-- ids are distinct
pub one_row : (rows : List Changeset) (a b : ℕ) (id : List ℕ) → AreLawful rows → HasNode rows a id
    → b < length rows → id_at rows b ≡ id → a ≡ b
one_row rows a b id lawful has within same =
    let other = here_row rows b within in
    let there : (d : Changeset) → (get_or rows a d).node ≡ id =
    λ d. ap (λ (row : Changeset). row.node) (get_or_from_slice_get rows a has.row d has.row_at) ∙ has.node_is in
    let here : (d : Changeset) → (get_or rows b d).node ≡ id =
    λ d. ap (λ (row : Changeset). row.node) (get_or_from_slice_get rows b other.0 d other.1) ∙ other.2 ∙ same in
    elim (cases_order a b) [
      | inl e ↦ e
      | inr apart ↦ elim apart [
        | inl less ↦ absurd (lawful.distinct a b has.row less within (there has.row ∙ sym (here has.row)))
        | inr more ↦ absurd (lawful.distinct b a has.row more (slice_get_within rows a has.row has.row_at)
            (here has.row ∙ sym (there has.row)))
      ]
    ]

pub no_row : (rows : List Changeset) (b : ℕ) (id : List ℕ) → All (λ row. row.node ≢ id) rows → b < length rows
    → id_at rows b ≡ id → ⊥
no_row rows b id lacks within same =
    let other = here_row rows b within in
    lacks b other.0 within
    (ap (λ (row : Changeset). row.node) (get_or_from_slice_get rows b other.0 other.0 other.1) ∙ other.2 ∙ same)

-- ---- a view goes on

pub slice_get_taken : {X : Type 0} (xs : List X) (n i : ℕ) → i < n → slice_get (take n xs) i ≡ slice_get xs i
slice_get_taken xs zero i low = absurd (omega (arith, low))
slice_get_taken [] (suc n) i low = refl
slice_get_taken (x ∷ xs) (suc n) zero low = refl
slice_get_taken (x ∷ xs) (suc n) (suc i) low = slice_get_taken xs n i (omega (arith, low))

entry_kept : (rows : List Changeset) (n r : ℕ) (entry : ViewRow) → AreLawful rows → n ≤ length rows → r < n
    → IsEntry (take n rows) r entry → IsEntry rows r entry
entry_kept rows n r entry lawful within low is = record {
  has = record {
    row = is.has.row;
    row_at = sym (slice_get_taken rows n r low) ∙ is.has.row_at;
    node_is = is.has.node_is;
  };
  first = is.first ∙ ap (λ (ps : Option ℕ × Option ℕ). ps.0) (parents_kept rows n r within lawful low);
  second = is.second ∙ ap (λ (ps : Option ℕ × Option ℕ). ps.1) (parents_kept rows n r within lawful low);
  first_earlier = is.first_earlier;
  second_earlier = is.second_earlier;
}

-- what holds of each place of two lists holds of each place of both together
each_on : {X : Type 0} (P : ℕ → X → Type 0) (xs ys : List X) (d : X) (n m k : ℕ) → length xs ≡ n → k ≡ n + m
    → ((r : ℕ) → r < n → P r (get_or xs r d)) → ((i : ℕ) → i < m → P (n + i) (get_or ys i d))
    → (r : ℕ) → r < k → P r (get_or (xs ++ ys) r d)
each_on {X} P xs ys d n m k long all front back r low = elim (cases_lt r n) [
  | inl before ↦ subst (P r) (sym (get_or_append_left xs ys d r (omega (arith, before, long)))) (front r before)
  | inr past ↦
      let place : n + (r - n) ≡ r = omega (arith, past) in
      subst (P r) (sym (get_or-append_right xs ys n r d long past))
      (subst (λ q. P q (get_or ys (r - n) d)) place (back (r - n) (omega (arith, low, all, past))))
]

-- a marker stays
predecessor_stays : {A : Type 0} (markers : List (Marker A)) (n : ℕ) (node : Node)
    → n ≤ length markers → IsPredecessor (take n markers) node → IsPredecessor markers node
predecessor_stays markers n node within is =
    let low : is.0 < n = omega (arith, length-take-le n markers within, is.2) in
    (is.0, is.1, omega (arith, low, within), sym (get_or-take n markers is.0 is.1 low) ∙ is.3, is.4)

-- a row that was obsolete by the first markers, and by the phases that were, is obsolete by all, unless it is public
obsolete_on : {A : Type 0} (rows : List Changeset) (markers : List (Marker A)) (phases was : List Phase)
    (first known r : ℕ) → known ≤ length markers → r < first
    → (is_public (phase_at phases r) ≡ true → ⊥)
    → IsObsolete (take first rows) (take known markers) was r → IsObsolete rows markers phases r
obsolete_on rows markers phases was first known r known_within low hidden is =
    let same : id_at (take first rows) r ≡ id_at rows r = ap id_of (slice_get_taken rows first r low) in
    let id = λ (id : List ℕ). let made : Node = record { 0 = id } in made in
    record {
      marked = predecessor_stays markers known _ known_within
          (subst (λ i. IsPredecessor (take known markers) (id i)) same is.marked);
      not_public = false_from_ne_true _ hidden;
    }

-- one that is obsolete by all was, where the first markers say so
obsolete_back : {A : Type 0} (rows : List Changeset) (markers : List (Marker A)) (phases was : List Phase)
    (first known r : ℕ) → r < first → IsMarked rows (take known markers) r
    → (is_public (phase_at was r) ≡ true → is_public (phase_at phases r) ≡ true)
    → IsObsolete rows markers phases r → IsObsolete (take first rows) (take known markers) was r
obsolete_back rows markers phases was first known r low marked stay is =
    let same : id_at (take first rows) r ≡ id_at rows r = ap id_of (slice_get_taken rows first r low) in
    let id = λ (id : List ℕ). let made : Node = record { 0 = id } in made in
    record {
      marked = subst (λ i. IsPredecessor (take known markers) (id i)) (sym same) marked;
      not_public = false_from_ne_true _ (λ public. both_ways _ is.not_public (stay public));
    }

-- those of the first rows that are public are
pub shown_public : (first : ℕ) (phases : List Phase) (seen : List ℕ)
    → ArePublic phases first (shown_of first phases seen)
shown_public first phases seen =
    let passes : (i d : ℕ) → i < length (shown_of first phases seen)
    → is_shown first phases (get_or (shown_of first phases seen) i d) ≡ true =
    λ i d low. filter_passes (is_shown first phases) seen i d low in
    record {
      within = λ i d low. ltb-true _ first (and_parts _ _ (passes i d low)).0;
      each = λ i d low. (and_parts _ _ (passes i d low)).1;
    }

-- of the first rows, those that were obsolete and are public are listed
pub listed_taken : {A : Type 0} (view : Viewed A) (came : Since A) → IsBefore view came → (r : ℕ) → r < came.first
    → IsObsolete (take came.first came.rows) (take came.known came.markers) view.phases r
    → is_public (phase_at came.phases r) ≡ true → Contains came.public r
listed_taken view came before r low is =
    before.listed r low (subst (λ rows. IsObsolete rows view.markers view.phases r) (sym before.rows)
    (subst (λ markers. IsObsolete (take came.first came.rows) markers view.phases r) (sym before.markers) is))

-- what is obsolete by the first rows and markers is by a view of them
viewed_is : {A : Type 0} (view : Viewed A) (came : Since A) → IsBefore view came → (r : ℕ)
    → IsObsolete (take came.first came.rows) (take came.known came.markers) view.phases r
    ↔ IsObsolete view.rows view.markers view.phases r
viewed_is {A} view came before r =
    let Is = λ (rows : List Changeset) (markers : List (Marker A)). IsObsolete rows markers view.phases r in (
      λ is. subst (λ rows. Is rows view.markers) (sym before.rows)
          (subst (λ markers. Is (take came.first came.rows) markers) (sym before.markers) is),
      λ is. subst (λ markers. Is (take came.first came.rows) markers) before.markers
          (subst (λ rows. Is rows view.markers) before.rows is),
    )

-- where none that was obsolete is public now, all that were obsolete are
pub obsolete_grows : {A : Type 0} (view : Viewed A) (came : Since A) → IsBefore view came
    → came.known ≤ length came.markers → came.public ≡ [] → (r : ℕ) → r < came.first
    → IsObsolete view.rows view.markers view.phases r → IsObsolete came.rows came.markers came.phases r
obsolete_grows view came before within none r low is =
    obsolete_on came.rows came.markers came.phases view.phases came.first came.known r within low
    (λ public. let has = subst (λ (revs : List ℕ). Contains revs r) none (before.listed r low is public) in
    omega (arith, has.1)) ((viewed_is view came before r).1 is)

-- what is obsolete was, or a marker that came made it so
pub obsolete_gone : {A : Type 0} (view : Viewed A) (came : Since A) (gone : List ℕ) → IsBefore view came
    → AreListed came.rows came.markers came.phases came.first came.known gone → (r : ℕ) → r < came.first
    → IsObsolete came.rows came.markers came.phases r
    → IsObsolete view.rows view.markers view.phases r ⊎ Contains gone r
obsolete_gone view came gone before listed r low is = elim (listed.each r low is) [
  | inl marked ↦ inl ((viewed_is view came before r).0
      (obsolete_back came.rows came.markers came.phases view.phases came.first came.known r low marked
      (before.stay r low) is))
  | inr has ↦ inr has
]

-- whether a changeset is kept is said once more markers came, and changesets became public
kept_on : {A : Type 0} (rows : List Changeset) (markers : List (Marker A)) (phases was : List Phase)
    (first known r : ℕ) (old left new gone shown : List ℕ) → first ≤ length rows → known ≤ length markers → r < first
    → AreListed rows markers phases first known gone → ArePublic phases first shown
    → (is_public (phase_at was r) ≡ true → is_public (phase_at phases r) ≡ true)
    → (IsObsolete (take first rows) (take known markers) was r → is_public (phase_at phases r) ≡ true
    → Contains shown r)
    → AreSaid 0 gone old left → AreSaid 1 shown left new
    → TellsKept (take first rows) (take known markers) was r (get_or old r 0)
    → TellsKept rows markers phases r (get_or new r 0)
kept_on {A} rows markers phases was first known r old left new gone shown within known_within low listed public stay
    hidden forgot showed told =
    let same : id_at (take first rows) r ≡ id_at rows r = ap id_of (slice_get_taken rows first r low) in
    let id = λ (id : List ℕ). let made : Node = record { 0 = id } in made in
    let bit : (a b : ℕ) → a ≡ b → bit_at a 0 ≡ bit_at b 0 = λ a b e. ap (λ (s : ℕ). bit_at s 0) e in
    let on : Contains shown r → bit_at (get_or new r 0) 0 ≡ 1 = λ has. bit _ 1 (showed.listed r has) in
    let off : Contains gone r → bit_at (get_or left r 0) 0 ≡ 0 = λ has. bit _ 0 (forgot.listed r has) in
    record {
      obsolete = λ z. elim (showed.others r) [
        | inr has ↦ absurd (omega (arith, z, on has))
        | inl as_left ↦ elim (forgot.others r) [
          | inr has ↦ subst (λ k. IsObsolete rows markers phases k) has.2 (listed.obsolete has.0 r has.1)
          | inl as_old ↦
              let before = told.obsolete (sym (bit _ _ as_old) ∙ sym (bit _ _ as_left) ∙ z) in
              record {
                marked = predecessor_stays markers known _ known_within
                    (subst (λ i. IsPredecessor (take known markers) (id i)) same before.marked);
                not_public = false_from_ne_true _ (λ is. omega (arith, z, on (hidden before is)));
              }
        ]
      ];
      kept = λ one is. elim (showed.others r) [
        | inr has ↦ both_ways _ is.not_public
            (subst (λ k. is_public (phase_at phases k) ≡ true) has.2 (public.each has.0 r has.1))
        | inl as_left ↦ elim (forgot.others r) [
          | inr has ↦ absurd (omega (arith, one, bit _ _ as_left, off has))
          | inl as_old ↦ elim (listed.each r low is) [
            | inr has ↦ absurd (omega (arith, one, bit _ _ as_left, off has))
            | inl marked ↦ told.kept (sym (bit _ _ as_old) ∙ sym (bit _ _ as_left) ∙ one) (record {
              marked = subst (λ i. IsPredecessor (take known markers) (id i)) (sym same) marked;
              not_public = false_from_ne_true _ (λ so. both_ways _ is.not_public (stay so));
            })
          ]
        ]
      ];
    }

-- all that is kept of a view, with what came, is kept of all
pub view_on : {A : Type 0} (rows : List Changeset) (markers : List (Marker A)) (phases was : List Phase)
    (first known : ℕ) (entries more all : List ViewRow) (names added named : List (List ℕ))
    (kept left said sets bits gone shown : List ℕ)
    → IsKeptOf (take first rows) (take known markers) was entries names kept
    → IsSinceOf first known shown rows markers phases more added sets gone
    → ((r : ℕ) → r < first → is_public (phase_at was r) ≡ true → is_public (phase_at phases r) ≡ true)
    → ((r : ℕ) → r < first → IsObsolete (take first rows) (take known markers) was r
    → is_public (phase_at phases r) ≡ true → Contains shown r)
    → AreSaid 0 gone kept left → AreSaid 1 shown left said
    → all ≡ entries ++ more → named ≡ names ++ added → bits ≡ said ++ sets
    → IsKeptOf rows markers phases all named bits
view_on rows markers phases was first known entries more all names added named kept left said sets bits gone shown is
    came stay hidden forgot showed all_is named_is bits_is =
    let taken : length (take first rows) ≡ first = length-take-le first rows came.first_within in
    let whole : length rows ≡ first + (length rows - first) = omega (arith, came.first_within) in
    let rest = length rows - first in
    record {
      lawful = came.lawful;
      few = came.few;
      count = came.count;
      are_entries = subst (AreEntries rows (length rows)) (sym all_is) (record {
        as_long = omega (arith, length-append entries more, is.are_entries.as_long, came.are_entries.as_long, taken, whole);
        each = λ r other low.
            each_on (IsEntry rows) entries more other first rest (length rows)
            (is.are_entries.as_long ∙ taken) whole
            (λ k before. entry_kept rows first k _ came.lawful came.first_within before
            (is.are_entries.each k other (omega (arith, before, taken))))
            (λ i before. came.are_entries.each i other before) r low;
      });
      are_names = subst (AreNames rows (length rows)) (sym named_is) (record {
        as_long = omega (arith, length-append names added, is.are_names.as_long, came.are_names.as_long, taken, whole);
        each = each_on (λ r name. name ≡ branch_at rows r) names added [] first rest (length rows)
            (is.are_names.as_long ∙ taken) whole
            (λ k before. is.are_names.each k (omega (arith, before, taken))
            ∙ ap (λ o. branch_of (text_of o)) (slice_get_taken rows first k before)) came.are_names.each;
      });
      kept_long = ap length bits_is
          ∙ omega (
            arith,
            length-append said sets,
            showed.as_long,
            forgot.as_long,
            is.kept_long,
            came.are_kept.as_long,
            taken,
            whole,
          );
      are_kept = subst (λ (bs : List ℕ). (r : ℕ) → r < length rows → TellsKept rows markers phases r (get_or bs r 0))
          (sym bits_is)
          (each_on (TellsKept rows markers phases) said sets 0 first rest (length rows)
          (showed.as_long ∙ forgot.as_long ∙ is.kept_long ∙ taken) whole
          (λ k before. kept_on rows markers phases was first known k kept left said gone shown came.first_within
          came.known_within before came.are_listed came.are_public (stay k before) (hidden k before) forgot showed
          (is.are_kept k (omega (arith, before, taken)))) came.are_kept.each);
    }
