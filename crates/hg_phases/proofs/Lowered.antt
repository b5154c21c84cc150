-- The walk down from the heads: what is listed is lowered, and at its end all that is to be lowered is listed.
use Rattle.std.proofs.Common.{◌≡◌, ◌≢◌, ◌⊎◌, ℕ, ◌+◌, ◌<◌, ◌≤◌, true, List, []}
use Rattle.std.proofs.Common.{◌∷◌, length, get_or, sum_by, Option, Some, refl, sym, ap, ◌∙◌, subst}
use Rattle.std.proofs.Common.{inl, inr, arith}
use Rattle.std.specs.List.{All}
use Rattle.std.proofs.lemmas.Bool.{cases_eq, cases_lt, cases_Bool, cond-true, cond-false}
use Rattle.std.proofs.lemmas.List.{get_or-set_same, get_or-set_other, get_or_append_left, get_or_push}
use Rattle.std.proofs.lemmas.List.{length_push, length-set, length-map, ext_get_or}
use Rattle.std.proofs.lemmas.List.Sums.{sum_by-set}
use Rattle.hg_types.specs.declared.phase.Phase.{Phase}
use Rattle.hg_types.specs.declared.phase.Phase.TheVariants.{Public}
use Rattle.hg_types.specs.Phase.{number_of}
use Rattle.hg_log.specs.Parents.{IsParentIn, AreOrdered, Leads}
use Rattle.hg_log.specs.Parents.Leads.{itself, of_parent}
use Rattle.hg_log.proofs.CallerLemmas.{leads_on}
use Rattle.hg_phases.specs.declared.standing.Standing.{Standing}
use Rattle.hg_phases.specs.declared.standing.Standing.TheVariants.{PublicOnPublic}
use Rattle.hg_phases.specs.Order.{lesser, phase_at}
use Rattle.hg_phases.specs.Phases.{is_reached, advanced, advanced_at, AreLawful}
use Rattle.hg_phases.specs.Standing.{standing_of, standing_at, phase_told, phases_told}
use Rattle.hg_phases.specs.code.Walk.{IsMoved, IsLowered, IsListed, AreLowered}
use Rattle.hg_phases.proofs.Numbers.{lesser_first, lesser_second}
use Rattle.hg_phases.proofs.Rising.{parent_below, reached_by, reached_from, advanced_length, advanced_is}
use Rattle.hg_phases.proofs.Told.{phase_of_standing}
use Rattle.hg_phases.proofs.Standings.{phase_at_told}

-- the number of a row's phase
abbrev pub height : Standing → ℕ
height row = number_of (phase_told row)

-- ---- one row

module _ (t : Phase) (row : Option ℕ) (now next : List Standing) (listed more : List ℕ) where
  moved_here : (moved : IsMoved t row now listed next more) → phase_told (standing_at next moved.rev) ≡ t
  moved_here moved =
      ap (λ (rows : List Standing). phase_told (standing_at rows moved.rev)) moved.rows
      ∙ ap phase_told (get_or-set_same now moved.rev (standing_of t t) PublicOnPublic moved.within)
      ∙ phase_of_standing t t

  moved_other : (moved : IsMoved t row now listed next more) → (r : ℕ) → r ≢ moved.rev
      → standing_at next r ≡ standing_at now r
  moved_other moved r other =
      ap (λ (rows : List Standing). standing_at rows r) moved.rows
      ∙ get_or-set_other now moved.rev r (standing_of t t) PublicOnPublic other

  -- what is low stays low
  pub low_stays : IsLowered t row now listed next more → (r : ℕ) → height (standing_at now r) ≤ number_of t
      → height (standing_at next r) ≤ number_of t
  low_stays (inl moved) r low = elim (cases_eq r moved.rev) [
    | inl e ↦ omega (arith, ap (λ (k : ℕ). height (standing_at next k)) e, ap number_of (moved_here moved))
    | inr other ↦ omega (arith, low, ap height (moved_other moved r other))
  ]
  low_stays (inr left) r low = omega (
    arith,
    low,
    ap (λ (rows : List Standing). height (standing_at rows r))
        left.rows,
  )

  -- and the row itself is low
  pub row_is_low : IsLowered t row now listed next more → (r : ℕ) → r < length now → row ≡ Some r
      → height (standing_at next r) ≤ number_of t
  row_is_low (inl moved) r within is =
      let here = moved.here in
      let same : moved.rev ≡ r = cc in
      omega (arith, ap (λ (k : ℕ). height (standing_at next k)) same, ap number_of (moved_here moved))
  row_is_low (inr left) r within is =
      omega (
        arith,
        left.below r is,
        ap number_of (phase_at_told now r within),
        ap (λ (rows : List Standing). height (standing_at rows r)) left.rows,
      )

  pub lowered_long : IsLowered t row now listed next more → length next ≡ length now
  lowered_long (inl moved) = ap length moved.rows ∙ length-set now moved.rev (standing_of t t)
  lowered_long (inr left) = ap length left.rows

  -- a row more is listed only where the phases come down
  pub comes_down : IsLowered t row now listed next more
      → sum_by height next + length more ≤ sum_by height now + length listed
  comes_down (inl moved) = omega (
    arith,
    ap (sum_by height) moved.rows,
    sum_by-set height now moved.rev (standing_of t t) PublicOnPublic moved.within,
    ap number_of (phase_of_standing t t),
    moved.above,
    ap number_of (phase_at_told now moved.rev moved.within),
    ap length moved.list,
    length_push listed moved.rev,
  )
  comes_down (inr left) = omega (arith, ap (sum_by height) left.rows, ap length left.list)

  -- the list goes on where it was
  pub list_stays : IsLowered t row now listed next more → (length listed ≤ length more)
      × ((k : ℕ) → k < length listed → get_or more k 0 ≡ get_or listed k 0)
  list_stays (inl moved) = (
    omega (arith, ap length moved.list, length_push listed moved.rev),
    λ k low. ap (λ (ks : List ℕ). get_or ks k 0) moved.list
        ∙ get_or_append_left listed (moved.rev ∷ []) 0 k low,
  )
  list_stays (inr left) = (
    omega (arith, ap length left.list),
    λ k low. ap (λ (ks : List ℕ). get_or ks k 0) left.list,
  )

  -- what is listed after it is the row
  pub list_ends : IsLowered t row now listed next more → (k : ℕ) → length listed ≤ k → k < length more
      → row ≡ Some (get_or more k 0)
  list_ends (inl moved) k from low =
      let last : length listed ≡ k = omega (
        arith,
        from,
        low,
        ap length moved.list,
        length_push listed moved.rev,
      ) in
      moved.here ∙ ap (λ (x : ℕ). Some x) (sym (ap (λ (ks : List ℕ). get_or ks k 0) moved.list
      ∙ get_or_push listed moved.rev 0 k last))
  list_ends (inr left) k from low = absurd (omega (arith, from, low, ap length left.list))

  pub list_within : IsLowered t row now listed next more → (n : ℕ) → n ≡ length now
      → All (λ (r : ℕ). r < n) listed → All (λ (r : ℕ). r < n) more
  list_within (inl moved) n len all k d low = elim (cases_eq k (length listed)) [
    | inl e ↦ omega (
      arith,
      moved.within,
      len,
      ap (λ (ks : List ℕ). get_or ks k d) moved.list,
      get_or_push listed moved.rev d k (sym e),
    )
    | inr other ↦
        let before : k < length listed = omega (
          arith,
          low,
          other,
          ap length moved.list,
          length_push listed moved.rev,
        ) in
        omega (
          arith,
          all k d before,
          ap (λ (ks : List ℕ). get_or ks k d) moved.list,
          get_or_append_left listed (moved.rev ∷ []) d k before,
        )
  ]
  list_within (inr left) n len all k d low =
      omega (
        arith,
        all k d (omega (arith, low, ap length left.list)),
        ap (λ (ks : List ℕ). get_or ks k d) left.list,
      )

-- ---- all rows

module _ (parents : ℕ → Option ℕ × Option ℕ) (t : Phase) (heads : List ℕ) (old : List Standing) where
  -- a row that is lowered, as it is to be
  pub record IsDown (now : List Standing) (listed : List ℕ) (r : ℕ) : Type 0 where
    pub reached : is_reached parents heads r ≡ true
    pub above : number_of t < height (standing_at old r)
    pub here : phase_told (standing_at now r) ≡ t
    pub place : IsListed listed r

  -- i heads are low, and so are the parents of the first rows of the list
  pub record AreWalked (i place : ℕ) (now : List Standing) (listed : List ℕ) : Type 0 where
    pub as_long : length now ≡ length old
    pub within : All (λ (r : ℕ). r < length old) listed
    pub reached : (k : ℕ) → k < length listed → is_reached parents heads (get_or listed k 0) ≡ true
    pub above : (k : ℕ) → k < length listed → number_of t < height (standing_at old (get_or listed k 0))
    pub each : (r : ℕ) → r < length old → (standing_at now r ≡ standing_at old r) ⊎ IsDown now listed r
    pub begun : (k : ℕ) → k < i → height (standing_at now (get_or heads k 0)) ≤ number_of t
    pub low : place ≤ length listed
    pub closed : (k : ℕ) → k < place → (p : ℕ) → IsParentIn parents p (get_or listed k 0)
        → height (standing_at now p) ≤ number_of t

  pub walked_start : (listed : List ℕ) → listed ≡ [] → AreWalked 0 0 old listed
  walked_start listed none = record {
    as_long = refl;
    within = λ k d low. absurd (omega (arith, low, ap (λ (ks : List ℕ). length ks) none));
    reached = λ k low. absurd (omega (arith, low, ap (λ (ks : List ℕ). length ks) none));
    above = λ k low. absurd (omega (arith, low, ap (λ (ks : List ℕ). length ks) none));
    each = λ r within. inl refl;
    begun = λ k low. absurd (omega (arith, low));
    low = omega arith;
    closed = λ k low p is. absurd (omega (arith, low));
  }

  module _ (i place : ℕ) (row : Option ℕ) (now next : List Standing) (listed more : List ℕ)
      (lowered : IsLowered t row now listed next more) (walked : AreWalked i place now listed) where
    -- the rows that were listed are so yet
    listed_yet : (r : ℕ) → IsListed listed r → IsListed more r
    listed_yet r at = let stays = list_stays t row now next listed more lowered in
        (at.0, (let low = at.1 in omega (arith, low, stays.0)), stays.1 at.0 at.1 ∙ at.2)

    each_moved : (moved : IsMoved t row now listed next more)
        → ((r : ℕ) → row ≡ Some r → is_reached parents heads r ≡ true) → (r : ℕ) → r < length old
        → (standing_at next r ≡ standing_at old r) ⊎ IsDown next more r
    each_moved moved reached r r_in = elim (cases_eq r moved.rev) [
      | inl e ↦ inr (record {
        reached = reached r (moved.here ∙ ap (λ (x : ℕ). Some x) (sym e));
        above = elim (walked.each r r_in) [
          | inl same ↦ omega (arith, was_above e, ap height same)
          | inr down ↦ down.above
        ];
        here = ap (λ (k : ℕ). phase_told (standing_at next k)) e
            ∙ moved_here t row now next listed more moved;
        place = (
          length listed,
          omega (arith, ap length moved.list, length_push listed moved.rev),
          ap (λ (ks : List ℕ). get_or ks (length listed) 0) moved.list
              ∙ get_or_push listed moved.rev 0 (length listed) refl ∙ sym e,
        );
      })
      | inr other ↦
          let same = moved_other t row now next listed more moved r other in
          elim (walked.each r r_in) [
            | inl before ↦ inl (same ∙ before)
            | inr down ↦ inr (record {
              reached = down.reached;
              above = down.above;
              here = ap phase_told same ∙ down.here;
              place = listed_yet r down.place;
            })
          ]
    ]
      where
        was_above : {r : ℕ} → r ≡ moved.rev → number_of t < height (standing_at now r)
        was_above {r} e = omega (
          arith,
          moved.above,
          ap number_of (phase_at_told now moved.rev moved.within),
          ap (λ (k : ℕ). height (standing_at now k)) e,
        )

    each_more : ((r : ℕ) → row ≡ Some r → is_reached parents heads r ≡ true) → (r : ℕ) → r < length old
        → (standing_at next r ≡ standing_at old r) ⊎ IsDown next more r
    each_more reached r r_in = by lowered
      where
        by : IsLowered t row now listed next more
            → (standing_at next r ≡ standing_at old r) ⊎ IsDown next more r
        by (inl moved) = each_moved moved reached r r_in
        by (inr left) =
            let same = ap (λ (rows : List Standing). standing_at rows r) left.rows in
            elim (walked.each r r_in) [
              | inl before ↦ inl (same ∙ before)
              | inr down ↦ inr (record {
                reached = down.reached;
                above = down.above;
                here = ap phase_told same ∙ down.here;
                place = listed_yet r down.place;
              })
            ]

    -- a row that is listed was above the target
    above_more : (k : ℕ) → length listed ≤ k → k < length more
        → number_of t < height (standing_at old (get_or more k 0))
    above_more k from low = by lowered
      where
        by : IsLowered t row now listed next more → number_of t < height (standing_at old (get_or more k 0))
        by (inl moved) =
            let last : length listed ≡ k = omega (
              arith,
              from,
              low,
              ap length moved.list,
              length_push listed moved.rev,
            ) in
            let e : get_or more k 0 ≡ moved.rev = ap (λ (ks : List ℕ). get_or ks k 0) moved.list
            ∙ get_or_push listed moved.rev 0 k last in
            let was : number_of t < height (standing_at now moved.rev) =
            omega (arith, moved.above, ap number_of (phase_at_told now moved.rev moved.within)) in
            let r_in : moved.rev < length old = omega (arith, moved.within, walked.as_long) in
            let before : number_of t < height (standing_at old moved.rev) =
            elim (walked.each moved.rev r_in) [
              | inl same ↦ omega (arith, was, ap height same)
              | inr down ↦ down.above
            ] in
            subst (λ (r : ℕ). number_of t < height (standing_at old r)) (sym e) before
        by (inr left) = absurd (omega (arith, from, low, ap length left.list))

    -- one row more that is reached
    pub walked_more : (j : ℕ) → ((r : ℕ) → row ≡ Some r → is_reached parents heads r ≡ true)
        → ((k : ℕ) → k < j → (k < i) ⊎ ((row ≡ Some (get_or heads k 0)) × (get_or heads k 0 < length now)))
        → AreWalked j place next more
    walked_more j reached which = record {
      as_long = lowered_long t row now next listed more lowered ∙ walked.as_long;
      within = list_within t row now next listed more lowered (length old) (sym walked.as_long)
          walked.within;
      reached = λ k low. elim (cases_lt k (length listed)) [
        | inl before ↦ ap (is_reached parents heads) (stays.1 k before) ∙ walked.reached k before
        | inr behind ↦ reached (get_or more k 0)
            (list_ends t row now next listed more lowered k behind low)
      ];
      above = λ k low. elim (cases_lt k (length listed)) [
        | inl before ↦ subst (λ (r : ℕ). number_of t < height (standing_at old r)) (sym (stays.1 k before))
            (walked.above k before)
        | inr behind ↦ above_more k behind low
      ];
      each = each_more reached;
      begun = λ k low. elim (which k low) [
        | inl before ↦ low_stays t row now next listed more lowered (get_or heads k 0)
            (walked.begun k before)
        | inr here ↦ row_is_low t row now next listed more lowered (get_or heads k 0) here.1 here.0
      ];
      low = omega (arith, walked.low, stays.0);
      closed = λ k low p is. low_stays t row now next listed more lowered p
          (walked.closed k low p
          (subst (IsParentIn parents p) (stays.1 k (omega (arith, low, walked.low))) is));
    }
      where
        stays : (length listed ≤ length more)
            × ((k : ℕ) → k < length listed → get_or more k 0 ≡ get_or listed k 0)
        stays = list_stays t row now next listed more lowered

  module _ (early : AreOrdered parents) where
    pub walked_head : (i head : ℕ) (now next : List Standing) (listed more : List ℕ)
        → IsLowered t (Some head) now listed next more → AreWalked i 0 now listed → i < length heads
        → head ≡ get_or heads i 0 → head < length old → AreWalked (i + 1) 0 next more
    walked_head i head now next listed more lowered walked low is within =
        walked_more i 0 (Some head) now next listed more lowered walked (i + 1)
        (λ r e. let same : head ≡ r = cc in
        reached_by parents heads r i early low
        (subst (λ x. Leads parents x (get_or heads i 0)) (sym is ∙ same) itself))
        (λ k k_low. elim (cases_eq k i) [
          | inl e ↦ inr (
            ap (λ (x : ℕ). Some x) (is ∙ ap (λ j. get_or heads j 0) (sym e)),
            omega (arith, within, walked.as_long, is, ap (λ j. get_or heads j 0) e),
          )
          | inr ne ↦ inl (omega (arith, k_low, ne))
        ])

    parent_reached : (p r : ℕ) → IsParentIn parents p r → is_reached parents heads r ≡ true
        → is_reached parents heads p ≡ true
    parent_reached p r is reached = let f = reached_from parents heads r early reached in
        reached_by parents heads p f.0 early f.1
        (leads_on parents p r (get_or heads f.0 0) (of_parent p r is itself) f.2)

    -- the parents of a listed row are low
    pub walked_row : (i place : ℕ) (p1 p2 : Option ℕ) (now one two : List Standing)
        (listed more most : List ℕ) → AreWalked i place now listed → place < length listed
        → p1 ≡ (parents (get_or listed place 0)).0 → p2 ≡ (parents (get_or listed place 0)).1
        → IsLowered t p1 now listed one more → IsLowered t p2 one more two most
        → AreWalked i (place + 1) two most
    walked_row i place p1 p2 now one two listed more most walked here first second to_one to_two = record {
      as_long = last.as_long;
      within = last.within;
      reached = last.reached;
      above = last.above;
      each = last.each;
      begun = last.begun;
      low = omega (arith, here, one_stays.0, two_stays.0);
      closed = λ k low p is. elim (cases_eq k place) [
        | inl e ↦ parent_low p (subst (IsParentIn parents p)
            (ap (λ (j : ℕ). get_or most j 0) e ∙ same) is)
        | inr other ↦ last.closed k (omega (arith, low, other)) p is
      ];
    }
      where
        row : ℕ
        row = get_or listed place 0

        one_stays : (length listed ≤ length more)
            × ((k : ℕ) → k < length listed → get_or more k 0 ≡ get_or listed k 0)
        one_stays = list_stays t p1 now one listed more to_one

        two_stays : (length more ≤ length most)
            × ((k : ℕ) → k < length more → get_or most k 0 ≡ get_or more k 0)
        two_stays = list_stays t p2 one two more most to_two

        same : get_or most place 0 ≡ get_or listed place 0
        same = two_stays.1 place (omega (arith, here, one_stays.0)) ∙ one_stays.1 place here

        row_in : get_or listed place 0 < length old
        row_in = walked.within place 0 here

        row_reached : is_reached parents heads (get_or listed place 0) ≡ true
        row_reached = walked.reached place here

        middle : AreWalked i place one more
        middle = walked_more i place p1 now one listed more to_one walked i
            (λ r e. parent_reached r (get_or listed place 0) (inl (sym first ∙ e)) row_reached)
            (λ k low. inl low)

        last : AreWalked i place two most
        last = walked_more i place p2 one two more most to_two middle i
            (λ r e. parent_reached r (get_or listed place 0) (inr (sym second ∙ e)) row_reached)
            (λ k low. inl low)

        parent_low : (p : ℕ) → IsParentIn parents p (get_or listed place 0)
            → height (standing_at two p) ≤ number_of t
        parent_low p (inl e) =
            let less : p < get_or listed place 0 = early p (get_or listed place 0) (inl e) in
            low_stays t p2 one two more most to_two p
            (row_is_low t p1 now one listed more to_one p (omega (arith, less, row_in, walked.as_long))
            (first ∙ e))
        parent_low p (inr e) =
            let less : p < get_or listed place 0 = early p (get_or listed place 0) (inr e) in
            row_is_low t p2 one two more most to_two p (omega (arith, less, row_in, middle.as_long))
            (second ∙ e)

    -- at the end the rows have the phases of the advance
    module _ (lawful : AreLawful parents (phases_told old)) (place : ℕ) (now : List Standing)
        (listed : List ℕ) (walked : AreWalked (length heads) place now listed) (all : length listed ≤ place)
        (within : (k : ℕ) → k < length heads → get_or heads k 0 < length old) where
      size : length (phases_told old) ≡ length old
      size = length-map old phase_told

      -- a low row is low yet
      low_yet : (r : ℕ) → r < length old → height (standing_at old r) ≤ number_of t
          → height (standing_at now r) ≤ number_of t
      low_yet r r_in low = elim (walked.each r r_in) [
        | inl same ↦ omega (arith, low, ap height same)
        | inr down ↦ omega (arith, ap number_of down.here)
      ]

      parent_is_low : (p r : ℕ) → r < length old → IsParentIn parents p r
          → height (standing_at now r) ≤ number_of t → height (standing_at now p) ≤ number_of t
      parent_is_low p r r_in is low =
          let less : p < r = early p r is in
          elim (walked.each r r_in) [
            | inl same ↦ low_yet p (omega (arith, less, r_in)) (omega (
              arith,
              low,
              ap height same,
              parent_below parents (phases_told old) p r is,
              lawful r (omega (arith, r_in, size)),
              ap number_of (phase_at_told old p (omega (arith, less, r_in))),
              ap number_of (phase_at_told old r r_in),
            ))
            | inr down ↦ let at = down.place in
                walked.closed at.0 (let k_in = at.1 in omega (arith, k_in, all)) p
                (subst (IsParentIn parents p) (sym at.2) is)
          ]

      down : (a r : ℕ) → Leads parents a r → r < length old → height (standing_at now r) ≤ number_of t
          → height (standing_at now a) ≤ number_of t
      down a r itself r_in low = low
      down a r (of_parent p q is more) r_in low =
          let less : p < q = early p q is in
          down a p more (omega (arith, less, r_in)) (parent_is_low p q r_in is low)

      reached_low : (r : ℕ) → is_reached parents heads r ≡ true → height (standing_at now r) ≤ number_of t
      reached_low r reached =
          let f = reached_from parents heads r early reached in
          down r (get_or heads f.0 0) f.2 (within f.0 f.1) (walked.begun f.0 f.1)

      phase_is : (r : ℕ) → r < length old
          → phase_at (phases_told now) r ≡ advanced_at parents t heads (phases_told old) r
      phase_is r r_in =
          let now_told = phase_at_told now r (omega (arith, r_in, walked.as_long)) in
          let old_told = phase_at_told old r r_in in
          now_told ∙ elim (walked.each r r_in) [
            | inl same ↦ ap phase_told same ∙ sym old_told ∙ elim (cases_Bool (is_reached parents heads r)) [
              | inl reached ↦ sym (cond-true (is_reached parents heads r)
                  (lesser t (phase_at (phases_told old) r)) (phase_at (phases_told old) r) reached
                  ∙ lesser_second t (phase_at (phases_told old) r)
                  (omega (arith, reached_low r reached, ap height same, ap number_of old_told)))
              | inr apart ↦ sym (cond-false (is_reached parents heads r)
                  (lesser t (phase_at (phases_told old) r)) (phase_at (phases_told old) r) apart)
            ]
            | inr down ↦ down.here ∙ sym (cond-true (is_reached parents heads r)
                (lesser t (phase_at (phases_told old) r)) (phase_at (phases_told old) r) down.reached
                ∙ lesser_first t (phase_at (phases_told old) r)
                (omega (arith, down.above, ap number_of old_told)))
          ]

      pub walked_all : AreLowered parents t heads old now listed
      walked_all = record {
        as_long = walked.as_long;
        within = walked.within;
        phases = ext_get_or Public (phases_told now) (advanced parents t heads (phases_told old))
            (length-map now phase_told ∙ walked.as_long ∙ sym size
            ∙ sym (advanced_length parents early t heads (phases_told old) lawful))
            (λ r r_in. let in_old : r < length old = omega (
              arith,
              r_in,
              length-map now phase_told,
              walked.as_long,
            ) in
            phase_is r in_old
            ∙ sym (advanced_is parents early t heads (phases_told old) lawful r (omega (arith, in_old, size))));
        above = λ k low.
            let over : number_of t < number_of (phase_at (phases_told old) (get_or listed k 0)) = omega (
              arith,
              walked.above k low,
              ap number_of (phase_at_told old (get_or listed k 0) (walked.within k 0 low)),
            ) in
            over;
        lowered = λ k low.
            let r = get_or listed k 0 in
            let r_in : r < length old = walked.within k 0 low in
            phase_at_told now r (omega (arith, r_in, walked.as_long)) ∙ elim (walked.each r r_in) [
              | inl same ↦ absurd (omega (
                arith,
                walked.above k low,
                reached_low r (walked.reached k low),
                ap height same,
              ))
              | inr down ↦ down.here
            ];
        each = λ r r_in. elim (walked.each r r_in) [ inl same ↦ inl same | inr down ↦ inr down.place ];
      }
