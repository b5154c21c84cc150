-- What each change leaves of the order of rows in `ChildCounts`.
use Rattle.std.proofs.Common.{◌≡◌, ◌≢◌, ◌↔◌, ℕ, ◌+◌, ◌-◌, ◌<◌, ◌≤◌, ◌^◌, List, [], ◌∷◌, ◌++◌, length, take}
use Rattle.std.proofs.Common.{set, Contains, AllPairs, get_or, slice_index, refl, sym, ap, ◌∙◌, subst, ⊎_elim}
use Rattle.std.proofs.Common.{arith, length-append}
use Rattle.std.proofs.lemmas.List.{length-set, length-take-le, get_or-set_same, get_or-set_other, get_or-take}
use Rattle.std.proofs.lemmas.List.{get_or_append_left, get_or_push, length_push, set_at, take-set}
use Rattle.std.proofs.lemmas.List.{get_or_default}
use Rattle.std.proofs.lemmas.Bool.{cases_eq, cases_lt}
use Rattle.hg_log.specs.code.ChildCounts.{AreInverse, AreExchanged, AreKept}

-- two rows at one place are one row
same_row : (order places : List ℕ) (a b : ℕ) → AreInverse order places → a < length order → b < length order
    → slice_index places a ≡ slice_index places b → a ≡ b
same_row order places a b inverse a_in b_in same = sym (inverse.at_row a a_in).1 ∙ ap (slice_index order) same
    ∙ (inverse.at_row b b_in).1

-- a write of a count, where the rows without children are as the first places say
module _ (counts order places : List ℕ) (n m row value : ℕ) (o p : List ℕ)
    (kept : AreKept counts order places n) (inverse : AreInverse o p) (as_long : length o ≡ length order)
    (within : row < length counts) (most : m ≤ length counts)
    (here : (slice_index p row < m) ↔ (value ≡ 0))
    (there : (r : ℕ) → r < length counts → r ≢ row → (slice_index p r < m) ↔ (slice_index counts r ≡ 0)) where
  kept_written : AreKept (set counts row value) o p m
  kept_written = record {
    as_long = as_long ∙ kept.as_long ∙ sym (length-set counts row value);
    few = rw length-set kept.few;
    inverse = inverse;
    within = rw length-set most;
    first = λ r r_in. first r (rw length-set at r_in);
  }
    where
      first : (r : ℕ) → r < length counts → (slice_index p r < m) ↔ (slice_index (set counts row value) r ≡ 0)
      first r r_in = ⊎_elim
          (λ e. let at : slice_index (set counts row value) r ≡ value = rw e
          (get_or-set_same counts row value 0 within) in
          rw at (subst (λ x. (slice_index p x < m) ↔ (value ≡ 0)) (sym e) here))
          (λ ne. rw (get_or-set_other counts row r value 0 ne) (there r r_in ne))
          (cases_eq r row)

-- a row that has children gets one more
pub kept_more : (counts order places : List ℕ) (n row : ℕ) → AreKept counts order places n
    → row < length counts → slice_index counts row ≢ 0
    → AreKept (set counts row (slice_index counts row + 1)) order places n
kept_more counts order places n row kept within some =
    kept_written counts order places n n row _ order places kept kept.inverse refl within kept.within
    ((λ low. absurd (some ((kept.first row within).0 low))), (λ none. absurd (omega (arith, none))))
    (λ r r_in ne. kept.first r r_in)

-- a row with more than one child has one less
pub kept_fewer : (counts order places : List ℕ) (n row : ℕ) → AreKept counts order places n
    → row < length counts → 1 < slice_index counts row
    → AreKept (set counts row (slice_index counts row - 1)) order places n
kept_fewer counts order places n row kept within some =
    kept_written counts order places n n row _ order places kept kept.inverse refl within kept.within (
      (λ low. let none : slice_index counts row ≡ 0 = (kept.first row within).0 low in absurd (omega arith)),
      (λ none. absurd (omega (arith, none))),
    )
    (λ r r_in ne. kept.first r r_in)

-- a row gets its first child, and leaves the front
pub kept_left : (counts order places o p : List ℕ) (n row : ℕ) → AreKept counts order places n
    → row < length counts → slice_index counts row ≡ 0
    → AreExchanged order places o p (slice_index places row) (n - 1)
    → AreKept (set counts row (slice_index counts row + 1)) o p (n - 1)
kept_left counts order places o p n row kept within none moved =
    let len : length order ≡ length counts = kept.as_long in
    let front : slice_index places row < n = (kept.first row within).1 none in
    let row_in : row < length order = omega arith in
    let back : slice_index order (slice_index places row) ≡ row = (kept.inverse.at_row row row_in).1 in
    let most : n ≤ length counts = kept.within in
    let last_in : n - 1 < length order = omega arith in
    let last_at = kept.inverse.at_place (n - 1) last_in in
    let now : slice_index p row ≡ n - 1 = rw back at moved.at_first in
    let other : slice_index p (slice_index order (n - 1)) ≡ slice_index places row = moved.at_second in
    kept_written counts order places n (n - 1) row _ o p kept moved.inverse moved.as_long within (omega arith)
    ((λ low. absurd (omega (arith, now, low))), (λ some. absurd (omega (arith, some))))
    (λ r r_in ne. ⊎_elim
    (λ e.
    let at : slice_index p r ≡ slice_index places row = rw e other in
    let apart : slice_index places row ≢ n - 1 = λ same.
    ne (e ∙ sym (same_row order places row (slice_index order (n - 1)) kept.inverse row_in last_at.0 (same
    ∙ sym last_at.1))) in
    let was : slice_index places r ≡ n - 1 = rw e last_at.1 in
    ((λ low. (kept.first r r_in).0 (omega arith)), (λ zero. omega arith)))
    (λ apart.
    let at : slice_index p r ≡ slice_index places r = moved.others r (λ e. ne (e ∙ back)) apart in
    let r_at : r < length order = omega arith in
    let not_last : slice_index places r ≢ n - 1 = λ same.
    apart (same_row order places r (slice_index order (n - 1)) kept.inverse r_at last_at.0 (same
    ∙ sym last_at.1)) in (
      (λ low. (kept.first r r_in).0 (omega arith)),
      (λ zero. let low : slice_index places r < n = (kept.first r r_in).1 zero in omega arith),
    ))
    (cases_eq r (slice_index order (n - 1))))

-- a row loses its only child, and joins the front
pub kept_joined : (counts order places o p : List ℕ) (n row : ℕ) → AreKept counts order places n
    → row < length counts → slice_index counts row ≡ 1
    → AreExchanged order places o p (slice_index places row) n
    → AreKept (set counts row (slice_index counts row - 1)) o p (n + 1)
kept_joined counts order places o p n row kept within one moved =
    let len : length order ≡ length counts = kept.as_long in
    let row_in : row < length order = omega arith in
    let back = kept.inverse.at_row row row_in in
    let not_front : n ≤ slice_index places row = ⊎_elim
    (λ low. let none : slice_index counts row ≡ 0 = (kept.first row within).0 low in absurd (omega arith))
    (λ ge. ge) (cases_lt (slice_index places row) n) in
    let n_in : n < length order = omega (arith, back.0) in
    let other_at = kept.inverse.at_place n n_in in
    let now : slice_index p row ≡ n = rw back.1 at moved.at_first in
    let other : slice_index p (slice_index order n) ≡ slice_index places row = moved.at_second in
    kept_written counts order places n (n + 1) row _ o p kept moved.inverse moved.as_long within (omega arith)
    ((λ low. omega arith), (λ zero. omega arith))
    (λ r r_in ne. ⊎_elim
    (λ e.
    let at : slice_index p r ≡ slice_index places row = rw e other in
    let apart : slice_index places row ≢ n = λ same.
    ne (e ∙ sym (same_row order places row (slice_index order n) kept.inverse row_in other_at.0 (same
    ∙ sym other_at.1))) in
    let was : slice_index places r ≡ n = rw e other_at.1 in (
      (λ low. absurd (omega arith)),
      (λ zero. let low : slice_index places r < n = (kept.first r r_in).1 zero in absurd (omega arith)),
    ))
    (λ apart.
    let at : slice_index p r ≡ slice_index places r = moved.others r (λ e. ne (e ∙ back.1)) apart in
    let r_at : r < length order = omega arith in
    let not_n : slice_index places r ≢ n = λ same.
    apart (same_row order places r (slice_index order n) kept.inverse r_at other_at.0 (same
    ∙ sym other_at.1)) in (
      (λ low. (kept.first r r_in).0 (omega arith)),
      (λ zero. let low : slice_index places r < n = (kept.first r r_in).1 zero in omega arith),
    ))
    (cases_eq r (slice_index order n)))

-- one more row at the end of the order
pub inverse_pushed : (order places : List ℕ) → AreInverse order places
    → AreInverse (order ++ length order ∷ []) (places ++ length order ∷ [])
inverse_pushed order places inverse = record {
  as_long = simp length-append (omega (arith, inverse.as_long));
  at_row = λ r r_in. at_row r (omega (arith, length_push order (length order), r_in));
  at_place = λ r r_in. at_place r (omega (arith, length_push order (length order), r_in));
}
  where
    more : length (order ++ length order ∷ []) ≡ length order + 1
    more = length_push order (length order)

    at_row : (r : ℕ) → r < length order + 1
        → (slice_index (places ++ length order ∷ []) r < length (order ++ length order ∷ []))
        × (slice_index (order ++ length order ∷ []) (slice_index (places ++ length order ∷ []) r) ≡ r)
    at_row r r_in = ⊎_elim
        (λ low. let old = inverse.at_row r low in
        let same : slice_index (places ++ length order ∷ []) r ≡ slice_index places r =
        get_or_append_left places (length order ∷ []) 0 r (omega (arith, inverse.as_long)) in (
          omega (arith, more, same, old.0),
          ap (slice_index (order ++ length order ∷ [])) same
              ∙ get_or_append_left order (length order ∷ []) 0 (slice_index places r) old.0 ∙ old.1,
        ))
        (λ high. let e : r ≡ length order = omega arith in
        let same : slice_index (places ++ length order ∷ []) r ≡ length order = get_or_push places
        (length order) 0 r (inverse.as_long ∙ sym e) in (
          omega (arith, more, same),
          ap (slice_index (order ++ length order ∷ [])) same
              ∙ get_or_push order (length order) 0 (length order) refl ∙ sym e,
        ))
        (cases_lt r (length order))

    at_place : (r : ℕ) → r < length order + 1
        → (slice_index (order ++ length order ∷ []) r < length (order ++ length order ∷ []))
        × (slice_index (places ++ length order ∷ []) (slice_index (order ++ length order ∷ []) r) ≡ r)
    at_place r r_in = ⊎_elim
        (λ low. let old = inverse.at_place r low in
        let same : slice_index (order ++ length order ∷ []) r ≡ slice_index order r = get_or_append_left order
        (length order ∷ []) 0 r low in (
          omega (arith, more, same, old.0),
          ap (slice_index (places ++ length order ∷ [])) same
              ∙ get_or_append_left places (length order ∷ []) 0 (slice_index order r)
              (omega (arith, inverse.as_long, old.0)) ∙ old.1,
        ))
        (λ high. let e : r ≡ length order = omega arith in
        let same : slice_index (order ++ length order ∷ []) r ≡ length order = get_or_push order
        (length order) 0 r (sym e) in (
          omega (arith, more, same),
          ap (slice_index (places ++ length order ∷ [])) same
              ∙ get_or_push places (length order) 0 (length order) inverse.as_long ∙ sym e,
        ))
        (cases_lt r (length order))

-- a row that counts a child, at the end of the order
pub kept_pushed : (counts order places : List ℕ) (n : ℕ) → AreKept counts order places n
    → length counts + 1 < 2 ^ 32
    → AreKept (counts ++ 1 ∷ []) (order ++ length order ∷ []) (places ++ length order ∷ []) n
kept_pushed counts order places n kept few = record {
  as_long = simp length-append (omega (arith, kept.as_long));
  few = omega (arith, length_push counts 1);
  inverse = inverse_pushed order places kept.inverse;
  within = omega (arith, length_push counts 1, kept.within);
  first = λ r r_in. first r (omega (arith, length_push counts 1, r_in));
}
  where
    len : length places ≡ length counts
    len = kept.inverse.as_long ∙ kept.as_long

    first : (r : ℕ) → r < length counts + 1
        → (slice_index (places ++ length order ∷ []) r < n) ↔ (slice_index (counts ++ 1 ∷ []) r ≡ 0)
    first r r_in = ⊎_elim
        (λ low. let a : slice_index (places ++ length order ∷ []) r ≡ slice_index places r =
        get_or_append_left places (length order ∷ []) 0 r (omega (arith, len)) in
        let b : slice_index (counts ++ 1 ∷ []) r ≡ slice_index counts r = get_or_append_left counts (1
        ∷ []) 0 r low in
        let old = kept.first r low in (
          (λ h. b ∙ old.0 (omega (arith, a, h))),
          (λ h. let g : slice_index places r < n = old.1 (sym b ∙ h) in
              omega (arith, a, g)),
        ))
        (λ high. let e : r ≡ length counts = omega arith in
        let a : slice_index (places ++ length order ∷ []) r ≡ length order = get_or_push places
        (length order) 0 r (len ∙ sym e) in
        let b : slice_index (counts ++ 1 ∷ []) r ≡ 1 = get_or_push counts 1 0 r (sym e) in
        ((λ h. absurd (omega (arith, a, h, kept.within, kept.as_long))), (λ h. absurd (omega (arith, b, h)))))
        (cases_lt r (length counts))

-- one more row without children, brought to the front
pub kept_new : (counts order places o p : List ℕ) (n : ℕ) → AreKept counts order places n
    → length counts + 1 < 2 ^ 32
    → AreExchanged (order ++ length order ∷ []) (places ++ length order ∷ []) o p (length order) n
    → AreKept (counts ++ 0 ∷ []) o p (n + 1)
kept_new counts order places o p n kept few moved =
    let pushed = kept_pushed counts order places n kept few in
    let within : length counts < length (counts ++ 1 ∷ []) = omega (arith, length_push counts 1) in
    let one : slice_index (counts ++ 1 ∷ []) (length counts) ≡ 1 = get_or_push counts 1 0
    (length counts) refl in
    let at : slice_index (places ++ length order ∷ []) (length counts) ≡ length order = get_or_push places
    (length order) 0 (length counts) (kept.inverse.as_long ∙ kept.as_long) in
    let done = kept_joined (counts ++ 1 ∷ []) _ _ o p n (length counts) pushed within one (rw at moved) in
    let same : set (counts ++ 1 ∷ []) (length counts)
    (slice_index (counts ++ 1 ∷ []) (length counts) - 1) ≡ counts ++ 0
    ∷ [] = ap (λ v. set (counts ++ 1 ∷ []) (length counts) (v - 1)) one
    ∙ set_at counts 1 [] 0 (length counts) refl in
    subst (λ cs. AreKept cs o p (n + 1)) same done

-- two rows that are not in the front change places
pub kept_behind : (counts order places o p : List ℕ) (n first second : ℕ) → AreKept counts order places n
    → n ≤ first → n ≤ second → first < length order → second < length order
    → AreExchanged order places o p first second → AreKept counts o p n
kept_behind counts order places o p n first second kept first_out second_out first_in second_in moved =
    record {
      as_long = moved.as_long ∙ kept.as_long;
      few = kept.few;
      inverse = moved.inverse;
      within = kept.within;
      first = each;
    }
  where
    one : slice_index places (slice_index order first) ≡ first
    one = (kept.inverse.at_place first first_in).1

    two : slice_index places (slice_index order second) ≡ second
    two = (kept.inverse.at_place second second_in).1

    each : (r : ℕ) → r < length counts → (slice_index p r < n) ↔ (slice_index counts r ≡ 0)
    each r r_in = ⊎_elim
        (λ e. let now : slice_index p r ≡ second = rw e moved.at_first in
        let was : slice_index places r ≡ first = rw e one in (
          (λ h. absurd (omega arith)),
          (λ zero. let low : slice_index places r < n = (kept.first r r_in).1 zero in
              absurd (omega arith)),
        ))
        (λ not_first. ⊎_elim
        (λ e. let now : slice_index p r ≡ first = rw e moved.at_second in
        let was : slice_index places r ≡ second = rw e two in (
          (λ h. absurd (omega arith)),
          (λ zero. let low : slice_index places r < n = (kept.first r r_in).1 zero in
              absurd (omega arith)),
        ))
        (λ not_second. rw (moved.others r not_first not_second) (kept.first r r_in))
        (cases_eq r (slice_index order second)))
        (cases_eq r (slice_index order first))

-- the last row, which stands at the last place and not in the front, is taken away
pub kept_cut : (counts order places : List ℕ) (n last : ℕ) → AreKept counts order places n
    → length counts ≡ last + 1 → n ≤ last → slice_index places last ≡ last
    → AreKept (take last counts) (take last order) (take last places) n
kept_cut counts order places n last kept len out stands = record {
  as_long = lo ∙ sym lc;
  few = omega (arith, lc, kept.few);
  inverse = record {
    as_long = lp ∙ sym lo;
    at_row = λ r r_in. at_row r (omega (arith, lo, r_in));
    at_place = λ r r_in. at_place r (omega (arith, lo, r_in));
  };
  within = omega (arith, lc);
  first = λ r r_in. let low : r < last = omega (arith, lc, r_in) in
      rw (get_or-take last places r 0 low, get_or-take last counts r 0 low) (kept.first r (omega arith));
}
  where
    ao : length order ≡ length counts
    ao = kept.as_long

    ap' : length places ≡ length order
    ap' = kept.inverse.as_long

    lc : length (take last counts) ≡ last
    lc = length-take-le last counts (omega arith)

    lo : length (take last order) ≡ last
    lo = length-take-le last order (omega (arith, ao))

    lp : length (take last places) ≡ last
    lp = length-take-le last places (omega (arith, ao, ap'))

    last_in : last < length order
    last_in = omega (arith, ao)

    at_row : (r : ℕ) → r < last → (slice_index (take last places) r < length (take last order))
        × (slice_index (take last order) (slice_index (take last places) r) ≡ r)
    at_row r low =
        let old = kept.inverse.at_row r (omega (arith, ao)) in
        let apart : slice_index places r ≢ last = λ e. let same : r ≡ last =
        same_row order places r last kept.inverse (omega (arith, ao)) last_in (e ∙ sym stands) in
        absurd (omega arith) in
        let at : slice_index (take last places) r ≡ slice_index places r = get_or-take last places r 0 low in
        let below : slice_index places r < last = omega (arith, old.0, ao, len, apart) in (
          omega (arith, at, lo, below),
          ap (slice_index (take last order)) at ∙ get_or-take last order
              (slice_index places r) 0 below ∙ old.1,
        )

    at_place : (r : ℕ) → r < last → (slice_index (take last order) r < length (take last order))
        × (slice_index (take last places) (slice_index (take last order) r) ≡ r)
    at_place r low =
        let old = kept.inverse.at_place r (omega (arith, ao)) in
        let apart : slice_index order r ≢ last = λ e. let same : r ≡ last = sym old.1
        ∙ ap (slice_index places) e ∙ stands in absurd (omega arith) in
        let at : slice_index (take last order) r ≡ slice_index order r = get_or-take last order r 0 low in
        let below : slice_index order r < last = omega (arith, old.0, ao, len, apart) in (
          omega (arith, at, lo, below),
          ap (slice_index (take last places)) at ∙ get_or-take last places
              (slice_index order r) 0 below ∙ old.1,
        )

-- the last row, without children, is brought out of the front to the last place, and is taken away
pub kept_popped : (counts order places o p o2 p2 : List ℕ) (n last : ℕ) → AreKept counts order places n
    → length counts ≡ last + 1 → slice_index counts last ≡ 0
    → AreExchanged order places o p (slice_index places last) (n - 1) → AreExchanged o p o2 p2 (n - 1) last
    → AreKept (take last counts) (take last o2) (take last p2) (n - 1)
kept_popped counts order places o p o2 p2 n last kept len none moved again =
    let within : last < length counts = omega arith in
    let front : slice_index places last < n = (kept.first last within).1 none in
    let most : n ≤ length counts = kept.within in
    let lo : length o ≡ length counts = moved.as_long ∙ kept.as_long in
    let left = kept_left counts order places o p n last kept within none moved in
    let stands : slice_index p last ≡ n - 1 =
    rw ((kept.inverse.at_row last (omega (arith, kept.as_long))).1) at moved.at_first in
    let at_front : slice_index o (n - 1) ≡ last = ap (slice_index o) (sym stands)
    ∙ (moved.inverse.at_row last (omega (arith, lo))).1 in
    let behind = kept_behind _ o p o2 p2 (n - 1) (n - 1) last left (omega arith) (omega arith)
    (omega (arith, lo)) (omega (arith, lo)) again in
    let stands_last : slice_index p2 last ≡ last = rw at_front at again.at_first in
    let cut = kept_cut _ o2 p2 (n - 1) last behind (length-set counts last _ ∙ len)
    (omega arith) stands_last in
    subst (λ cs. AreKept cs (take last o2) (take last p2) (n - 1)) (take-set counts last _) cut

-- the two writes to the order and the two to the places
module _ (order places : List ℕ) (first second : ℕ) (inverse : AreInverse order places)
    (first_in : first < length order) (second_in : second < length order) where
  moved : ℕ
  moved = slice_index order first

  other : ℕ
  other = slice_index order second

  new_order : List ℕ
  new_order = set (set order first (slice_index order second)) second (slice_index order first)

  new_places : List ℕ
  new_places = set (set places (slice_index order first) second) (slice_index order second) first

  moved_in : moved < length places
  unfolding moved
  moved_in = omega (arith, (inverse.at_place first first_in).0, inverse.as_long)

  moved_at : slice_index places moved ≡ first
  unfolding moved
  moved_at = (inverse.at_place first first_in).1

  other_in : other < length places
  unfolding other
  other_in = omega (arith, (inverse.at_place second second_in).0, inverse.as_long)

  other_at : slice_index places other ≡ second
  unfolding other
  other_at = (inverse.at_place second second_in).1

  order_len : length new_order ≡ length order
  unfolding new_order
  order_len = length-set (set order first (slice_index order second)) second _ ∙ length-set order first _

  places_len : length new_places ≡ length places
  unfolding new_places
  places_len = length-set (set places (slice_index order first) second) (slice_index order second) first
      ∙ length-set places _ second

  -- what stands where
  place_of_other : slice_index new_places other ≡ first
  unfolding new_places other
  place_of_other = get_or-set_same (set places (slice_index order first) second)
      (slice_index order second) first 0
      (omega (arith, other_in, length-set places (slice_index order first) second))

  place_of_moved : slice_index new_places moved ≡ second
  unfolding new_places moved other
  place_of_moved = ⊎_elim
      (λ same. ap (slice_index new_places) same ∙ place_of_other ∙ sym moved_at ∙ ap (slice_index places) same
      ∙ other_at)
      (λ apart. get_or-set_other (set places (slice_index order first) second) (slice_index order second)
      (slice_index order first) first 0 apart
      ∙ get_or-set_same places (slice_index order first) second 0 moved_in)
      (cases_eq moved other)

  place_of_rest : (row : ℕ) → row ≢ moved → row ≢ other → slice_index new_places row ≡ slice_index places row
  unfolding new_places moved other
  place_of_rest row not_moved not_other =
      get_or-set_other (set places (slice_index order first) second)
      (slice_index order second) row first 0 not_other
      ∙ get_or-set_other places (slice_index order first) row second 0 not_moved

  at_second : slice_index new_order second ≡ moved
  unfolding new_order moved
  at_second = get_or-set_same (set order first (slice_index order second)) second (slice_index order first) 0
      (omega (arith, second_in, length-set order first (slice_index order second)))

  at_first : slice_index new_order first ≡ other
  unfolding new_order moved other
  at_first = ⊎_elim
      (λ same. ap (slice_index new_order) same ∙ at_second ∙ ap (slice_index order) same)
      (λ apart. get_or-set_other (set order first (slice_index order second)) second first
      (slice_index order first) 0 apart
      ∙ get_or-set_same order first (slice_index order second) 0 first_in)
      (cases_eq first second)

  at_rest : (place : ℕ) → place ≢ first → place ≢ second
      → slice_index new_order place ≡ slice_index order place
  unfolding new_order
  at_rest place not_first not_second =
      get_or-set_other (set order first (slice_index order second)) second place
      (slice_index order first) 0 not_second
      ∙ get_or-set_other order first place (slice_index order second) 0 not_first

  at_row : (row : ℕ) → row < length order → (slice_index new_places row < length order)
      × (slice_index new_order (slice_index new_places row) ≡ row)
  unfolding moved other
  at_row row row_in = ⊎_elim
      (λ same. let at : slice_index new_places row ≡ first = ap (slice_index new_places) same
      ∙ place_of_other in
      (omega (arith, at), ap (slice_index new_order) at ∙ at_first ∙ sym same))
      (λ not_other. ⊎_elim
      (λ same. let at : slice_index new_places row ≡ second = ap (slice_index new_places) same
      ∙ place_of_moved in
      (omega (arith, at), ap (slice_index new_order) at ∙ at_second ∙ sym same))
      (λ not_moved. let at : slice_index new_places row ≡ slice_index places row =
      place_of_rest row not_moved not_other in
      let old = inverse.at_row row row_in in (
        omega (arith, at, old.0),
        ap (slice_index new_order) at
            ∙ at_rest (slice_index places row) (λ e. not_moved (sym old.1 ∙ ap (slice_index order) e))
            (λ e. not_other (sym old.1 ∙ ap (slice_index order) e)) ∙ old.1,
      ))
      (cases_eq row moved))
      (cases_eq row other)

  at_place : (place : ℕ) → place < length order → (slice_index new_order place < length order)
      × (slice_index new_places (slice_index new_order place) ≡ place)
  unfolding moved other
  at_place place place_in = ⊎_elim
      (λ same. let at : slice_index new_order place ≡ moved = ap (slice_index new_order) same ∙ at_second in (
        omega (arith, at, moved_in, inverse.as_long),
        ap (slice_index new_places) at ∙ place_of_moved
            ∙ sym same,
      ))
      (λ not_second. ⊎_elim
      (λ same. let at : slice_index new_order place ≡ other = ap (slice_index new_order) same ∙ at_first in (
        omega (arith, at, other_in, inverse.as_long),
        ap (slice_index new_places) at ∙ place_of_other
            ∙ sym same,
      ))
      (λ not_first. let at : slice_index new_order place ≡ slice_index order place =
      at_rest place not_first not_second in
      let old = inverse.at_place place place_in in (
        omega (arith, at, old.0),
        ap (slice_index new_places) at
            ∙ place_of_rest (slice_index order place)
            (λ e. not_first (sym old.1 ∙ ap (slice_index places) e ∙ moved_at))
            (λ e. not_second (sym old.1 ∙ ap (slice_index places) e ∙ other_at)) ∙ old.1,
      ))
      (cases_eq place first))
      (cases_eq place second)

  pub exchanged : AreExchanged order places
      (set (set order first (slice_index order second)) second (slice_index order first))
      (set (set places (slice_index order first) second) (slice_index order second) first) first second
  unfolding new_order new_places moved other
  exchanged = record {
    inverse = record {
      as_long = places_len ∙ inverse.as_long ∙ sym order_len;
      at_row = λ row row_in. let low : row < length order = omega (arith, order_len, row_in) in
          let at = at_row row low in (omega (arith, order_len, at.0), at.1);
      at_place = λ place place_in. let low : place < length order = omega (arith, order_len, place_in) in
          let at = at_place place low in (omega (arith, order_len, at.0), at.1);
    };
    as_long = order_len;
    at_first = place_of_moved;
    at_second = place_of_other;
    others = place_of_rest;
  }

-- the rows in the front are those without children, each once
pub first_each : (counts order places : List ℕ) (n : ℕ) → AreKept counts order places n → (row : ℕ)
    → Contains (take n order) row ↔ ((row < length counts) × (slice_index counts row ≡ 0))
first_each counts order places n kept row = (there, here)
  where
    len : length (take n order) ≡ n
    len = length-take-le n order (omega (arith, kept.within, kept.as_long))

    there : Contains (take n order) row → (row < length counts) × (slice_index counts row ≡ 0)
    there found =
        let low : found.0 < n = omega (arith, len, found.1) in
        let within : found.0 < length order = omega (arith, kept.within, kept.as_long) in
        let at = kept.inverse.at_place found.0 within in
        let is : slice_index order found.0 ≡ row = get_or_default order found.0 0 row within
        ∙ sym (get_or-take n order found.0 row low) ∙ found.2 in
        let row_in : row < length counts = omega (arith, is, at.0, kept.as_long) in
        let place : slice_index places row ≡ found.0 = ap (slice_index places) (sym is) ∙ at.1 in
        (row_in, (kept.first row row_in).0 (omega (arith, place)))

    here : (row < length counts) × (slice_index counts row ≡ 0) → Contains (take n order) row
    here (row_in, none) =
        let low : slice_index places row < n = (kept.first row row_in).1 none in
        let at = kept.inverse.at_row row (omega (arith, kept.as_long)) in (
          slice_index places row,
          omega (arith, len, low),
          get_or-take n order (slice_index places row) row low
              ∙ get_or_default order (slice_index places row) row 0 at.0 ∙ at.1,
        )

pub first_distinct : (counts order places : List ℕ) (n : ℕ) → AreKept counts order places n
    → AllPairs (λ a b. a ≢ b) (take n order)
first_distinct counts order places n kept i j d less j_in same =
    let len : length (take n order) ≡ n = length-take-le n order (omega (arith, kept.within, kept.as_long)) in
    let j_low : j < n = omega (arith, len, j_in) in
    let j_at : j < length order = omega (arith, kept.within, kept.as_long) in
    let i_at : i < length order = omega (arith, j_at) in
    let i_is : slice_index order i ≡ get_or (take n order) i d = get_or_default order i 0 d i_at
    ∙ sym (get_or-take n order i d (omega arith)) in
    let j_is : slice_index order j ≡ get_or (take n order) j d = get_or_default order j 0 d j_at
    ∙ sym (get_or-take n order j d j_low) in
    let both : i ≡ j = sym (kept.inverse.at_place i i_at).1 ∙ ap (slice_index places) (i_is ∙ same ∙ sym j_is)
    ∙ (kept.inverse.at_place j j_at).1 in
    absurd (omega arith)
