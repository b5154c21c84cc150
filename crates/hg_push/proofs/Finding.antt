-- A row at its place, and after a write there.
use Rattle.std.proofs.Common.{ℕ, Bool, true, false, ◌≡◌, ◌≢◌, ◌==◌, ◌<◌, ◌≤◌, List, [], ◌∷◌, refl, sym, ◌∙◌}
use Rattle.std.proofs.Common.{ap, cond, arith, Some, None, map, length, zero, suc}
use Rattle.std.specs.Prelude.{find, slice_get, position, nat_lt}
use Rattle.std.specs.List.{position_or_len}
use Rattle.std.proofs.Math.ListN.{set, get_or}
use Rattle.std.proofs.lemmas.Bool.Decides.{nat_tests}
use Rattle.std.proofs.lemmas.List.Folds.{find_at, find-set, find_past}
use Rattle.std.proofs.lemmas.List.Quantifiers.{position-Some}
use Rattle.hg_push.specs.declared.row.Row.{Row}
use Rattle.hg_push.specs.Rows.{row_of, is_open, IsShut}
use Rattle.hg_push.specs.Book.{AreRows}
use Rattle.hg_push.proofs.Trims.{either_way}

position_tells : (n len : ℕ) (i : ℕ) → cond (nat_lt n len) (Some n) None ≡ Some i → (i ≡ n) × (n < len)
position_tells n len i found =
    either_way (nat_lt n len) (λ t. let h : cond true (Some n) None ≡ Some i = rw t at found in
    (cc, grind (arith, nat_tests))) (λ f. let h : cond false (Some n) None ≡ Some i = rw f at found in
    cc)

slice_get_none : {X : Type 0} (xs : List X) (n : ℕ) → length xs ≤ n → slice_get xs n ≡ None
slice_get_none [] n past = refl
slice_get_none (x ∷ xs) zero past = absurd (omega arith)
slice_get_none (x ∷ xs) (suc n) past = slice_get_none xs n (omega arith)

slice_get_some : {X : Type 0} (xs : List X) (n : ℕ) (d : X) → n < length xs
    → slice_get xs n ≡ Some (get_or xs n d)
slice_get_some [] n d here = absurd (omega arith)
slice_get_some (x ∷ xs) zero d here = refl
slice_get_some (x ∷ xs) (suc n) d here = slice_get_some xs n d (omega arith)

none_tells : (n len : ℕ) → cond (nat_lt n len) (Some n) None ≡ None → len ≤ n
none_tells n len none = either_way (nat_lt n len)
    (λ t. let h : cond true (Some n) None ≡ None = rw t at none in cc) (λ f. grind (arith, nat_tests))

-- what is found stands among them
pub found_within : {X : Type 0} (p : X → Bool) (xs : List X) (i : ℕ) → position p xs ≡ Some i → i < length xs
found_within p xs i found = let told = position_tells _ _ i found in omega (arith, told.0, told.1)

pub find_nowhere : {X : Type 0} (p : X → Bool) (xs : List X) → position p xs ≡ None → find p xs ≡ None
find_nowhere p xs none = find_at p xs ∙ slice_get_none xs (position_or_len p xs) (none_tells _ _ none)

-- what stands at the place that was found
pub record FoundAt {X : Type 0} (p : X → Bool) (xs : List X) (i : ℕ) (x : X) : Type 0 where
  pub here : find p xs ≡ Some x
  pub within : i < length xs
  pub passes : p x ≡ true
  pub first : i ≡ position_or_len p xs

pub found_at : {X : Type 0} (p : X → Bool) (xs : List X) (i : ℕ) (x : X) → position p xs ≡ Some i
    → x ≡ get_or xs i x → FoundAt p xs i x
found_at p xs i x found is =
    let told = position_tells _ _ i found in
    let more = position-Some p xs i x found in
    record {
      here = find_at p xs ∙ (ap (slice_get xs) (sym told.0)
          ∙ (slice_get_some xs i x more.0 ∙ ap Some (sym is)));
      within = more.0;
      passes = ap p is ∙ more.1;
      first = told.0;
    }

-- ---- rows

pub row_set : {A D E : Type 0} (p : ℕ) (rows : List (Row D E A)) (i : ℕ) (r r' : Row D E A)
    → FoundAt (λ x. x.push == p) rows i r → r'.push ≡ r.push → row_of p (set rows i r') ≡ Some r'
row_set p rows i r r' at same =
    find-set (λ x. x.push == p) rows i r' at.first at.within (ap (λ n. n == p) same ∙ at.passes)

away : (q p n : ℕ) → q ≢ p → n ≡ p → (n == q) ≡ false
away q p n other e = grind (arith, nat_tests)

pub other_set : {A D E : Type 0} (p q : ℕ) (rows : List (Row D E A)) (i : ℕ) (r r' : Row D E A)
    → r ≡ get_or rows i r → r.push ≡ p → r'.push ≡ r.push → q ≢ p → row_of q (set rows i r') ≡ row_of q rows
other_set p q rows i r r' is own same other =
    find_past (λ x. x.push == q) rows i r' r (ap (λ x. x.push == q) (sym is) ∙ away q p r.push other own)
    (away q p r'.push other (same ∙ own))

pub pushes_set : {A D E : Type 0} (rows : List (Row D E A)) (i : ℕ) (r r' : Row D E A) → r ≡ get_or rows i r
    → r'.push ≡ r.push → map (λ x. x.push) (set rows i r') ≡ map (λ x. x.push) rows
pushes_set [] i r r' is same = refl
pushes_set (x ∷ rows) zero r r' is same = ap (λ n. n ∷ map (λ y. y.push) rows) (same ∙ ap (λ y. y.push) is)
pushes_set (x ∷ rows) (suc i) r r' is same = ap (λ ns. x.push ∷ ns) (pushes_set rows i r r' is same)

pub row_opened : {A D E : Type 0} (opened : ℕ → Bool) (p : ℕ) (rows : List (Row D E A)) (r : Row D E A)
    → AreRows opened rows → row_of p rows ≡ Some r → opened p ≡ true
row_opened opened p [] r are row = cc
row_opened opened p (x ∷ rows) r are row =
    either_way (x.push == p)
    (λ t. let e : x.push ≡ p = grind (arith, nat_tests) in ap opened (sym e) ∙ are.0)
    (λ f. row_opened opened p rows r are.2 (rw f at row))

pub shut_nowhere : {A D E : Type 0} (p : ℕ) (rows : List (Row D E A))
    → position (λ r. r.push == p) rows ≡ None → IsShut p rows
shut_nowhere p rows none r row =
    let no_row : row_of p rows ≡ None = find_nowhere (λ r. r.push == p) rows none in cc

pub shut_closed : {A D E : Type 0} (p : ℕ) (rows : List (Row D E A)) (i : ℕ) (r : Row D E A)
    → position (λ r. r.push == p) rows ≡ Some i → r ≡ get_or rows i r → is_open r.state ≡ false
    → IsShut p rows
shut_closed {A} {D} {E} p rows i r found is shut r2 row =
    let at = found_at (λ r. r.push == p) rows i r found is in
    let e : Some r ≡ Some r2 = sym at.here ∙ row in
    let e2 : r ≡ r2 = cc in
    ap (λ (k : Row D E A). is_open k.state) (sym e2) ∙ shut
