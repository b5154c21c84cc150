-- A binary search among rows in the order of their numbers.
use Rattle.std.proofs.Common.{ℕ, Bool, true, false, ◌≡◌, ◌≢◌, ◌==◌, ◌<◌, ◌≤◌, List, [], ◌∷◌, refl, sym, arith}
use Rattle.std.proofs.Common.{Result, Ok, Err, Some, map, length, zero, suc}
use Rattle.std.specs.Prelude.{position, nat_lt}
use Rattle.std.specs.Result.{result_ok}
use Rattle.std.specs.List.{AllByRecursion, position_or_len}
use Rattle.std.specs.List.Sorted.{IsSearchInRange, IsBinarySearchResult}
use Rattle.std.specs.Ordering.{nat_cmp, ordering_index}
use Rattle.std.specs.declared.cmp.Ordering.TheVariants.{Less, Greater}
use Rattle.std.proofs.Math.ListN.{get_or}
use Rattle.std.proofs.lemmas.Cmp.{ranked}
use Rattle.std.proofs.lemmas.Bool.Decides.{nat_tests}
use Rattle.hg_push.specs.declared.row.Row.{Row}
use Rattle.hg_push.specs.code.Rows.{AreAscending, AreInOrder}
use Rattle.hg_push.specs.Book.{AreNumbers, AreRows}
use Rattle.hg_push.proofs.Trims.{either_way}

numbers_ascend : (opened : ℕ → Bool) (ps : List ℕ) → AreNumbers opened ps → AreAscending ps
numbers_ascend opened [] are = tt
numbers_ascend opened (p ∷ ps) are = (are.1, numbers_ascend opened ps are.2)

pub rows_in_order : {A D E : Type 0} (opened : ℕ → Bool) (rows : List (Row D E A)) → AreRows opened rows
    → AreInOrder rows
rows_in_order opened rows are = numbers_ascend opened (map (λ r. r.push) rows) are

later_get : {A D E : Type 0} (n : ℕ) (rows : List (Row D E A)) (i : ℕ) (d : Row D E A) → i < length rows
    → AllByRecursion (λ q. n < q) (map (λ r. r.push) rows) → n < (get_or rows i d).push
later_get n [] i d within all = absurd (omega (arith, within))
later_get n (x ∷ rows) zero d within all = all.0
later_get n (x ∷ rows) (suc i) d within all = later_get n rows i d (omega (arith, within)) all.1

-- the numbers rise along the rows
rises : {A D E : Type 0} (rows : List (Row D E A)) (i j : ℕ) (d : Row D E A) → AreInOrder rows → i ≤ j
    → j < length rows → (get_or rows i d).push ≤ (get_or rows j d).push
rises [] i j d are le within = absurd (omega (arith, within))
rises (x ∷ rows) zero zero d are le within = omega arith
rises (x ∷ rows) zero (suc j) d are le within =
    omega (arith, later_get x.push rows j d (omega (arith, within)) are.0)
rises (x ∷ rows) (suc i) zero d are le within = absurd (omega (arith, le))
rises (x ∷ rows) (suc i) (suc j) d are le within =
    rises rows i j d are.1 (omega (arith, le)) (omega (arith, within))

below : (p q : ℕ) → p < q → (p == q) ≡ false
below p q less = grind (arith, nat_tests)

unlike : (p q : ℕ) → p ≢ q → (p == q) ≡ false
unlike p q other = grind (arith, nat_tests)

alike : (p q : ℕ) → p ≡ q → (p == q) ≡ true
alike p q same = grind (arith, nat_tests)

found_len : {A D E : Type 0} (push : ℕ) (rows : List (Row D E A)) (at : ℕ) (d : Row D E A) → AreInOrder rows
    → at < length rows → (get_or rows at d).push ≡ push → position_or_len (λ r. r.push == push) rows ≡ at
found_len push [] at d are within is = absurd (omega (arith, within))
found_len push (x ∷ rows) zero d are within is = let t : (x.push == push) ≡ true = alike x.push push is in
    rw t refl
found_len push (x ∷ rows) (suc i) d are within is =
    let f : (x.push == push) ≡ false = below x.push push
    (omega (arith, later_get x.push rows i d (omega (arith, within)) are.0, is)) in
    rw f (omega (arith, found_len push rows i d are.1 (omega (arith, within)) is))

none_len : {A D E : Type 0} (push : ℕ) (rows : List (Row D E A))
    → ((k : ℕ) (d : Row D E A) → k < length rows → (get_or rows k d).push ≢ push)
    → position_or_len (λ r. r.push == push) rows ≡ length rows
none_len push [] others = refl
none_len push (x ∷ rows) others =
    let f : (x.push == push) ≡ false = unlike x.push push (others zero x (omega arith)) in
    rw f (omega (arith, none_len push rows (λ k d within. others (suc k) d (omega (arith, within)))))

within_test : (i n : ℕ) → i < n → nat_lt i n ≡ true
within_test i n less = grind (arith, nat_tests)

past_test : (n : ℕ) → nat_lt n n ≡ false
past_test n = grind (arith, nat_tests)

cmp_rises : (a b k : ℕ) → a ≤ b → ordering_index (nat_cmp a k) ≤ ordering_index (nat_cmp b k)
cmp_rises a b k le = grind (arith, nat_tests)

less_other : (a k : ℕ) → nat_cmp a k ≡ Less → a ≢ k
less_other a k is e = let h : a < k = ranked a k _ (sym is) in omega (arith, h, e)

greater_other : (a k : ℕ) → nat_cmp a k ≡ Greater → a ≢ k
greater_other a k is e = let h : k < a = ranked a k _ (sym is) in omega (arith, h, e)

-- what a binary search by the number finds is the place of the push's row
pub search_place : {A D E : Type 0} (push : ℕ) (rows : List (Row D E A)) (r : Result ℕ ℕ) → AreInOrder rows
    → IsSearchInRange r (length rows) → IsBinarySearchResult (λ row. nat_cmp row.push push) rows r
    → result_ok r ≡ position (λ r. r.push == push) rows
search_place push [] (Ok at) are within equal = absurd (omega (arith, within))
search_place push (x ∷ rows) (Ok at) are within equal =
    let same : (get_or (x ∷ rows) at x).push ≡ push = ranked _ push _ (sym (equal x)) in
    rw (found_len push (x ∷ rows) at x are within same, within_test at (length (x ∷ rows)) within) refl
search_place {A} {D} {E} push rows (Err at) are within parted =
    let split = parted (λ i j d le inside. cmp_rises (get_or rows i d).push (get_or rows j d).push push
    (rises rows i j d are le inside)) in
    let none = none_len push rows (λ k d inside. either_way (nat_lt k at)
    (λ t. less_other (get_or rows k d).push push (split.0 k d (omega arith) (grind (arith, nat_tests))))
    (λ f. greater_other (get_or rows k d).push push (split.1 k d (grind (arith, nat_tests)) inside))) in
    rw (none, past_test (length rows)) refl

-- the row with that number stands at its place
pub found_place : {A D E : Type 0} (push : ℕ) (rows : List (Row D E A)) (at : ℕ) (d : Row D E A)
    → AreInOrder rows → at < length rows → (get_or rows at d).push ≡ push
    → Some at ≡ position (λ r. r.push == push) rows
found_place push rows at d are within is =
    rw (found_len push rows at d are within is, within_test at (length rows) within) refl
