-- A step of the book, from what its row does.
use Rattle.std.proofs.Common.{ℕ, Bool, true, ◌≡◌, ◌==◌, ◌<◌, ◌+◌, ◌≤◌, List, sym, ◌∙◌, ap, subst, cond, arith}
use Rattle.std.proofs.Common.{Some, map, length}
use Rattle.std.specs.List.{count_by}
use Rattle.std.proofs.Math.ListN.{set, get_or}
use Rattle.std.proofs.lemmas.Bool.Decides.{nat_tests}
use Rattle.std.proofs.lemmas.List.Sums.{sum_by-set, sum_by-remove}
use Rattle.hg_parts.specs.declared.item.What.{What}
use Rattle.hg_push.specs.declared.row.Row.{Row}
use Rattle.hg_push.specs.History.{History, Running}
use Rattle.hg_push.specs.Rows.{row_of, is_open, IsShut}
use Rattle.hg_push.specs.code.Rows.{StepsRow, IsOpenAt}
use Rattle.hg_push.specs.Book.{Book, HoldsHistory, AreRows, AreNumbers, IsSameOpenings, is_between, stepped}
use Rattle.hg_push.specs.Book.{is_opened}
use Rattle.hg_push.proofs.Finding.{found_at, row_set, other_set, pushes_set, row_opened}
use Rattle.hg_push.proofs.Holding.{holds_stepped}

equal : (a b : ℕ) → (a == b) ≡ true → a ≡ b
equal a b e = grind (arith, nat_tests)

pub step_taken : {A R D E : Type 0} (run : Running A R D E) (first : R) (h : History A) (b new : Book A R D E)
    (rows : List (Row D E A)) (push index : ℕ) (what : What A) (refused : Bool) (i : ℕ) (r r' : Row D E A)
    → rows ≡ b.rows → new.rows ≡ set rows i r' → new.first_push ≡ b.first_push → new.next ≡ b.next
    → AreRows (is_between b.first_push b.next) rows
    → IsOpenAt push rows i → r ≡ get_or rows i r
    → StepsRow run (record { repo = b.repo; journal = b.journal }) r
    (record { item = record { push = r.push; index = index; what = what }; refused = refused })
    (record { repo = new.repo; journal = new.journal }) r'
    → HoldsHistory run first h b → HoldsHistory run first
    (stepped b (record { push = push; index = index; what = what }) refused h) new
step_taken {A} {R} {D} {E} run first h b new rows push index what refused i r r' same rows' first' next' are
    found is steps holds =
    let at = found_at (λ r. r.push == push) rows i r found.0 is in
    let own : r.push ≡ push = equal r.push push at.passes in
    let row : row_of push b.rows ≡ Some r = ap (row_of push) (sym same) ∙ at.here in
    let opened : is_opened b push ≡ true = row_opened (is_between b.first_push b.next) push rows r are
    at.here in
    let P : ℕ → Type 0 = λ n. StepsRow run (record { repo = b.repo; journal = b.journal }) r
    (record { item = record { push = n; index = index; what = what }; refused = refused })
    (record { repo = new.repo; journal = new.journal }) r' in
    rw opened (holds_stepped run first h b new
    (record { item = record { push = push; index = index; what = what }; refused = refused }) r r' holds
    opened row own (found.1 r is) (subst P own steps)
    (λ p. ap (λ n. is_between n new.next p) first' ∙ ap (λ n. is_between b.first_push n p) next')
    (ap (row_of push) rows' ∙ row_set push rows i r r' at steps.push)
    (λ p other. ap (row_of p) rows'
    ∙ (other_set push p rows i r r' is own steps.push other ∙ ap (row_of p) same)))

-- the rows stay rows, and the journal keeps its room
pub rows_stay : {A D E : Type 0} (opened : ℕ → Bool) (rows : List (Row D E A)) (i : ℕ) (r r' : Row D E A)
    → r ≡ get_or rows i r → r'.push ≡ r.push → AreRows opened rows → AreRows opened (set rows i r')
rows_stay opened rows i r r' is same are =
    subst (AreNumbers opened) (sym (pushes_set rows i r r' is same)) are

pub open_count : {A D E : Type 0} (rows : List (Row D E A)) (i : ℕ) (r r' : Row D E A) → i < length rows
    → r ≡ get_or rows i r → is_open r.state ≡ true
    → count_by (λ r. is_open r.state) (set rows i r') + 1 ≡ count_by (λ r. is_open r.state) rows + cond
    (is_open r'.state) 1 0
open_count {A} {D} {E} rows i r r' within is ready =
    let f : Row D E A → ℕ = λ r. cond (is_open r.state) 1 0 in
    let one : f r ≡ 1 = rw ready in
    let e = sum_by-set f rows i r' r within in
    let g : f (get_or rows i r) ≡ 1 = ap f (sym is) ∙ one in
    rw g at e

pub room_is : {A D E : Type 0} (rows : List (Row D E A)) (i : ℕ) (r : Row D E A) → i < length rows
    → r ≡ get_or rows i r → is_open r.state ≡ true → 1 ≤ count_by (λ r. is_open r.state) rows
room_is {A} {D} {E} rows i r within is ready =
    let f : Row D E A → ℕ = λ r. cond (is_open r.state) 1 0 in
    let one : f r ≡ 1 = rw ready in
    let g : f (get_or rows i r) ≡ 1 = ap f (sym is) ∙ one in
    omega (arith, rw g at (sum_by-remove f rows i r within))

-- a push with an open row is not shut
pub open_not_shut : {A D E : Type 0} (p : ℕ) (rows : List (Row D E A)) (i : ℕ) (r : Row D E A)
    → IsOpenAt p rows i → r ≡ get_or rows i r → IsShut p rows → ⊥
open_not_shut p rows i r found is shut =
    let at = found_at (λ r. r.push == p) rows i r found.0 is in
    let ready = found.1 r is in
    let closed = shut r at.here in
    cc

pub same_openings : {A R D E : Type 0} (b now new : Book A R D E) → b ≡ now → new.first_push ≡ b.first_push
    → new.next ≡ b.next → new.limit ≡ b.limit → map (λ r. r.push) new.rows ≡ map (λ r. r.push) b.rows
    → IsSameOpenings now new
same_openings b now new same first_push next limit pushes =
    rw (← same) (record { first_push = first_push; next = next; limit = limit; pushes = pushes })

-- a push with an open row is opened
pub open_at_opened : {A D E : Type 0} (opened : ℕ → Bool) (p : ℕ) (rows : List (Row D E A)) (i : ℕ)
    (r : Row D E A) → AreRows opened rows → IsOpenAt p rows i → r ≡ get_or rows i r → opened p ≡ true
open_at_opened opened p rows i r are found is =
    row_opened opened p rows r are (found_at (λ r. r.push == p) rows i r found.0 is).here
