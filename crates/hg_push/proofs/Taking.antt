-- The rows after one is taken away, and what the book holds then.
use Rattle.std.proofs.Common.{ℕ, Bool, true, false, ◌≡◌, ◌≢◌, ◌==◌, ◌||◌, ◌<◌, ◌≤◌, List, [], ◌∷◌, refl, sym}
use Rattle.std.proofs.Common.{◌∙◌, ap, subst, cond, arith, Option, Some, None, map, length, zero, suc}
use Rattle.std.specs.Prelude.{position, IsSome}
use Rattle.std.specs.List.{AllByRecursion, count_by, list_any, remove}
use Rattle.std.proofs.Math.ListN.{get_or}
use Rattle.std.proofs.lemmas.Bool.Decides.{nat_tests}
use Rattle.std.proofs.lemmas.List.Sums.{sum_by-remove}
use Rattle.hg_types.specs.declared.part.Part.{Part}
use Rattle.hg_push.specs.declared.outcome.Outcome.{Outcome}
use Rattle.hg_push.specs.declared.row.Row.{Row}
use Rattle.hg_push.specs.declared.row.State.{State}
use Rattle.hg_push.specs.declared.row.State.TheVariants.{Open, Closed}
use Rattle.hg_push.specs.History.{History, Running, parts, outcome}
use Rattle.hg_push.specs.Rows.{row_of, rows_without, reply_in, ending_in, is_open, RowTells, TellsState}
use Rattle.hg_push.specs.Book.{Book, HoldsHistory, AreRows, is_between, is_opened}
use Rattle.hg_push.proofs.Finding.{find_nowhere, found_at, row_opened}
use Rattle.hg_push.proofs.Trims.{either_way}

later_step : (p q : ℕ) → p < q → (q == p) ≡ false
later_step p q less = grind (arith, nat_tests)

-- a number that is below all others is none of them
pub later : (p : ℕ) (ps : List ℕ) → AllByRecursion (λ q. p < q) ps → list_any (λ q. q == p) ps ≡ false
later p [] all = refl
later p (q ∷ ps) all = let other = later_step p q all.0 in rw other (later p ps all.1)

left_false : (a b : Bool) → (a || b) ≡ false → a ≡ false
left_false false b h = refl
left_false true b h = cc

right_false : (a b : Bool) → (a || b) ≡ false → b ≡ false
right_false false b h = h
right_false true b h = cc

-- rows of other pushes stay
absent : {A D E : Type 0} (p : ℕ) (rows : List (Row D E A))
    → list_any (λ q. q == p) (map (λ r. r.push) rows) ≡ false → rows_without p rows ≡ rows
absent p [] h = refl
absent p (x ∷ rows) h = let f : (x.push == p) ≡ false = left_false _ _ h in
    rw f (ap (λ rs. x ∷ rs) (absent p rows (right_false _ _ h)))

later_at : {A D E : Type 0} (n : ℕ) (rows : List (Row D E A)) (i : ℕ) (r : Row D E A) → i < length rows
    → r ≡ get_or rows i r → AllByRecursion (λ q. n < q) (map (λ r. r.push) rows) → n < r.push
later_at n [] i r within is all = absurd (omega arith)
later_at n (x ∷ rows) zero r within is all = rw is all.0
later_at n (x ∷ rows) (suc i) r within is all = later_at n rows i r (omega arith) is all.1

earlier : (p q : ℕ) → p < q → (p == q) ≡ false
earlier p q less = grind (arith, nat_tests)

own : (p : ℕ) → (p == p) ≡ true
own p = grind (arith, nat_tests)

-- taking away the row at its place leaves the rows without its push
pub without_removed : {A D E : Type 0} (opened : ℕ → Bool) (rows : List (Row D E A)) (i : ℕ) (r : Row D E A)
    → i < length rows → r ≡ get_or rows i r → AreRows opened rows → remove rows i ≡ rows_without r.push rows
without_removed opened [] i r within is are = absurd (omega arith)
without_removed opened (x ∷ rows) zero r within is are =
    let P : ℕ → Type 0 = λ n. rows ≡ rows_without n (x ∷ rows) in
    subst P (ap (λ y. y.push) (sym is)) (rw (own x.push) (sym (absent x.push rows (later _ _ are.1))))
without_removed opened (x ∷ rows) (suc i) r within is are =
    let other : (x.push == r.push) ≡ false = earlier x.push r.push
    (later_at x.push rows i r (omega arith) is are.1) in
    rw other (ap (λ rs. x ∷ rs) (without_removed opened rows i r (omega arith) is are.2))

all_without : {A D E : Type 0} (n p : ℕ) (rows : List (Row D E A))
    → AllByRecursion (λ q. n < q) (map (λ r. r.push) rows)
    → AllByRecursion (λ q. n < q) (map (λ r. r.push) (rows_without p rows))
all_without n p [] all = tt
all_without n p (x ∷ rows) all =
    either_way (x.push == p) (λ t. rw t (all_without n p rows all.1))
    (λ f. rw f (all.0, all_without n p rows all.1))

-- the others are still in the order of their numbers
pub rows_stay_without : {A D E : Type 0} (opened : ℕ → Bool) (p : ℕ) (rows : List (Row D E A))
    → AreRows opened rows → AreRows opened (rows_without p rows)
rows_stay_without opened p [] are = tt
rows_stay_without opened p (x ∷ rows) are =
    either_way (x.push == p) (λ t. rw t (rows_stay_without opened p rows are.2))
    (λ f. rw f (are.0, all_without x.push p rows are.1, rows_stay_without opened p rows are.2))

-- no more of them are open
pub open_without : {A D E : Type 0} (rows : List (Row D E A)) (i : ℕ) (r : Row D E A) → i < length rows
    → count_by (λ r. is_open r.state) (remove rows i) ≤ count_by (λ r. is_open r.state) rows
open_without {A} {D} {E} rows i r within =
    let f : Row D E A → ℕ = λ r. cond (is_open r.state) 1 0 in
    omega (arith, sum_by-remove f rows i r within)

-- the push has no row any more
row_taken : {A D E : Type 0} (p : ℕ) (rows : List (Row D E A)) → row_of p (rows_without p rows) ≡ None
row_taken p [] = refl
row_taken p (x ∷ rows) =
    either_way (x.push == p) (λ t. rw t (row_taken p rows)) (λ f. rw f (rw f (row_taken p rows)))

differs : (a b : ℕ) → a ≢ b → (a == b) ≡ false
differs a b h = grind (arith, nat_tests)

equals : (a b : ℕ) → (a == b) ≡ true → a ≡ b
equals a b e = grind (arith, nat_tests)

-- the other pushes keep theirs
row_kept : {A D E : Type 0} (p q : ℕ) (rows : List (Row D E A)) → q ≢ p
    → row_of q (rows_without p rows) ≡ row_of q rows
row_kept p q [] other = refl
row_kept p q (x ∷ rows) other =
    either_way (x.push == p)
    (λ t. let away : (x.push == q) ≡ false = differs x.push q (λ e. other (sym e ∙ equals x.push p t)) in
    rw (t, away) (row_kept p q rows other))
    (λ f. rw f (either_way (x.push == q) (λ t. rw t refl) (λ g. rw g (row_kept p q rows other))))

-- what a row tells of how its push ended
ending_tells : {A D E : Type 0} (ps : List (Part A)) (how : Option (Outcome D E)) (state : State D E A)
    → TellsState ps how state → ending_in state ≡ how
ending_tells ps how (Open staged) tells = sym tells.0
ending_tells ps how (Closed ending) tells = sym tells

reply_tells : {A D E : Type 0} (ps : List (Part A)) (how : Option (Outcome D E)) (row : Option (Row D E A))
    → IsSome row → RowTells ps how row → reply_in row ≡ how
reply_tells ps how None has tells = cc
reply_tells ps how (Some row) has tells = ending_tells ps how row.state tells

some_opened : {A D E : Type 0} (opened : ℕ → Bool) (p : ℕ) (rows : List (Row D E A))
    (row : Option (Row D E A)) → AreRows opened rows → row_of p rows ≡ row → IsSome row → opened p ≡ true
some_opened opened p rows None are is has = cc
some_opened opened p rows (Some r) are is has = row_opened opened p rows r are is

-- the reply that waits in the row of a push is its outcome
pub reply_is : {A R D E : Type 0} (run : Running A R D E) (first : R) (h : History A) (b : Book A R D E)
    (p : ℕ) → AreRows (is_between b.first_push b.next) b.rows → HoldsHistory run first h b → IsSome (row_of p b.rows)
    → reply_in (row_of p b.rows) ≡ outcome run first p h
reply_is run first h b p are holds has =
    reply_tells (parts p h) (outcome run first p h) (row_of p b.rows) has
    (holds.rows p (some_opened (is_between b.first_push b.next) p b.rows _ are refl has))

closed_ended : {A D E : Type 0} (ps : List (Part A)) (how : Option (Outcome D E)) (row : Option (Row D E A))
    → IsSome (reply_in row) → RowTells ps how row → IsSome how
closed_ended ps how None has tells = tells
closed_ended ps how (Some row) has tells = subst (λ o. IsSome o) (ending_tells ps how row.state tells) has

-- the book holds the same after a reply was taken
pub holds_taken : {A R D E : Type 0} (run : Running A R D E) (first : R) (h : History A) (b : Book A R D E)
    (p : ℕ) → IsSome (reply_in (row_of p b.rows)) → HoldsHistory run first h b
    → HoldsHistory run first h (record b { rows = rows_without p b.rows })
holds_taken {A} run first h b p has holds = record {
  state = holds.state;
  legal = holds.legal;
  opened = holds.opened;
  rows = λ q opened.
      either_way (q == p)
      (λ t.
      let e : q ≡ p = equals q p t in
      let ended : IsSome (outcome run first p h) = closed_ended (parts p h) (outcome run first p h)
      (row_of p b.rows) has (holds.rows p (subst (λ n. is_opened b n ≡ true) e opened)) in
      let P : ℕ → Type 0 = λ n. RowTells (parts n h) (outcome run first n h)
      (row_of n (rows_without p b.rows)) in
      subst P (sym e) (rw (row_taken p b.rows) ended))
      (λ f. let other : q ≢ p = (λ e. let h : (q == p) ≡ true = rw e (own p) in cc) in
      rw (row_kept p q b.rows other) (holds.rows q opened));
}

-- ---- a closed row at its place

pub reply_nowhere : {A D E : Type 0} (p : ℕ) (rows : List (Row D E A))
    → position (λ r. r.push == p) rows ≡ None → reply_in (row_of p rows) ≡ None
reply_nowhere p rows none = ap reply_in (find_nowhere (λ r. r.push == p) rows none)

open_ends : {A D E : Type 0} (state : State D E A) → is_open state ≡ true → ending_in state ≡ None
open_ends (Open staged) ready = refl
open_ends (Closed ending) ready = cc

pub reply_open : {A D E : Type 0} (p : ℕ) (rows : List (Row D E A)) (i : ℕ) (r : Row D E A)
    → position (λ r. r.push == p) rows ≡ Some i → r ≡ get_or rows i r → is_open r.state ≡ true
    → reply_in (row_of p rows) ≡ None
reply_open p rows i r found is ready = ap reply_in (found_at (λ r. r.push == p) rows i r found is).here
    ∙ open_ends r.state ready

pub reply_closed : {A D E : Type 0} (p : ℕ) (rows : List (Row D E A)) (i : ℕ) (r : Row D E A)
    (ending : Outcome D E) → position (λ r. r.push == p) rows ≡ Some i → r ≡ get_or rows i r
    → r.state ≡ Closed ending → reply_in (row_of p rows) ≡ Some ending
reply_closed p rows i r ending found is shut =
    ap reply_in (found_at (λ r. r.push == p) rows i r found is).here ∙ ap ending_in shut

-- the rows after the row at its place is taken away
pub rows_taken : {A D E : Type 0} (opened : ℕ → Bool) (p : ℕ) (rows new : List (Row D E A)) (i : ℕ)
    (r : Row D E A) → position (λ r. r.push == p) rows ≡ Some i → r ≡ get_or rows i r → AreRows opened rows
    → new ≡ remove rows i → new ≡ rows_without p rows
rows_taken opened p rows new i r found is are taken =
    let at = found_at (λ r. r.push == p) rows i r found is in
    taken ∙ (without_removed opened rows i r at.within is are
    ∙ ap (λ n. rows_without n rows) (equals r.push p at.passes))

pub book_taken : {A R D E : Type 0} (b now new : Book A R D E) (p : ℕ) → b ≡ now
    → new ≡ record b { rows = new.rows } → new.rows ≡ rows_without p b.rows
    → new ≡ record now { rows = rows_without p now.rows }
book_taken {A} {R} {D} {E} b now new p same kept rows =
    kept ∙ (ap (λ (rs : List (Row D E A)). record b { rows = rs }) rows
    ∙ ap (λ (k : Book A R D E). record k { rows = rows_without p k.rows }) same)
