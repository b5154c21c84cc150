-- What a book holds after an item.
use Rattle.std.proofs.Common.{ℕ, Bool, true, false, ◌≡◌, ◌≢◌, ◌==◌, ◌&&◌, ◌||◌, not, List, [], ◌∷◌, refl, sym}
use Rattle.std.proofs.Common.{◌∙◌, ap, subst, arith, if◌then◌else◌, Option, Some, None, Result, Ok, Err}
use Rattle.std.specs.Prelude.{IsSome, is_some}
use Rattle.std.specs.List.{AllByRecursion}
use Rattle.std.proofs.lemmas.Bool.Decides.{nat_tests}
use Rattle.hg_types.specs.declared.part.Part.{Part}
use Rattle.hg_parts.specs.declared.item.Item.{Item}
use Rattle.hg_parts.specs.declared.item.What.{What}
use Rattle.hg_parts.specs.declared.item.What.TheVariants.{Part as a_part, End, Cut}
use Rattle.hg_parts.specs.declared.item.Taken.{Taken}
use Rattle.hg_push.specs.declared.outcome.Reason.{Reason}
use Rattle.hg_push.specs.declared.outcome.Reason.TheVariants.{NoMemory}
use Rattle.hg_push.specs.declared.outcome.Outcome.{Outcome}
use Rattle.hg_push.specs.declared.row.Row.{Row}
use Rattle.hg_push.specs.declared.row.State.{State}
use Rattle.hg_push.specs.declared.row.State.TheVariants.{Open, Closed}
use Rattle.hg_push.specs.History.{History, Running, is_of, closes, is_closed, kept, parts}
use Rattle.hg_push.specs.History.{serial, outcome, decided, decided_by, is_mark, told}
use Rattle.hg_push.specs.Rows.{row_of, is_open, Stages, RowTells, TellsState}
use Rattle.hg_push.specs.code.Rows.{staged_in, StepsRow}
use Rattle.hg_push.specs.Book.{Book, HoldsHistory, is_opened, stepped}
use Rattle.hg_push.proofs.Trims.{either_way}
use Rattle.hg_push.proofs.Withouts.{outcome_open}

-- ---- what one more place does to its own push, and to the others

outcome_same : {A R D E : Type 0} (run : Running A R D E) (first : R) (p : ℕ) (x : Taken A) (h : History A)
    → (is_of p x && not (is_closed p h)) ≡ false → outcome run first p (x ∷ h) ≡ outcome run first p h
outcome_same run first p x h late = rw late

parts_same : {A : Type 0} (p : ℕ) (x : Taken A) (h : History A) → (is_of p x && not (is_closed p h)) ≡ false
    → parts p (x ∷ h) ≡ parts p h
parts_same p x h late = grind (arith, late)

different : {T : Type 0} (o : Option T) → o ≡ None → IsSome o → ⊥
different o none some = let h : is_some o ≡ false = ap is_some none in cc

told_some : {R D E : Type 0} (r : Result (R × D) (Reason E)) → IsSome (told (Some r))
told_some (Ok done) = refl
told_some (Err reason) = refl

told_closes_at : {A R D E : Type 0} (run : Running A R D E) (repo : R) (ps : List (Part A)) (refused : Bool)
    (index : ℕ) (what : What A) → (refused || is_mark what) ≡ true
    → IsSome (told (if refused then Some (Err NoMemory) else decided_by run repo ps index what))
told_closes_at run repo ps true index what ends = refl
told_closes_at run repo ps false index (a_part part) ends = cc
told_closes_at run repo ps false index (Cut reason) ends = refl
told_closes_at run repo ps false index End ends = told_some _

closed_ended_step : {A R D E : Type 0} (run : Running A R D E) (repo : R) (p : ℕ) (x : Taken A)
    (h : History A) (old : Option (Outcome D E)) → (is_closed p h ≡ true → IsSome old)
    → is_closed p (x ∷ h) ≡ true
    → IsSome (if is_of p x && not (is_closed p h) then told (decided run repo (parts p h) x) else old)
closed_ended_step run repo p x h old ih shut =
    either_way (is_closed p h)
    (λ c. let late : (is_of p x && not (is_closed p h)) ≡ false = grind (arith, c) in rw late (ih c))
    (λ o. let own : is_of p x ≡ true = grind (arith, o, shut) in
    let ends : closes x ≡ true = grind (arith, o, shut) in
    rw (own, o) (told_closes_at run repo (parts p h) x.refused x.item.index x.item.what ends))

-- a closed push has ended
pub closed_ended : {A R D E : Type 0} (run : Running A R D E) (first : R) (p : ℕ) (h : History A)
    → is_closed p h ≡ true → IsSome (outcome run first p h)
closed_ended run first p [] shut = cc
closed_ended run first p (x ∷ h) shut =
    closed_ended_step run (serial run first h).repo p x h (outcome run first p h)
    (closed_ended run first p h) shut

-- a push that has ended is closed
pub ended_closed : {A R D E : Type 0} (run : Running A R D E) (first : R) (p : ℕ) (h : History A)
    → IsSome (outcome run first p h) → is_closed p h ≡ true
ended_closed run first p h ended =
    either_way (is_closed p h) (λ c. c)
    (λ o. absurd (different (outcome run first p h) (outcome_open run first p h o) ended))

-- a push that has not ended is open
pub unended_open : {A R D E : Type 0} (run : Running A R D E) (first : R) (p : ℕ) (h : History A)
    → outcome run first p h ≡ None → is_closed p h ≡ false
unended_open run first p h none =
    either_way (is_closed p h)
    (λ c. absurd (different (outcome run first p h) none (closed_ended run first p h c))) (λ o. o)

closed_tells : {A D E : Type 0} (ps : List (Part A)) (how : Option (Outcome D E)) (state : State D E A)
    → is_open state ≡ false → TellsState ps how state → IsSome how
closed_tells ps how (Open staged) shut tells = cc
closed_tells ps how (Closed ending) shut tells = rw tells refl

open_tells : {A D E : Type 0} (ps : List (Part A)) (how : Option (Outcome D E)) (state : State D E A)
    → is_open state ≡ true → TellsState ps how state → (how ≡ None) × Stages (staged_in state) ps
open_tells ps how (Open staged) ready tells = tells
open_tells ps how (Closed ending) ready tells = cc

-- what no row or a closed row tells
no_row_closed : {A D E : Type 0} (ps : List (Part A)) (how : Option (Outcome D E)) (row : Option (Row D E A))
    → ((r : Row D E A) → row ≡ Some r → is_open r.state ≡ false) → RowTells ps how row → IsSome how
no_row_closed ps how None shut tells = tells
no_row_closed ps how (Some r) shut tells = closed_tells ps how r.state (shut r refl) tells

late_place : {A : Type 0} (p : ℕ) (x : Taken A) (h : History A) → is_closed x.item.push h ≡ true
    → (is_of p x && not (is_closed p h)) ≡ false
late_place p x h shut = grind (arith, nat_tests)

other_place : {A : Type 0} (p : ℕ) (x : Taken A) (h : History A) → p ≢ x.item.push
    → (is_of p x && not (is_closed p h)) ≡ false
other_place p x h other = grind (arith, nat_tests)

-- ---- an item of a closed push is dropped

pub holds_dropped : {A R D E : Type 0} (run : Running A R D E) (first : R) (h : History A) (b : Book A R D E)
    (item : Item A) → HoldsHistory run first h b → is_opened b item.push ≡ true
    → ((r : Row D E A) → row_of item.push b.rows ≡ Some r → is_open r.state ≡ false)
    → HoldsHistory run first (record { item = item; refused = false } ∷ h) b
holds_dropped {A} run first h b item holds opened shut =
    let x : Taken A = record { item = item; refused = false } in
    let ended = no_row_closed _ _ _ shut (holds.rows item.push opened) in
    let c : is_closed item.push h ≡ true = ended_closed run first item.push h ended in
    record {
      state = rw c holds.state;
      legal = (λ t. cc, holds.legal);
      opened = (opened, holds.opened);
      rows = λ p q.
          let late = late_place p x h c in
          subst (λ ps. RowTells ps (outcome run first p (x ∷ h)) (row_of p b.rows)) (sym (parts_same p x h late))
          (subst (λ how. RowTells (parts p h) how (row_of p b.rows))
          (sym (outcome_same run first p x h late)) (holds.rows p q));
    }

-- ---- an item of an open push

all_same : {A : Type 0} (f g : ℕ → Bool) → ((p : ℕ) → g p ≡ f p) → (h : History A)
    → AllByRecursion (λ x. f x.item.push ≡ true) h → AllByRecursion (λ x. g x.item.push ≡ true) h
all_same f g same [] all = tt
all_same f g same (x ∷ h) all = (same x.item.push ∙ all.0, all_same f g same h all.1)

pub holds_stepped : {A R D E : Type 0} (run : Running A R D E) (first : R) (h : History A)
    (b new : Book A R D E) (x : Taken A) (r r' : Row D E A) → HoldsHistory run first h b
    → is_opened b x.item.push ≡ true
    → row_of x.item.push b.rows ≡ Some r → r.push ≡ x.item.push → is_open r.state ≡ true
    → StepsRow run (record { repo = b.repo; journal = b.journal }) r x
    (record { repo = new.repo; journal = new.journal }) r'
    → ((p : ℕ) → is_opened new p ≡ is_opened b p) → row_of x.item.push new.rows ≡ Some r'
    → ((p : ℕ) → p ≢ x.item.push → row_of p new.rows ≡ row_of p b.rows)
    → HoldsHistory run first (x ∷ h) new
holds_stepped {A} {R} {D} {E} run first h b new x r r' holds opened row own ready steps same row' others =
    let mine : RowTells (parts x.item.push h) (outcome run first x.item.push h) (Some r) = subst
    (λ o. RowTells (parts x.item.push h) (outcome run first x.item.push h) o) row
    (holds.rows x.item.push opened) in
    let tells = open_tells (parts x.item.push h) (outcome run first x.item.push h) r.state ready mine in
    let o : is_closed x.item.push h ≡ false = unended_open run first x.item.push h tells.0 in
    let repo : (serial run first h).repo ≡ b.repo = ap (λ s. s.repo) holds.state in
    let with_parts = steps.steps (parts x.item.push h) tells.1 in
    let it : is_of x.item.push x ≡ true = grind (arith, nat_tests) in
    record {
      state = rw (o, holds.state)
          (sym (with_parts.state ∙ ap (λ (n : ℕ). kept (record { repo = b.repo; journal = b.journal }) n
          (decided run b.repo (parts x.item.push h) x)) own));
      legal = (λ t. rw o (with_parts.may t), holds.legal);
      opened = (same x.item.push ∙ opened, all_same _ _ same h holds.opened);
      rows = λ p q.
          either_way (p == x.item.push)
          (λ t. let e : p ≡ x.item.push = grind (arith, nat_tests) in let P : ℕ
          → Type 0 = λ n. RowTells (parts n (x ∷ h)) (outcome run first n (x ∷ h)) (row_of n new.rows) in
          subst P (sym e) (rw (it, o, repo, row') with_parts.told))
          (λ f. let other : p ≢ x.item.push = grind (arith, nat_tests) in
          let late = other_place p x h other in
          rw (parts_same p x h late, outcome_same run first p x h late, others p other)
          (holds.rows p (sym (same p) ∙ q)));
    }

-- an item of a push that is not open is dropped
pub holds_unchanged : {A R D E : Type 0} (run : Running A R D E) (first : R) (h : History A)
    (b : Book A R D E) (item : Item A) → HoldsHistory run first h b
    → ((r : Row D E A) → row_of item.push b.rows ≡ Some r → is_open r.state ≡ false)
    → HoldsHistory run first (stepped b item false h) b
holds_unchanged run first h b item holds shut =
    either_way (is_opened b item.push) (λ t. rw t (holds_dropped run first h b item holds t shut))
    (λ f. rw f holds)
