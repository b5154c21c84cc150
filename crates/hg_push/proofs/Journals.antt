-- The journal holds the pushes that are done, and no others.
use Rattle.std.proofs.Common.{ℕ, Bool, true, false, ◌≡◌, ◌==◌, ◌&&◌, ◌||◌, not, List, [], ◌∷◌, ◌++◌, refl}
use Rattle.std.proofs.Common.{◌∙◌, ap, arith, if◌then◌else◌, Option, Some, None, Result, Ok, Err}
use Rattle.std.specs.Prelude.{length}
use Rattle.std.specs.List.{AllByRecursion, list_any}
use Rattle.std.proofs.lemmas.List.Folds.{list_any-append}
use Rattle.hg_push.proofs.Withouts.{outcome_open}
use Rattle.hg_parts.specs.declared.item.What.{What}
use Rattle.hg_parts.specs.declared.item.What.TheVariants.{Part as a_part, End, Cut}
use Rattle.hg_push.specs.declared.outcome.Reason.TheVariants.{NoMemory, WrongIndex}
use Rattle.std.proofs.lemmas.Bool.Decides.{nat_tests}
use Rattle.std.proofs.lemmas.Grind.{common_steps}
use Rattle.hg_push.specs.declared.outcome.Outcome.{Outcome}
use Rattle.hg_push.specs.declared.outcome.Reason.{Reason}
use Rattle.hg_types.specs.declared.part.Part.{Part}
use Rattle.hg_parts.specs.declared.item.Taken.{Taken}
use Rattle.hg_push.specs.History.{History, Running, Serial, is_of, is_closed, parts, serial, after, outcome}
use Rattle.hg_push.specs.History.{decided, decided_by, refused_as, told, kept}
use Rattle.hg_push.specs.Changed.{OneByOne, is_done}
use Rattle.hg_push.proofs.Trims.{either_way}

pub one_more : {A R D E : Type 0} (run : Running A R D E) (of : ℕ → List (Part A)) (first : R)
    (journal : List ℕ) (mid last : R) (p : ℕ) (done : D) → OneByOne run of first journal mid
    → run mid (of p) ≡ Ok (last, done) → OneByOne run of first (journal ++ p ∷ []) last
one_more run of first [] mid last p done same ran = (last, done, rw same ran, refl)
one_more run of first (q ∷ journal) mid last p done all ran =
    (all.0, all.1, all.2, one_more run of all.0 journal mid last p done all.3 ran)

pub one_same : {A R D E : Type 0} (run : Running A R D E) (of of' : ℕ → List (Part A)) (first : R)
    (journal : List ℕ) (last : R) → AllByRecursion (λ p. of' p ≡ of p) journal
    → OneByOne run of first journal last → OneByOne run of' first journal last
one_same run of of' first [] last same all = all
one_same run of of' first (p ∷ journal) last same all =
    (all.0, all.1, rw same.0 all.2, one_same run of of' all.0 journal last same.1 all.3)

pub each_more : (P Q : ℕ → Type 0) → ((p : ℕ) → P p → Q p) → (xs : List ℕ) → AllByRecursion P xs
    → AllByRecursion Q xs
each_more P Q f [] h = tt
each_more P Q f (p ∷ xs) h = (f p h.0, each_more P Q f xs h.1)

each_last : (P : ℕ → Type 0) (xs : List ℕ) (y : ℕ) → AllByRecursion P xs → P y
    → AllByRecursion P (xs ++ y ∷ [])
each_last P [] y h last = (last, tt)
each_last P (x ∷ xs) y h last = (h.0, each_last P xs y h.1 last)

-- a closed push stays closed, and keeps its parts
closed_stays : {A : Type 0} (p : ℕ) (x : Taken A) (before : History A) → is_closed p before ≡ true
    → is_closed p (x ∷ before) ≡ true
closed_stays p x before closed = rw closed

pub parts_stay : {A : Type 0} (p : ℕ) (x : Taken A) (before : History A) → is_closed p before ≡ true
    → parts p (x ∷ before) ≡ parts p before
parts_stay p x before closed = grind (arith, closed)

some_same : {T : Type 0} {x y : T} → Some x ≡ Some y → x ≡ y
some_same h = cc

ran_as : {D E : Type 0} (r : Result D E) (done : D) → refused_as r ≡ Ok done → r ≡ Ok done
ran_as (Ok d) done h = cc
ran_as (Err e) done h = cc

decides_end : {D E : Type 0} (b : Bool) (r : Result D E) (done : D)
    → (if b then refused_as r else Err WrongIndex) ≡ Ok done → r ≡ Ok done
decides_end true r done h = ran_as r done h
decides_end false r done h = cc

decides_closes_at : {A R D E : Type 0} (run : Running A R D E) (repo : R) (ps : List (Part A))
    (refused : Bool) (index : ℕ) (what : What A) (done : R × D)
    → (if refused then Some (Err NoMemory) else decided_by run repo ps index what) ≡ Some (Ok done)
    → (refused ≡ false) × (what ≡ End) × (run repo ps ≡ Ok done)
decides_closes_at run repo ps true index what done ran = cc
decides_closes_at run repo ps false index (a_part part) done ran = cc
decides_closes_at run repo ps false index (Cut reason) done ran = cc
decides_closes_at run repo ps false index End done ran =
    (refl, refl, decides_end (index == length ps) (run repo ps) done (some_same ran))

-- a push that is run was closed by its place, and adds no part there
pub decides_closes : {A R D E : Type 0} (run : Running A R D E) (repo : R) (ps : List (Part A)) (x : Taken A)
    (done : R × D) → decided run repo ps x ≡ Some (Ok done) → (x.refused ≡ false) × (x.item.what ≡ End)
    × (run repo ps ≡ Ok done)
decides_closes run repo ps x done ran =
    decides_closes_at run repo ps x.refused x.item.index x.item.what done ran

-- what the state is after a place: as before, or the run of its push, which was open and ended there
pub data Goes {A R D E : Type 0} (run : Running A R D E) (before : History A) (x : Taken A)
    (s new : Serial R) : Type 0 where
  Same : new ≡ s → Goes run before x s new
  Ran : is_closed x.item.push before ≡ false → x.refused ≡ false → x.item.what ≡ End → (done : R × D)
      → run s.repo (parts x.item.push before) ≡ Ok done
      → new ≡ record { repo = done.0; journal = s.journal ++ x.item.push ∷ [] } → Goes run before x s new

taken_kept : {A R D E : Type 0} (run : Running A R D E) (before : History A) (x : Taken A) (s : Serial R)
    (o : Option (Result (R × D) (Reason E))) → is_closed x.item.push before ≡ false
    → decided run s.repo (parts x.item.push before) x ≡ o → Goes run before x s (kept s x.item.push o)
taken_kept run before x s None here was = Same refl
taken_kept run before x s (Some (Err reason)) here was = Same refl
taken_kept run before x s (Some (Ok done)) here was =
    let h = decides_closes run s.repo (parts x.item.push before) x done was in
    Ran here h.0 h.1 done h.2 refl

pub taken_of : {A R D E : Type 0} (run : Running A R D E) (before : History A) (x : Taken A) (s : Serial R)
    → Goes run before x s (after run before x s)
taken_of run before x s =
    either_way (is_closed x.item.push before)
    (λ c. Same (rw c))
    (λ o. rw o (taken_kept run before x s (decided run s.repo (parts x.item.push before) x) o refl))

-- a push that ends at an end mark is closed, and its parts are those before
end_closes : {A : Type 0} (p : ℕ) (x : Taken A) (before : History A) → x.item.push ≡ p → x.item.what ≡ End
    → is_closed p (x ∷ before) ≡ true
end_closes p x before same mark = rw (same, mark) (grind (arith, nat_tests))

pub end_parts : {A : Type 0} (p : ℕ) (x : Taken A) (before : History A) → x.item.what ≡ End
    → parts p (x ∷ before) ≡ parts p before
end_parts p x before mark = rw mark (grind (arith, common_steps))

journal_closed_step : {A R D E : Type 0} (run : Running A R D E) (x : Taken A) (before : History A)
    (s new : Serial R) → AllByRecursion (λ p. is_closed p before ≡ true) s.journal → Goes run before x s new
    → AllByRecursion (λ p. is_closed p (x ∷ before) ≡ true) new.journal
journal_closed_step run x before s new all (Same same) =
    rw same (each_more _ _ (λ p. closed_stays p x before) s.journal all)
journal_closed_step run x before s new all (Ran here taken mark done ran same) =
    rw same (each_last _ s.journal x.item.push (each_more _ _ (λ p. closed_stays p x before) s.journal all)
    (end_closes x.item.push x before refl mark))

-- each push of the journal is closed
pub journal_closed : {A R D E : Type 0} (run : Running A R D E) (first : R) (h : History A)
    → AllByRecursion (λ p. is_closed p h ≡ true) (serial run first h).journal
journal_closed run first [] = tt
journal_closed run first (x ∷ before) =
    journal_closed_step run x before (serial run first before) (after run before x (serial run first before))
    (journal_closed run first before) (taken_of run before x (serial run first before))

one_by_one_step : {A R D E : Type 0} (run : Running A R D E) (first : R) (x : Taken A) (before : History A)
    (s new : Serial R) → AllByRecursion (λ p. is_closed p before ≡ true) s.journal
    → OneByOne run (λ p. parts p before) first s.journal s.repo → Goes run before x s new
    → OneByOne run (λ p. parts p (x ∷ before)) first new.journal new.repo
one_by_one_step run first x before s new closed all (Same same) =
    rw same (one_same run _ _ first s.journal s.repo
    (each_more _ _ (λ p. parts_stay p x before) s.journal closed) all)
one_by_one_step run first x before s new closed all (Ran here taken mark done ran same) =
    rw same (one_more run _ first s.journal s.repo done.0 x.item.push done.1
    (one_same run _ _ first s.journal s.repo
    (each_more _ _ (λ p. parts_stay p x before) s.journal closed) all)
    (rw (end_parts x.item.push x before mark) ran))

-- the pushes of the journal, run one by one, lead to the repository
pub one_by_one : {A R D E : Type 0} (run : Running A R D E) (first : R) (h : History A)
    → OneByOne run (λ p. parts p h) first (serial run first h).journal (serial run first h).repo
one_by_one run first [] = refl
one_by_one run first (x ∷ before) =
    one_by_one_step run first x before (serial run first before)
    (after run before x (serial run first before)) (journal_closed run first before)
    (one_by_one run first before) (taken_of run before x (serial run first before))

kept_journal : {R D E : Type 0} (s : Serial R) (n p : ℕ) (o : Option (Result (R × D) (Reason E)))
    → list_any (λ q. q == p) (kept s n o).journal ≡ (list_any (λ q. q == p) s.journal
    || ((n == p) && is_done (told o)))
kept_journal s n p None = grind (arith, nat_tests)
kept_journal s n p (Some (Err reason)) = grind (arith, nat_tests)
kept_journal s n p (Some (Ok done)) = list_any-append (λ q. q == p) s.journal (n ∷ [])
    ∙ grind (arith, nat_tests)

done_journal_step : {A R D E : Type 0} (run : Running A R D E) (p : ℕ) (x : Taken A) (before : History A)
    (s : Serial R) (old : Option (Outcome D E)) → list_any (λ q. q == p) s.journal ≡ is_done old
    → (is_closed p before ≡ false → old ≡ None)
    → list_any (λ q. q == p) (after run before x s).journal ≡ is_done (if is_of p x
    && not (is_closed p before) then told (decided run s.repo (parts p before) x) else old)
done_journal_step run p x before s old same here =
    either_way (is_of p x)
    (λ t. let e : x.item.push ≡ p = grind (arith, nat_tests) in
    either_way (is_closed p before)
    (λ c. rw (t, e, c) same)
    (λ o. let none : list_any (λ q. q == p) s.journal ≡ false = same ∙ ap is_done (here o) in
    rw (t, e, o) (kept_journal s p p (decided run s.repo (parts p before) x)
    ∙ rw none (grind (arith, nat_tests)))))
    (λ f. let other : (x.item.push == p) ≡ false = f in
    either_way (is_closed x.item.push before)
    (λ c. rw (f, c) same)
    (λ o. rw (f, o) (kept_journal s x.item.push p (decided run s.repo (parts x.item.push before) x)
    ∙ rw (other, same) (grind (arith, nat_tests)))))

-- the journal has the pushes that are done, and no others
pub done_journal : {A R D E : Type 0} (run : Running A R D E) (first : R) (p : ℕ) (h : History A)
    → list_any (λ q. q == p) (serial run first h).journal ≡ is_done (outcome run first p h)
done_journal run first p [] = refl
done_journal run first p (x ∷ before) =
    done_journal_step run p x before (serial run first before) (outcome run first p before)
    (done_journal run first p before) (outcome_open run first p before)
