-- A done push is in the journal once, and it ran in its turn.
use Rattle.std.proofs.Common.{ℕ, Bool, true, false, ◌≡◌, ◌==◌, ◌&&◌, ◌+◌, not, List, [], ◌∷◌, ◌++◌, refl, sym}
use Rattle.std.proofs.Common.{◌∙◌, ap, subst, cond, arith, append_assoc, if◌then◌else◌, Option, Some, None}
use Rattle.std.proofs.Common.{Result, Ok, Err}
use Rattle.std.specs.List.{AllByRecursion, count_by}
use Rattle.std.proofs.lemmas.Bool.Decides.{nat_tests}
use Rattle.std.proofs.lemmas.List.{append-nil}
use Rattle.std.proofs.lemmas.List.Sums.{sum_by-append}
use Rattle.hg_types.specs.declared.part.Part.{Part}
use Rattle.hg_parts.specs.declared.item.Taken.{Taken}
use Rattle.hg_push.specs.declared.outcome.Outcome.{Outcome}
use Rattle.hg_push.specs.declared.outcome.Outcome.TheVariants.{Done}
use Rattle.hg_push.specs.declared.outcome.Reason.{Reason}
use Rattle.hg_push.specs.History.{History, IsClosing, Running, Serial, is_of, is_closed, parts, serial, after}
use Rattle.hg_push.specs.History.{outcome, decided, told, kept}
use Rattle.hg_push.specs.Changed.{OneByOne, RanInTurn, is_done}
use Rattle.hg_push.proofs.Trims.{either_way}
use Rattle.hg_push.proofs.Withouts.{outcome_open}
use Rattle.hg_push.proofs.Journals.{Goes, Same, Ran, decides_closes, each_more, end_parts, journal_closed}
use Rattle.hg_push.proofs.Journals.{one_by_one, one_more, one_same, parts_stay, taken_of}
use Rattle.hg_push.proofs.Completing.{told_done}
use Rattle.hg_push.proofs.Leaving.{closed_later, closing_closes}

-- ---- how often the journal has a push

abbrev one_if : Bool → ℕ
one_if b = if b then 1 else 0

count_last : (p n : ℕ) (ns : List ℕ)
    → count_by (λ q. q == p) (ns ++ n ∷ []) ≡ count_by (λ q. q == p) ns + one_if (n == p)
count_last p n ns = let f : ℕ → ℕ = λ q. cond (q == p) 1 0 in omega (arith, sum_by-append f ns (n ∷ []))

kept_count : {R D E : Type 0} (s : Serial R) (n p : ℕ) (o : Option (Result (R × D) (Reason E)))
    → count_by (λ q. q == p) (kept s n o).journal ≡ count_by (λ q. q == p) s.journal + one_if ((n == p)
    && is_done (told o))
kept_count s n p None = either_way (n == p) (λ t. rw t (omega arith)) (λ f. rw f (omega arith))
kept_count s n p (Some (Err reason)) = either_way (n == p) (λ t. rw t (omega arith)) (λ f. rw f (omega arith))
kept_count s n p (Some (Ok done)) =
    either_way (n == p) (λ t. rw t (count_last p n s.journal ∙ rw t refl))
    (λ f. rw f (count_last p n s.journal ∙ rw f refl))

own : (p : ℕ) → (p == p) ≡ true
own p = grind (arith, nat_tests)

once_step : {A R D E : Type 0} (run : Running A R D E) (p : ℕ) (x : Taken A) (before : History A)
    (s : Serial R) (old : Option (Outcome D E)) → count_by (λ q. q == p) s.journal ≡ one_if (is_done old)
    → (is_closed p before ≡ false → old ≡ None)
    → count_by (λ q. q == p) (after run before x s).journal ≡ one_if
    (is_done (if is_of p x && not (is_closed p before) then told
    (decided run s.repo (parts p before) x) else old))
once_step run p x before s old same here =
    either_way (is_of p x)
    (λ t. let e : x.item.push ≡ p = grind (arith, nat_tests) in
    either_way (is_closed p before)
    (λ c. rw (t, e, c) same)
    (λ o.
    let none : count_by (λ q. q == p) s.journal ≡ 0 = same ∙ ap (λ k. one_if (is_done k)) (here o) in
    let more = kept_count s p p (decided run s.repo (parts p before) x) in
    rw (t, e, o) (more ∙ rw (none, own p) (omega arith))))
    (λ f.
    either_way (is_closed x.item.push before)
    (λ c. rw (f, c) same)
    (λ o.
    let more = kept_count s x.item.push p (decided run s.repo (parts x.item.push before) x) in
    rw (f, o) (more ∙ rw (f, same) (omega arith))))

pub once : {A R D E : Type 0} (run : Running A R D E) (first : R) (p : ℕ) (h : History A)
    → count_by (λ q. q == p) (serial run first h).journal ≡ one_if (is_done (outcome run first p h))
once run first p [] = refl
once run first p (x ∷ before) =
    once_step run p x before (serial run first before) (outcome run first p before) (once run first p before)
    (outcome_open run first p before)

-- ---- what later places leave

pub parts_later : {A : Type 0} (p : ℕ) (late h : History A) → is_closed p h ≡ true
    → parts p (late ++ h) ≡ parts p h
parts_later p [] h closed = refl
parts_later p (x ∷ late) h closed = parts_stay p x (late ++ h) (closed_later p late h closed)
    ∙ parts_later p late h closed

outcome_stays : {A R D E : Type 0} (run : Running A R D E) (first : R) (p : ℕ) (x : Taken A)
    (before : History A) → is_closed p before ≡ true
    → outcome run first p (x ∷ before) ≡ outcome run first p before
outcome_stays run first p x before closed = either_way (is_of p x) (λ t. rw (t, closed) refl) (λ f. rw f refl)

pub outcome_later : {A R D E : Type 0} (run : Running A R D E) (first : R) (p : ℕ) (late h : History A)
    → is_closed p h ≡ true → outcome run first p (late ++ h) ≡ outcome run first p h
outcome_later run first p [] h closed = refl
outcome_later run first p (x ∷ late) h closed =
    outcome_stays run first p x (late ++ h) (closed_later p late h closed)
    ∙ outcome_later run first p late h closed

-- a push is answered by the place that closed it
pub answered : {A R D E : Type 0} (run : Running A R D E) (first : R) (p : ℕ) (late before : History A)
    (x : Taken A) → IsClosing p x before
    → outcome run first p (late ++ x ∷ before) ≡ told
    (decided run (serial run first before).repo (parts p before) x)
answered run first p late before x closing =
    let mine : is_of p x ≡ true = rw closing.mine (own p) in
    let now : outcome run first p (x ∷ before) ≡ told
    (decided run (serial run first before).repo (parts p before) x) = rw (mine, closing.was_open) refl in
    outcome_later run first p late (x ∷ before) (closing_closes p x before closing) ∙ now

-- ---- the pushes that are done later lead on from the repository

pub record LeadsOn {A R D E : Type 0} (run : Running A R D E) (of : ℕ → List (Part A)) (from : R) (old : List ℕ)
    (new : Serial R) : Type 0 where
  pub more : List ℕ
  pub spelled : new.journal ≡ old ++ more
  pub runs : OneByOne run of from more new.repo

each_back : (P : ℕ → Type 0) (xs ys : List ℕ) → AllByRecursion P (xs ++ ys) → AllByRecursion P ys
each_back P [] ys all = all
each_back P (x ∷ xs) ys all = each_back P xs ys all.1

leads_step : {A R D E : Type 0} (run : Running A R D E) (from : R) (old : List ℕ) (x : Taken A)
    (before : History A) (s new : Serial R) → AllByRecursion (λ p. is_closed p before ≡ true) s.journal
    → LeadsOn run (λ p. parts p before) from old s → Goes run before x s new
    → LeadsOn run (λ p. parts p (x ∷ before)) from old new
leads_step run from old x before s new closed leads (Same same) =
    let back = each_back (λ p. is_closed p before ≡ true) old leads.more
    (subst (λ (ns : List ℕ). AllByRecursion (λ p. is_closed p before ≡ true) ns) leads.spelled closed) in
    record {
      more = leads.more;
      spelled = ap (λ t. t.journal) same ∙ leads.spelled;
      runs = rw same (one_same run _ _ from leads.more s.repo
          (each_more _ _ (λ p. parts_stay p x before) leads.more back) leads.runs);
    }
leads_step run from old x before s new closed leads (Ran here taken mark done ran same) =
    let back = each_back (λ p. is_closed p before ≡ true) old leads.more
    (subst (λ (ns : List ℕ). AllByRecursion (λ p. is_closed p before ≡ true) ns) leads.spelled closed) in
    record {
      more = leads.more ++ x.item.push ∷ [];
      spelled = ap (λ t. t.journal) same
          ∙ (ap (λ ns. ns ++ x.item.push ∷ []) leads.spelled
          ∙ append_assoc old leads.more (x.item.push ∷ []));
      runs = rw same (one_more run _ from leads.more s.repo done.0 x.item.push done.1
          (one_same run _ _ from leads.more s.repo
          (each_more _ _ (λ p. parts_stay p x before) leads.more back) leads.runs)
          (rw (end_parts x.item.push x before mark) ran));
    }

pub leads_on : {A R D E : Type 0} (run : Running A R D E) (first : R) (late h : History A)
    → LeadsOn run (λ p. parts p (late ++ h)) (serial run first h).repo (serial run first h).journal
    (serial run first (late ++ h))
leads_on run first [] h =
    record { more = []; spelled = sym (append-nil (serial run first h).journal); runs = refl }
leads_on run first (x ∷ late) h =
    leads_step run (serial run first h).repo (serial run first h).journal x (late ++ h)
    (serial run first (late ++ h)) (after run (late ++ h) x (serial run first (late ++ h)))
    (journal_closed run first (late ++ h)) (leads_on run first late h)
    (taken_of run (late ++ h) x (serial run first (late ++ h)))

-- ---- the place that closed a done push

record DoneAt {A R D E : Type 0} (run : Running A R D E) (first : R) (p : ℕ) (h : History A)
    (done : D) : Type 0 where
  pub late : History A
  pub at : Taken A
  pub before : History A
  pub spelled : h ≡ late ++ at ∷ before
  pub mine : at.item.push ≡ p
  pub was_open : is_closed p before ≡ false
  pub new : R
  pub ran : decided run (serial run first before).repo (parts p before) at ≡ Some (Ok (new, done))

done_later : {A R D E : Type 0} (run : Running A R D E) (first : R) (p : ℕ) (x : Taken A) (before : History A)
    (done : D) → DoneAt run first p before done → DoneAt run first p (x ∷ before) done
done_later run first p x before done d = record {
  late = x ∷ d.late;
  at = d.at;
  before = d.before;
  spelled = ap (λ b. x ∷ b) d.spelled;
  mine = d.mine;
  was_open = d.was_open;
  new = d.new;
  ran = d.ran;
}

same_push : {A : Type 0} (p : ℕ) (x : Taken A) → is_of p x ≡ true → x.item.push ≡ p
same_push p x t = grind (arith, nat_tests)

done_at : {A R D E : Type 0} (run : Running A R D E) (first : R) (p : ℕ) (h : History A) (done : D)
    → outcome run first p h ≡ Some (Done done) → DoneAt run first p h done
done_at run first p [] done is = cc
done_at run first p (x ∷ before) done is =
    either_way (is_of p x)
    (λ t.
    either_way (is_closed p before)
    (λ c. done_later run first p x before done (done_at run first p before done (rw (t, c) at is)))
    (λ o.
    let ran = told_done (decided run (serial run first before).repo (parts p before) x) done
    (rw (t, o) at is) in
    record {
      late = [];
      at = x;
      before = before;
      spelled = refl;
      mine = same_push p x t;
      was_open = o;
      new = ran.0;
      ran = ran.1;
    }))
    (λ f. done_later run first p x before done (done_at run first p before done (rw f at is)))

-- ---- a done push ran in its turn

turn_at : {A R D E : Type 0} (run : Running A R D E) (first : R) (p : ℕ) (late before : History A)
    (x : Taken A) (new : R) (done : D) → x.item.push ≡ p → is_closed p before ≡ false
    → decided run (serial run first before).repo (parts p before) x ≡ Some (Ok (new, done))
    → RanInTurn run (λ q. parts q (late ++ x ∷ before)) first (serial run first (late ++ x ∷ before)).journal
    (serial run first (late ++ x ∷ before)).repo p done
turn_at {A} {R} {D} {E} run first p late before x new done mine here is =
    let ends = decides_closes run (serial run first before).repo (parts p before) x (new, done) is in
    let now : serial run first (x ∷ before) ≡ record {
      repo = new;
      journal = (serial run first before).journal
          ++ p ∷ [];
    } = rw (mine, here, is) refl in
    let closing : IsClosing p x before = record {
      mine = mine;
      shuts = rw (ends.0, ends.1) refl;
      was_open = here;
    } in
    let closed = closing_closes p x before closing in
    let on = leads_on run first late (x ∷ before) in
    let own_parts : parts p (late ++ x ∷ before) ≡ parts p before = parts_later p late (x ∷ before) closed
    ∙ end_parts p x before ends.1 in
    let others : (q : ℕ) → is_closed q before ≡ true
    → parts q (late ++ x ∷ before) ≡ parts q before = λ q shut. parts_later q late (x ∷ before)
    (rw shut refl) ∙ parts_stay q x before shut in
    record {
      front = (serial run first before).journal;
      back = on.more;
      spelled = on.spelled ∙ (ap (λ s. s.journal ++ on.more) now
          ∙ append_assoc (serial run first before).journal (p ∷ []) on.more);
      before = (serial run first before).repo;
      after = new;
      earlier = one_same run _ _ first (serial run first before).journal (serial run first before).repo
          (each_more _ _ others (serial run first before).journal (journal_closed run first before))
          (one_by_one run first before);
      ran = rw own_parts ends.2;
      later = subst (λ (r : R). OneByOne run (λ q. parts q (late ++ x ∷ before)) r on.more
          (serial run first (late ++ x ∷ before)).repo) (ap (λ s. s.repo) now) on.runs;
    }

pub in_turn : {A R D E : Type 0} (run : Running A R D E) (first : R) (p : ℕ) (h : History A) (done : D)
    → outcome run first p h ≡ Some (Done done)
    → RanInTurn run (λ q. parts q h) first (serial run first h).journal (serial run first h).repo p done
in_turn {A} run first p h done is =
    let d = done_at run first p h done is in
    subst (λ (k : History A). RanInTurn run (λ q. parts q k) first (serial run first k).journal
    (serial run first k).repo p done) (sym d.spelled)
    (turn_at run first p d.late d.before d.at d.new done d.mine d.was_open d.ran)

-- ---- the journal leads to one repository

abbrev new_of : {R D E : Type 0} → R → Result (R × D) E → R
new_of other (Ok done) = done.0
new_of other (Err e) = other

pub alone : {A R D E : Type 0} (run : Running A R D E) (of : ℕ → List (Part A)) (first : R) (journal : List ℕ)
    (last other : R) → OneByOne run of first journal last → OneByOne run of first journal other → last ≡ other
alone run of first [] last other one two = sym one ∙ two
alone {A} {R} {D} {E} run of first (p ∷ journal) last other one two =
    let same : two.0 ≡ one.0 = ap (new_of first) (sym two.2 ∙ one.2) in
    alone run of one.0 journal last other one.3
    (subst (λ (mid : R). OneByOne run of mid journal other) same two.3)
