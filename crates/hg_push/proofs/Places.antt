-- The places of the journal, which only grows.
use Rattle.std.proofs.Common.{ℕ, Bool, true, false, ◌≡◌, ◌==◌, ◌+◌, ◌≤◌, List, [], ◌∷◌, ◌++◌, refl, sym}
use Rattle.std.proofs.Common.{◌∙◌, ap, subst, cond, arith, length, length-append, append_assoc, Some}
use Rattle.std.proofs.Common.{if◌then◌else◌}
use Rattle.std.specs.List.{count_by, list_any}
use Rattle.std.proofs.lemmas.Bool.Decides.{nat_tests}
use Rattle.std.proofs.lemmas.List.Folds.{list_any-append}
use Rattle.std.proofs.lemmas.List.Sums.{sum_by-append}
use mathlib.Core.List.{IsPrefix}
use Rattle.hg_push.specs.declared.outcome.Outcome.{Outcome}
use Rattle.hg_push.specs.declared.outcome.Outcome.TheVariants.{Done, Aborted}
use Rattle.hg_push.specs.History.{History, Running, outcome, parts, serial}
use Rattle.hg_push.specs.Changed.{RanInTurn, is_done}
use Rattle.hg_push.specs.Places.{IsPlace, RestsOn}
use Rattle.hg_push.proofs.Journals.{done_journal}
use Rattle.hg_push.proofs.Turns.{in_turn, leads_on, once}

-- ---- the journal only grows

pub journal_grows : {A R D E : Type 0} (run : Running A R D E) (first : R) (late before : History A)
    → IsPrefix (serial run first before).journal (serial run first (late ++ before)).journal
journal_grows run first late before = let on = leads_on run first late before in (on.more, sym on.spelled)

pub place_stays : {A R D E : Type 0} (run : Running A R D E) (first : R) (late before : History A) (p place : ℕ)
    → IsPlace run first before p place → IsPlace run first (late ++ before) p place
place_stays run first late before p place at =
    let on = leads_on run first late before in
    record {
      front = at.front;
      back = at.back ++ on.more;
      spelled = on.spelled ∙ (ap (λ ns. ns ++ on.more) at.spelled ∙ append_assoc at.front (p ∷ at.back) on.more);
      count = at.count;
    }

-- ---- a push has one place, where it is done

pub done_place : {A R D E : Type 0} (run : Running A R D E) (first : R) (h : History A) (p : ℕ) (done : D)
    → outcome run first p h ≡ Some (Done done) → (place : ℕ) × IsPlace run first h p place
done_place run first h p done is =
    let turn = in_turn run first p h done is in
    (length turn.front, record { front = turn.front; back = turn.back; spelled = turn.spelled; count = refl })

own : (p : ℕ) → (p == p) ≡ true
own p = grind (arith, nat_tests)

in_middle : (p : ℕ) (front back : List ℕ) → list_any (λ q. q == p) (front ++ p ∷ back) ≡ true
in_middle p front back = list_any-append (λ q. q == p) front (p ∷ back) ∙ rw (own p) (grind (arith, nat_tests))

pub placed_done : {A R D E : Type 0} (run : Running A R D E) (first : R) (h : History A) (p place : ℕ)
    → IsPlace run first h p place → is_done (outcome run first p h) ≡ true
placed_done run first h p place at =
    sym (done_journal run first p h) ∙ (ap (λ ns. list_any (λ q. q == p) ns) at.spelled
    ∙ in_middle p at.front at.back)

-- the first number and the others
count_first : (p x : ℕ) (xs : List ℕ)
    → count_by (λ q. q == p) (x ∷ xs) ≡ count_by (λ q. q == p) xs + cond (x == p) 1 0
count_first p x xs = let f : ℕ → ℕ = λ q. cond (q == p) 1 0 in omega (arith, sum_by-append f (x ∷ []) xs)

count_mine : (p : ℕ) (xs : List ℕ) → count_by (λ q. q == p) (p ∷ xs) ≡ count_by (λ q. q == p) xs + 1
count_mine p xs =
    let mine : cond (p == p) 1 0 ≡ 1 = rw (own p) refl in
    count_first p p xs ∙ ap (λ n. count_by (λ q. q == p) xs + n) mine

some_more : (p : ℕ) (front back : List ℕ) → 1 ≤ count_by (λ q. q == p) (front ++ p ∷ back)
some_more p [] back = omega (arith, count_mine p back)
some_more p (x ∷ front) back =
    omega (arith, count_first p x (front ++ p ∷ back), some_more p front back)

-- where a number stands once, what stands before it has one length
one_front : (p : ℕ) (a b c d : List ℕ) → a ++ p ∷ b ≡ c ++ p ∷ d
    → count_by (λ q. q == p) (a ++ p ∷ b) ≤ 1 → length a ≡ length c
one_front p [] b [] d same low = refl
one_front p [] b (y ∷ c) d same low =
    let rest : b ≡ c ++ p ∷ d = cc in
    let more : 1 ≤ count_by (λ q. q == p) b = subst (λ (ns : List ℕ). 1 ≤ count_by (λ q. q == p) ns) (sym rest)
    (some_more p c d) in
    absurd (omega (arith, more, low, count_mine p b))
one_front p (x ∷ a) b [] d same low =
    let head : x ≡ p = cc in
    let count : count_by (λ q. q == p) (x ∷ a ++ p ∷ b) ≡ count_by (λ q. q == p) (a ++ p ∷ b) + 1 = subst
    (λ (n : ℕ). count_by (λ q. q == p) (n ∷ a ++ p ∷ b) ≡ count_by (λ q. q == p) (a ++ p ∷ b) + 1) (sym head)
    (count_mine p (a ++ p ∷ b)) in
    absurd (omega (arith, some_more p a b, low, count))
one_front p (x ∷ a) b (y ∷ c) d same low =
    let rest : a ++ p ∷ b ≡ c ++ p ∷ d = cc in
    let fewer : count_by (λ q. q == p) (a ++ p ∷ b) ≤ 1 = omega (arith, low, count_first p x (a ++ p ∷ b)) in
    omega (arith, one_front p a b c d rest fewer)

few : (b : Bool) → (if b then 1 else 0) ≤ 1
few true = omega arith
few false = omega arith

journal_once : {A R D E : Type 0} (run : Running A R D E) (first : R) (h : History A) (p : ℕ)
    → count_by (λ q. q == p) (serial run first h).journal ≤ 1
journal_once run first h p = rw (once run first p h) (few (is_done (outcome run first p h)))

pub one_place : {A R D E : Type 0} (run : Running A R D E) (first : R) (h : History A) (p place other : ℕ)
    → IsPlace run first h p place → IsPlace run first h p other → place ≡ other
one_place run first h p place other at also =
    let low = subst (λ (ns : List ℕ). count_by (λ q. q == p) ns ≤ 1) at.spelled (journal_once run first h p) in
    sym at.count ∙ (one_front p at.front at.back also.front also.back (sym at.spelled ∙ also.spelled) low
    ∙ also.count)

pub ran_there : {A R D E : Type 0} (run : Running A R D E) (first : R) (h : History A) (p place : ℕ) (done : D)
    → IsPlace run first h p place → outcome run first p h ≡ Some (Done done)
    → (turn : RanInTurn run (λ q. parts q h) first (serial run first h).journal (serial run first h).repo p done)
    × (length turn.front ≡ place)
ran_there run first h p place done at is =
    let turn = in_turn run first p h done is in (
      turn,
      one_place run first h p (length turn.front) place
          (record { front = turn.front; back = turn.back; spelled = turn.spelled; count = refl }) at,
    )

-- ---- what an answer rests on

within : (front back : List ℕ) (p place rests : ℕ) → length front ≡ place → rests ≡ place + 1
    → rests ≤ length (front ++ p ∷ back)
within front back p place rests count is = omega (arith, length-append front (p ∷ back), count, is)

pub rests_within : {A R D E : Type 0} (run : Running A R D E) (first : R) (h : History A) (p : ℕ)
    (how : Outcome D E) (rests : ℕ) → RestsOn run first h p how rests
    → rests ≤ length (serial run first h).journal
rests_within run first h p (Done done) rests on =
    let at = on.1 in
    subst (λ (ns : List ℕ). rests ≤ length ns) (sym at.spelled) (within at.front at.back p on.0 rests at.count on.2)
rests_within run first h p (Aborted reason) rests on = omega (arith, on)
