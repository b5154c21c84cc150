-- What a history keeps where all items of a push that is not done are taken out.
use Rattle.std.proofs.Common.{ℕ, Bool, true, false, ◌≡◌, ◌≢◌, ◌&&◌, ◌||◌, ◌++◌, not, List, [], ◌∷◌, refl, sym}
use Rattle.std.proofs.Common.{◌∙◌, ap, arith, if◌then◌else◌, Option, Some, None, Result, Ok, Err}
use Rattle.std.proofs.lemmas.Bool.Decides.{nat_tests}
use Rattle.hg_push.specs.declared.outcome.Outcome.{Outcome}
use Rattle.hg_push.specs.declared.outcome.Outcome.TheVariants.{Done}
use Rattle.hg_push.specs.declared.outcome.Reason.{Reason}
use Rattle.hg_push.specs.declared.outcome.Reason.TheVariants.{NoMemory}
use Rattle.hg_types.specs.declared.part.Part.{Part}
use Rattle.hg_parts.specs.declared.item.What.{What}
use Rattle.hg_parts.specs.declared.item.What.TheVariants.{Part as a_part, End, Cut}
use Rattle.hg_parts.specs.declared.item.Taken.{Taken}
use Rattle.hg_push.specs.History.{History, Running, Serial, is_of, closes, is_closed, parts, serial, outcome}
use Rattle.hg_push.specs.History.{decided, decided_by, told, kept, is_mark}
use Rattle.hg_push.specs.Changed.{is_done, without}
use Rattle.hg_push.specs.World.{items_in, items_of}
use Rattle.hg_push.proofs.Trims.{either_way}
use Rattle.hg_push.proofs.Worlds.{items_of-append, items_same}

-- p was answered as done
abbrev IsDone : {A R D E : Type 0} → Running A R D E → R → ℕ → History A → Type 0
IsDone {A} {R} {D} run first p h = (done : D) × (outcome run first p h ≡ Some (Done done))

told_open_at : {A R D E : Type 0} (run : Running A R D E) (repo : R) (ps : List (Part A)) (refused : Bool)
    (index : ℕ) (what : What A) → (refused || is_mark what) ≡ false
    → told (if refused then Some (Err NoMemory) else decided_by run repo ps index what) ≡ None
told_open_at run repo ps true index what stays = cc
told_open_at run repo ps false index (a_part part) stays = refl
told_open_at run repo ps false index End stays = cc
told_open_at run repo ps false index (Cut reason) stays = cc

told_open : {A R D E : Type 0} (run : Running A R D E) (repo : R) (ps : List (Part A)) (x : Taken A)
    → closes x ≡ false → told (decided run repo ps x) ≡ None
told_open run repo ps x stays = told_open_at run repo ps x.refused x.item.index x.item.what stays

or_left : (a b : Bool) → (a || b) ≡ false → a ≡ false
or_left false b h = refl
or_left true b h = cc

without_closed_step : {A : Type 0} (p q : ℕ) (x : Taken A) (before cut : History A) → q ≢ p
    → is_closed q cut ≡ is_closed q before
    → is_closed q (if is_of p x then cut else x ∷ cut) ≡ is_closed q (x ∷ before)
without_closed_step p q x before cut other same = grind (arith, nat_tests, same)

pub without_closed : {A : Type 0} (p q : ℕ) (h : History A) → q ≢ p
    → is_closed q (without p h) ≡ is_closed q h
without_closed p q [] other = refl
without_closed p q (x ∷ before) other =
    without_closed_step p q x before (without p before) other (without_closed p q before other)

without_parts_step : {A : Type 0} (p q : ℕ) (x : Taken A) (before cut : History A) → q ≢ p
    → is_closed q cut ≡ is_closed q before → parts q cut ≡ parts q before
    → parts q (if is_of p x then cut else x ∷ cut) ≡ parts q (x ∷ before)
without_parts_step p q x before cut other same also = grind (arith, nat_tests, same, also)

pub without_parts : {A : Type 0} (p q : ℕ) (h : History A) → q ≢ p → parts q (without p h) ≡ parts q h
without_parts p q [] other = refl
without_parts p q (x ∷ before) other =
    without_parts_step p q x before (without p before) other (without_closed p q before other)
    (without_parts p q before other)

-- an open push has no outcome
outcome_open_step : {A R D E : Type 0} (run : Running A R D E) (repo : R) (p : ℕ) (x : Taken A)
    (before : History A) (old : Option (Outcome D E)) → old ≡ None → is_closed p (x ∷ before) ≡ false
    → (if is_of p x && not (is_closed p before) then told
    (decided run repo (parts p before) x) else old) ≡ None
outcome_open_step run repo p x before old none is_open =
    either_way (is_of p x)
    (λ t. either_way (is_closed p before) (λ c. rw (t, c) none)
    (λ o. let stays : closes x ≡ false = grind (arith, is_open) in
    rw (t, o) (told_open run repo (parts p before) x stays)))
    (λ f. rw f none)

pub outcome_open : {A R D E : Type 0} (run : Running A R D E) (first : R) (p : ℕ) (h : History A)
    → is_closed p h ≡ false → outcome run first p h ≡ None
outcome_open run first p [] is_open = refl
outcome_open run first p (x ∷ before) is_open =
    outcome_open_step run (serial run first before).repo p x before (outcome run first p before)
    (outcome_open run first p before (or_left _ _ is_open)) is_open

-- where it is not done, a push leaves the state as it was
kept_unless_done : {R D E : Type 0} (s : Serial R) (p : ℕ) (o : Option (Result (R × D) (Reason E)))
    → ((done : D) → told o ≢ Some (Done done)) → kept s p o ≡ s
kept_unless_done s p None not_done = refl
kept_unless_done s p (Some (Err reason)) not_done = refl
kept_unless_done s p (Some (Ok done)) not_done = absurd (not_done done.1 refl)

without_serial_step : {A R D E : Type 0} (run : Running A R D E) (first : R) (p : ℕ) (x : Taken A)
    (before cut : History A) → ((q : ℕ) → q ≢ p → is_closed q cut ≡ is_closed q before)
    → ((q : ℕ) → q ≢ p → parts q cut ≡ parts q before)
    → (¬ IsDone run first p before → serial run first cut ≡ serial run first before)
    → ¬ IsDone run first p (x ∷ before)
    → serial run first (if is_of p x then cut else x ∷ cut) ≡ serial run first (x ∷ before)
without_serial_step run first p x before cut same also state not_done =
    either_way (is_of p x)
    (λ t. let e : x.item.push ≡ p = grind (arith, nat_tests) in either_way (is_closed p before)
    (λ c. let old : outcome run first p (x ∷ before) ≡ outcome run first p before = rw (t, c) in
    rw (t, e, c) (state (λ d. not_done (d.0, old ∙ d.1))))
    (λ o.
    let new : outcome run first p (x ∷ before) ≡ told
    (decided run (serial run first before).repo (parts p before) x) = rw (t, o) in
    let none : outcome run first p before ≡ None = outcome_open run first p before o in
    rw (t, e, o) (state (λ d. let h : None ≡ Some (Done d.0) = sym none ∙ d.1 in cc)
    ∙ sym (kept_unless_done _ p _ (λ d h. not_done (d, new ∙ h))))))
    (λ f. let other : x.item.push ≢ p = grind (arith, nat_tests) in
    let old : outcome run first p (x ∷ before) ≡ outcome run first p before = rw f in
    let s : serial run first cut ≡ serial run first before = state (λ d. not_done (d.0, old ∙ d.1)) in
    rw (f, same x.item.push other, also x.item.push other, s))

without_serial : {A R D E : Type 0} (run : Running A R D E) (first : R) (p : ℕ) (h : History A)
    → ¬ IsDone run first p h → serial run first (without p h) ≡ serial run first h
without_serial run first p [] not_done = refl
without_serial run first p (x ∷ before) not_done =
    without_serial_step run first p x before (without p before) (λ q. without_closed p q before)
    (λ q. without_parts p q before) (without_serial run first p before) not_done

without_outcome_step : {A R D E : Type 0} (run : Running A R D E) (first : R) (p q : ℕ) (x : Taken A)
    (before cut : History A) → q ≢ p → is_closed q cut ≡ is_closed q before → parts q cut ≡ parts q before
    → serial run first cut ≡ serial run first before → outcome run first q cut ≡ outcome run first q before
    → outcome run first q (if is_of p x then cut else x ∷ cut) ≡ outcome run first q (x ∷ before)
without_outcome_step run first p q x before cut other same also state old =
    either_way (is_of p x)
    (λ t. let away : is_of q x ≡ false = grind (arith, nat_tests) in rw (t, away) old)
    (λ f. rw (f, same, also, state, old))

not_done_before : {A R D E : Type 0} (run : Running A R D E) (first : R) (p : ℕ) (x : Taken A)
    (before : History A) → ¬ IsDone run first p (x ∷ before) → ¬ IsDone run first p before
not_done_before run first p x before not_done d =
    either_way (is_closed p before)
    (λ c. let old : outcome run first p (x ∷ before) ≡ outcome run first p before = either_way (is_of p x)
    (λ t. rw (t, c)) (λ f. rw f) in not_done (d.0, old ∙ d.1))
    (λ o. let h : None ≡ Some (Done d.0) = sym (outcome_open run first p before o) ∙ d.1 in cc)

without_outcome : {A R D E : Type 0} (run : Running A R D E) (first : R) (p q : ℕ) (h : History A) → q ≢ p
    → ¬ IsDone run first p h → outcome run first q (without p h) ≡ outcome run first q h
without_outcome run first p q [] other not_done = refl
without_outcome run first p q (x ∷ before) other not_done =
    let nd = not_done_before run first p x before not_done in
    without_outcome_step run first p q x before (without p before) other (without_closed p q before other)
    (without_parts p q before other) (without_serial run first p before nd)
    (without_outcome run first p q before other nd)

not_done : {A R D E : Type 0} (run : Running A R D E) (first : R) (p : ℕ) (h : History A)
    → is_done (outcome run first p h) ≡ false → ¬ IsDone run first p h
not_done run first p h none d = let t : is_done (outcome run first p h) ≡ true = ap is_done d.1 in cc

pub aborted_serial : {A R D E : Type 0} (run : Running A R D E) (first : R) (p : ℕ) (h : History A)
    → is_done (outcome run first p h) ≡ false → serial run first (without p h) ≡ serial run first h
aborted_serial run first p h none = without_serial run first p h (not_done run first p h none)

pub aborted_outcome : {A R D E : Type 0} (run : Running A R D E) (first : R) (p q : ℕ) (h : History A) → q ≢ p
    → is_done (outcome run first p h) ≡ false → outcome run first q (without p h) ≡ outcome run first q h
aborted_outcome run first p q h other none =
    without_outcome run first p q h other (not_done run first p h none)

-- ---- all its items are left out, and no other

pub without_gone : {A : Type 0} (p : ℕ) (h : History A) → items_of p (items_in (without p h)) ≡ []
without_gone p [] = refl
without_gone p (x ∷ before) =
    either_way (is_of p x) (λ t. rw t (without_gone p before))
    (λ f. rw f (items_same p x (without p before) f ∙ without_gone p before))

pub items_kept : {A : Type 0} (q : ℕ) (x : Taken A) (before cut : History A)
    → items_of q (items_in cut) ≡ items_of q (items_in before)
    → items_of q (items_in (x ∷ cut)) ≡ items_of q (items_in (x ∷ before))
items_kept q x before cut same = items_of-append q (items_in cut) (x.item ∷ [])
    ∙ (ap (λ is. is ++ items_of q (x.item ∷ [])) same
    ∙ sym (items_of-append q (items_in before) (x.item ∷ [])))

pub of_another : {A : Type 0} (p q : ℕ) (x : Taken A) → q ≢ p → is_of p x ≡ true → is_of q x ≡ false
of_another p q x other mine = grind (arith, nat_tests)

pub without_others : {A : Type 0} (p q : ℕ) (h : History A) → q ≢ p
    → items_of q (items_in (without p h)) ≡ items_of q (items_in h)
without_others p q [] other = refl
without_others p q (x ∷ before) other =
    either_way (is_of p x)
    (λ t. rw t (without_others p q before other ∙ sym (items_same q x before (of_another p q x other t))))
    (λ f. rw f (items_kept q x before (without p before) (without_others p q before other)))
