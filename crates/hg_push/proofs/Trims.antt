-- What a history keeps where the late items of a push are taken out.
use Rattle.std.proofs.Common.{ℕ, Bool, true, false, ◌≡◌, ◌&&◌, not, [], ◌∷◌, refl, arith, if◌then◌else◌}
use Rattle.std.proofs.lemmas.Bool.Decides.{nat_tests}
use Rattle.hg_parts.specs.declared.item.Taken.{Taken}
use Rattle.hg_push.specs.History.{History, Running, is_of, is_closed, parts, serial, outcome, told}
use Rattle.hg_push.specs.Changed.{trimmed}

pub either_way : {G : Type 0} (b : Bool) → (b ≡ true → G) → (b ≡ false → G) → G
either_way true t f = t refl
either_way false t f = f refl

trimmed_closed_step : {A : Type 0} (p q : ℕ) (x : Taken A) (before cut : History A)
    → is_closed q cut ≡ is_closed q before
    → is_closed q (if is_of p x && is_closed p before then cut else x ∷ cut) ≡ is_closed q (x ∷ before)
trimmed_closed_step p q x before cut same = grind (arith, nat_tests, same)

pub trimmed_closed : {A : Type 0} (p q : ℕ) (h : History A) → is_closed q (trimmed p h) ≡ is_closed q h
trimmed_closed p q [] = refl
trimmed_closed p q (x ∷ before) =
    trimmed_closed_step p q x before (trimmed p before) (trimmed_closed p q before)

trimmed_parts_step : {A : Type 0} (p q : ℕ) (x : Taken A) (before cut : History A)
    → is_closed q cut ≡ is_closed q before → parts q cut ≡ parts q before
    → parts q (if is_of p x && is_closed p before then cut else x ∷ cut) ≡ parts q (x ∷ before)
trimmed_parts_step p q x before cut same also = grind (arith, nat_tests, same, also)

pub trimmed_parts : {A : Type 0} (p q : ℕ) (h : History A) → parts q (trimmed p h) ≡ parts q h
trimmed_parts p q [] = refl
trimmed_parts p q (x ∷ before) =
    trimmed_parts_step p q x before (trimmed p before) (trimmed_closed p q before) (trimmed_parts p q before)

trimmed_serial_step : {A R D E : Type 0} (run : Running A R D E) (first : R) (p : ℕ) (x : Taken A)
    (before cut : History A) → is_closed x.item.push cut ≡ is_closed x.item.push before
    → parts x.item.push cut ≡ parts x.item.push before → serial run first cut ≡ serial run first before
    → serial run first (if is_of p x && is_closed p before then cut else x ∷ cut) ≡ serial run first (x
    ∷ before)
trimmed_serial_step run first p x before cut same also state =
    either_way (is_of p x && is_closed p before)
    (λ t. let e : x.item.push ≡ p = grind (arith, nat_tests) in
    let c : is_closed x.item.push before ≡ true = rw e (grind (arith, t)) in rw (t, c) state)
    (λ f. rw (f, same, also, state))

pub trimmed_serial : {A R D E : Type 0} (run : Running A R D E) (first : R) (p : ℕ) (h : History A)
    → serial run first (trimmed p h) ≡ serial run first h
trimmed_serial run first p [] = refl
trimmed_serial run first p (x ∷ before) =
    trimmed_serial_step run first p x before (trimmed p before) (trimmed_closed p x.item.push before)
    (trimmed_parts p x.item.push before) (trimmed_serial run first p before)

trimmed_outcome_step : {A R D E : Type 0} (run : Running A R D E) (first : R) (p q : ℕ) (x : Taken A)
    (before cut : History A) → is_closed q cut ≡ is_closed q before → parts q cut ≡ parts q before
    → serial run first cut ≡ serial run first before → outcome run first q cut ≡ outcome run first q before
    → outcome run first q (if is_of p x && is_closed p before then cut else x ∷ cut) ≡ outcome run first q (x
    ∷ before)
trimmed_outcome_step run first p q x before cut same also state told =
    either_way (is_of p x && is_closed p before)
    (λ t. rw t (either_way (is_of q x && not (is_closed q before)) (λ s. grind (arith, nat_tests))
    (λ n. rw n told)))
    (λ f. rw (f, same, also, state, told))

pub trimmed_outcome : {A R D E : Type 0} (run : Running A R D E) (first : R) (p q : ℕ) (h : History A)
    → outcome run first q (trimmed p h) ≡ outcome run first q h
trimmed_outcome run first p q [] = refl
trimmed_outcome run first p q (x ∷ before) =
    trimmed_outcome_step run first p q x before (trimmed p before) (trimmed_closed p q before)
    (trimmed_parts p q before) (trimmed_serial run first p before) (trimmed_outcome run first p q before)
