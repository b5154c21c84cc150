-- What ran in its turn is a step of the serial run of a journal.
use Rattle.std.proofs.Common.{ℕ, ◌≡◌, ◌<◌, List, [], ◌∷◌, ◌++◌, refl, sym, ap, ◌∙◌, subst, arith, length}
use Rattle.std.proofs.Common.{length-append, get_or, Result, Ok}
use Rattle.std.specs.List.{Contains}
use Rattle.std.proofs.lemmas.List.{get_or_at}
use Rattle.hg_types.specs.declared.part.Part.{Part}
use Rattle.hg_push.specs.Changed.{OneByOne, RanInTurn}
use Rattle.hg_push.specs.History.{Running}
use Rattle.hg_push.proofs.Turns.{alone}

joined : {A R D E : Type 0} (run : Running A R D E) (of : ℕ → List (Part A)) (front back : List ℕ)
    (first mid last : R) → OneByOne run of first front mid → OneByOne run of mid back last
    → OneByOne run of first (front ++ back) last
joined {A} {R} run of [] back first mid last same later =
    subst (λ (r : R). OneByOne run of r back last) (sym same) later
joined run of (p ∷ front) back first mid last (next, done, ran, rest) later =
    (next, done, ran, joined run of front back next mid last rest later)

pub whole : {A R D E : Type 0} (run : Running A R D E) (of : ℕ → List (Part A)) (first last : R)
    (journal : List ℕ) (p : ℕ) (done : D) → RanInTurn run of first journal last p done
    → OneByOne run of first journal last
whole run of first last journal p done turn =
    subst (λ (js : List ℕ). OneByOne run of first js last) (sym turn.spelled)
    (joined run of turn.front (p ∷ turn.back) first turn.before last turn.earlier
    (turn.after, done, turn.ran, turn.later))

pub there : {A R D E : Type 0} (run : Running A R D E) (of : ℕ → List (Part A)) (first last : R)
    (journal : List ℕ) (p : ℕ) (done : D) → RanInTurn run of first journal last p done → Contains journal p
there run of first last journal p done turn =
    let all = length-append turn.front (p ∷ turn.back) in
    let long = ap length turn.spelled in
    let within : length turn.front < length journal = omega arith in (
      length turn.front,
      within,
      ap (λ (js : List ℕ). get_or js (length turn.front) p) turn.spelled
          ∙ get_or_at turn.front p turn.back p (length turn.front) refl,
    )

of_ok : {X E : Type 0} (x y : X) (r : Result X E) → r ≡ Ok x → r ≡ Ok y → x ≡ y
of_ok x y r one two = cc

pub one_answer : {A R D E : Type 0} (run : Running A R D E) (of : ℕ → List (Part A)) (first last : R)
    (journal : List ℕ) (p : ℕ) (done other : D) (turn : RanInTurn run of first journal last p done)
    (again : RanInTurn run of first journal last p other) → turn.front ≡ again.front → done ≡ other
one_answer {A} {R} {D} {E} run of first last journal p done other turn again same =
    let before : turn.before ≡ again.before =
    alone run of first again.front turn.before again.before
    (subst (λ (js : List ℕ). OneByOne run of first js turn.before) same turn.earlier) again.earlier in
    ap (λ (x : R × D). x.1)
    (of_ok (turn.after, done) (again.after, other) (run again.before (of p))
    (ap (λ (r : R). run r (of p)) (sym before) ∙ turn.ran) again.ran)
