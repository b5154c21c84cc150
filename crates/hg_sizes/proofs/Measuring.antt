-- A delta that is measured hunk by hunk.
use Rattle.std.proofs.Common.{◌≡◌, ℕ, zero, suc, ◌+◌, ◌-◌, ◌<◌, List, [], ◌∷◌, length, Result, Ok, Err, refl, ap}
use Rattle.std.proofs.Common.{◌∙◌, arith}
use Rattle.hg_delta.specs.declared.fault.DeltaFault.{DeltaFault}
use Rattle.hg_delta.specs.Delta.{Hunk}
use Rattle.hg_delta.specs.Outcome.{◌>>=◌, hunk_at}
use Rattle.hg_sizes.specs.declared.delta.Measure.{Measure}
use Rattle.hg_sizes.specs.Measures.{measure_of, measure_within}

abbrev pub counted : ℕ → ℕ → Measure
counted kept brought = record { kept = kept; brought = brought }

-- what is counted so far, and what is still to be counted
abbrev pub behind : ℕ → ℕ → Result Measure DeltaFault → Result Measure DeltaFault
behind kept brought (Ok m) = Ok (counted (kept + m.kept) (brought + m.brought))
behind kept brought (Err fault) = Err fault

both : (a b c d : ℕ) → a ≡ b → c ≡ d → counted a c ≡ counted b d
both a b c d e f = ap (λ (n : ℕ). counted n c) e ∙ ap (λ (n : ℕ). counted b n) f

-- nothing was counted yet
pub behind_none : (r : Result Measure DeltaFault) → r ≡ behind 0 0 r
behind_none (Ok m) = ap Ok (both m.kept (0 + m.kept) m.brought (0 + m.brought) (omega arith) (omega arith))
behind_none (Err fault) = refl

abbrev next_of : ℕ → ℕ → ℕ → Hunk × List ℕ → Result Measure DeltaFault
next_of turns size before x = measure_within turns size x.0.end x.1
    >>= λ more. Ok (counted ((x.0.start - before) + more.kept) (length x.0.content + more.brought))

one_more : (kept brought a b : ℕ) (r : Result Measure DeltaFault) →
    behind kept brought (r >>= λ more. Ok (counted (a + more.kept) (b + more.brought)))
    ≡ behind (kept + a) (brought + b) r
one_more kept brought a b (Ok m) =
    ap Ok (both (kept + (a + m.kept)) ((kept + a) + m.kept) (brought + (b + m.brought)) ((brought + b) + m.brought)
    (omega arith) (omega arith))
one_more kept brought a b (Err fault) = refl

steps : (turns size before : ℕ) (rest : List ℕ) → 0 < length rest →
    measure_within (suc turns) size before rest ≡ hunk_at size before rest >>= next_of turns size before
unfolding measure_within
steps turns size before [] some = absurd (omega arith)
steps turns size before (byte ∷ bytes) some = refl

-- a hunk is counted
pub counts_hunk : (turns left size before kept brought : ℕ) (rest after : List ℕ) (hunk : Hunk) → left ≡ suc turns →
    0 < length rest → hunk_at size before rest ≡ Ok (hunk, after) →
    behind kept brought (measure_within left size before rest)
    ≡ behind (kept + (hunk.start - before)) (brought + length hunk.content) (measure_within turns size hunk.end after)
counts_hunk turns left size before kept brought rest after hunk is some read =
    ap (λ (n : ℕ). behind kept brought (measure_within n size before rest)) is
    ∙ ap (behind kept brought) (steps turns size before rest some
    ∙ ap (λ (r : Result (Hunk × List ℕ) DeltaFault). r >>= next_of turns size before) read)
    ∙ one_more kept brought (hunk.start - before) (length hunk.content) (measure_within turns size hunk.end after)

-- a hunk has a fault
pub meets_fault : (turns left size before kept brought : ℕ) (rest : List ℕ) (fault : DeltaFault) → left ≡ suc turns →
    0 < length rest → hunk_at size before rest ≡ Err fault →
    behind kept brought (measure_within left size before rest) ≡ Err fault
meets_fault turns left size before kept brought rest fault is some read =
    ap (λ (n : ℕ). behind kept brought (measure_within n size before rest)) is
    ∙ ap (behind kept brought) (steps turns size before rest some
    ∙ ap (λ (r : Result (Hunk × List ℕ) DeltaFault). r >>= next_of turns size before) read)

-- no bytes are left
pub ends_delta : (left size before kept brought : ℕ) (rest : List ℕ) → rest ≡ [] →
    behind kept brought (measure_within left size before rest) ≡ Ok (counted (kept + (size - before)) brought)
unfolding measure_within
ends_delta zero size before kept brought rest is =
    ap (λ (n : ℕ). Ok (counted (kept + (size - before)) n)) (omega arith)
ends_delta (suc left) size before kept brought rest is =
    ap (λ (bytes : List ℕ). behind kept brought (measure_within (suc left) size before bytes)) is
    ∙ ap (λ (n : ℕ). Ok (counted (kept + (size - before)) n)) (omega arith)

-- no turn is left
pub ends_turns : (left size before kept brought : ℕ) (rest : List ℕ) → left ≡ 0 →
    behind kept brought (measure_within left size before rest) ≡ Ok (counted (kept + (size - before)) brought)
unfolding measure_within
ends_turns left size before kept brought rest is =
    ap (λ (n : ℕ). behind kept brought (measure_within n size before rest)) is
    ∙ ap (λ (n : ℕ). Ok (counted (kept + (size - before)) n)) (omega arith)

-- nothing was counted
pub begins : (size : ℕ) (delta : List ℕ) →
    measure_of size delta ≡ behind 0 0 (measure_within (length delta - 0) size 0 delta)
unfolding measure_of
begins size delta = behind_none (measure_within (length delta) size 0 delta)
    ∙ ap (λ (n : ℕ). behind 0 0 (measure_within n size 0 delta)) (omega arith)
