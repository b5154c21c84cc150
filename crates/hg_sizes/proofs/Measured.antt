-- A text is as long as it was measured.
use Rattle.std.proofs.Common.{◌≡◌, ℕ, zero, suc, ◌+◌, ◌-◌, ◌≤◌, Bool, true, false, cond, ltb, List, [], ◌∷◌, ◌++◌, length}
use Rattle.std.proofs.Common.{take, drop, Result, Ok, Err, refl, subst, arith}
use Rattle.std.specs.Prelude.{slice_range}
use Rattle.std.proofs.lemmas.Bool.{ltb-false}
use Rattle.std.proofs.lemmas.List.{length-append, length-take, length-drop}
use Rattle.hg_types.specs.Bytes.{IsBytes}
use Rattle.hg_delta.specs.declared.fault.DeltaFault.{DeltaFault}
use Rattle.hg_delta.specs.declared.fault.DeltaFault.TheVariants.{Short, Backwards, PastEnd, TooLong}
use Rattle.hg_delta.specs.Delta.{Applies, Hunk, piece_of}
use Rattle.hg_delta.specs.Faults.{IsOutcome, gives}
use Rattle.hg_delta.specs.Outcome.{◌>>=◌, hunk_at, hunk_headed, number_at, outcome_of, text_within}
use Rattle.hg_sizes.specs.declared.delta.Measure.{Measure}
use Rattle.hg_sizes.specs.Measures.{GivesTextsOf, measure_of, measure_within}

-- a hunk that was read lies in the base, behind the one before it
record Lies (size before : ℕ) (hunk : Hunk) : Type 0 where
  ascends : before ≤ hunk.start
  forward : hunk.start ≤ hunk.end
  within : hunk.end ≤ size

abbrev LiesIf : ℕ → ℕ → Result (Hunk × List ℕ) DeltaFault → Type 0
LiesIf size before (Ok x) = Lies size before x.0
LiesIf size before (Err fault) = Unit {0}

abbrev hunk_of : ℕ → ℕ → List ℕ → Hunk
hunk_of start end content = record { start = start; end = end; content = content }

headed_lies : (size before start end wanted : ℕ) (more : List ℕ) →
    LiesIf size before (hunk_headed size before start end wanted more)
unfolding hunk_headed
headed_lies size before start end wanted more =
    by (ltb start before) (ltb end start) (ltb size end) (ltb (length more) wanted) refl refl refl
  where
    by : (a b c d : Bool) → ltb start before ≡ a → ltb end start ≡ b → ltb size end ≡ c →
        LiesIf size before
        (cond a (Err Backwards) (cond b (Err Backwards) (cond c (Err PastEnd) (cond d (Err Short)
        (Ok (hunk_of start end (take wanted more), drop wanted more))))))
    by true b c d e f g = tt
    by false true c d e f g = tt
    by false false true d e f g = tt
    by false false false true e f g = tt
    by false false false false e f g = record {
      ascends = ltb-false _ _ e;
      forward = ltb-false _ _ f;
      within = ltb-false _ _ g;
    }

hunk_lies : (size before : ℕ) (bytes : List ℕ) → LiesIf size before (hunk_at size before bytes)
unfolding hunk_at
hunk_lies size before bytes = by (ltb (length bytes) 12)
  where
    by : (b : Bool) → LiesIf size before
        (cond b (Err Short) (hunk_headed size before (number_at 0 bytes) (number_at 4 bytes) (number_at 8 bytes)
        (drop 12 bytes)))
    by true = tt
    by false =
        headed_lies size before (number_at 0 bytes) (number_at 4 bytes) (number_at 8 bytes) (drop 12 bytes)

-- what a hunk gives is as long as what it keeps and what it brings
length-piece : (base : List ℕ) (before : ℕ) (hunk : Hunk) → Lies (length base) before hunk →
    length (piece_of base (before, hunk)) ≡ (hunk.start - before) + length hunk.content
length-piece base before hunk lies =
    omega (
      arith,
      lies.forward,
      lies.within,
      length-append (slice_range base before hunk.start) hunk.content,
      length-take (hunk.start - before) (drop before base),
      length-drop before base,
    )

-- the measure is that of the text, where there is one
abbrev SameLength : Result Measure DeltaFault → Result (List ℕ) DeltaFault → Type 0
SameLength measure (Ok text) = GivesTextsOf measure text
SameLength measure (Err fault) = Unit {0}

abbrev more_of : ℕ → ℕ → Measure → Result Measure DeltaFault
more_of kept brought more = Ok (record { kept = kept + more.kept; brought = brought + more.brought })

then_piece : (kept brought : ℕ) (piece : List ℕ) (measure : Result Measure DeltaFault) (text : Result (List ℕ) DeltaFault) →
    length piece ≡ kept + brought → SameLength measure text →
    SameLength (measure >>= more_of kept brought) (text >>= λ more. Ok (piece ++ more))
then_piece kept brought piece (Ok m) (Ok text) long same = omega (arith, long, same, length-append piece text)
then_piece kept brought piece (Err fault) (Ok text) long same = absurd same
then_piece kept brought piece measure (Err fault) long same = tt

within_same : (most : ℕ) (base : List ℕ) (before : ℕ) (bytes : List ℕ) →
    SameLength (measure_within most (length base) before bytes) (text_within most base before bytes)
unfolding measure_within text_within
within_same zero base before bytes = omega (arith, length-drop before base)
within_same (suc most) base before [] = omega (arith, length-drop before base)
within_same (suc most) base before (byte ∷ bytes) =
    by (hunk_at (length base) before (byte ∷ bytes)) (hunk_lies (length base) before (byte ∷ bytes))
    (within_same most base)
  where
    by : (r : Result (Hunk × List ℕ) DeltaFault) → LiesIf (length base) before r →
        ((end : ℕ) (after : List ℕ) →
        SameLength (measure_within most (length base) end after) (text_within most base end after)) →
        SameLength
        (r >>= λ x. measure_within most (length base) x.0.end x.1 >>= more_of (x.0.start - before) (length x.0.content))
        (r >>= λ x. text_within most base x.0.end x.1 >>= λ text. Ok (piece_of base (before, x.0) ++ text))
    by (Ok x) lies others =
        then_piece (x.0.start - before) (length x.0.content) (piece_of base (before, x.0))
        (measure_within most (length base) x.0.end x.1) (text_within most base x.0.end x.1)
        (length-piece base before x.0 lies) (others x.0.end x.1)
    by (Err fault) lies others = tt

-- a text that is not too long was read
abbrev gave : List ℕ → Result (List ℕ) DeltaFault
gave text = Ok text

abbrev refused : DeltaFault → Result (List ℕ) DeltaFault
refused fault = Err fault

was_not_long : (t text : List ℕ) (b : Bool) → cond b (refused TooLong) (gave t) ≡ gave text → gave t ≡ gave text
was_not_long t text true wrong = cc
was_not_long t text false same = same

was_read : (most : ℕ) (r : Result (List ℕ) DeltaFault) (text : List ℕ) →
    (r >>= λ t. cond (ltb most (length t)) (refused TooLong) (gave t)) ≡ gave text → r ≡ gave text
was_read most (Ok t) text is = was_not_long t text (ltb most (length t)) is
was_read most (Err fault) text is = cc

pub as_measured : (base delta text : List ℕ) (most : ℕ) → outcome_of base delta most ≡ Ok text →
    GivesTextsOf (measure_of (length base) delta) text
unfolding measure_of outcome_of
as_measured base delta text most is =
    subst (λ r. SameLength (measure_within (length delta) (length base) 0 delta) r)
    (was_read most (text_within (length delta) base 0 delta) text is) (within_same (length delta) base 0 delta)

-- what a delta gives is read
pub is_read : (base delta text : List ℕ) →
    ((base delta : List ℕ) (most : ℕ) → IsBytes delta → IsOutcome base delta most (outcome_of base delta most)) →
    ((base delta : List ℕ) (most : ℕ) (a b : Result (List ℕ) DeltaFault) → IsOutcome base delta most a →
    IsOutcome base delta most b → a ≡ b) →
    IsBytes delta → Applies base delta text → outcome_of base delta (length text) ≡ Ok text
is_read base delta text every once fits applies =
    once base delta (length text) (outcome_of base delta (length text)) (Ok text) (every base delta (length text) fits)
    (gives text applies (omega arith))
