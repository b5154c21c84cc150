-- Reading a delta from left to right gives an outcome of it.
use Rattle.std.proofs.Common.{◌≡◌, ◌≢◌, ℕ, zero, suc, ◌+◌, ◌^◌, ◌<◌, ◌≤◌, Bool, true, false, cond, ltb, List}
use Rattle.std.proofs.Common.{[], ◌∷◌, ◌++◌, length, take, drop, Result, Ok, Err, refl, sym, ap, subst, ◌∙◌}
use Rattle.std.proofs.Common.{append_assoc, arith, inl, inr}
use Rattle.std.proofs.lemmas.Bool.{ltb-true, ltb-false}
use Rattle.std.proofs.lemmas.List.{take-append-drop, length-append, length-take, length-drop, drop-drop}
use Rattle.std.proofs.lemmas.List.{get_or-drop}
use Rattle.std.specs.Result.{result_map_both}
use Rattle.hg_types.specs.Bytes.{IsBytes}
use Rattle.hg_delta.specs.declared.fault.DeltaFault.{DeltaFault}
use Rattle.hg_delta.specs.declared.fault.DeltaFault.TheVariants.{Short, Backwards, PastEnd, TooLong, NoMemory}
use Rattle.hg_delta.specs.Delta.{Hunk, number_bytes, header, hunk_bytes, IsPlaced, piece_of, Applies}
use Rattle.hg_delta.specs.Faults.{HasHeader, IsHunkFault, BreaksAt, IsOutcome, gives, breaks, exceeds}
use Rattle.hg_delta.specs.Outcome.{◌>>=◌, number_at, hunk_headed, hunk_at, text_within, outcome_of}
use Rattle.hg_delta.proofs.Numbers.{length-header, taken_fits, number_is}
use Rattle.hg_delta.proofs.Hunks.{Took, took_none, took_more, took_all, took_broken}
use Rattle.hg_delta.proofs.Readings.{regrouped, outcome_once}

IsBytes-drop : (n : ℕ) (bytes : List ℕ) → IsBytes bytes → IsBytes (drop n bytes)
IsBytes-drop n bytes fits i = rw get_or-drop (fits (n + i))

-- a number at the front
number_fits : (bytes : List ℕ) → IsBytes bytes → 4 ≤ length bytes → number_at 0 bytes < 2 ^ 32
number_fits bytes fits long =
    let front : IsBytes (take 4 bytes) = taken_fits bytes fits in
    omega (arith, front 0, front 1, front 2, front 3)

number_spells : (bytes : List ℕ) → IsBytes bytes → 4 ≤ length bytes → bytes ≡ number_bytes (number_at 0 bytes)
    ++ drop 4 bytes
number_spells bytes fits long = number_is bytes (number_at 0 bytes) fits long refl

-- the header at the front
header_reads : (bytes : List ℕ) → IsBytes bytes → 12 ≤ length bytes
    → HasHeader bytes (number_at 0 bytes) (number_at 4 bytes) (number_at 8 bytes) (drop 12 bytes)
header_reads bytes fits long =
    let four = drop 4 bytes in
    let eight = drop 8 bytes in
    let four_fits : IsBytes four = IsBytes-drop 4 bytes fits in
    let eight_fits : IsBytes eight = IsBytes-drop 8 bytes fits in
    let four_long : 4 ≤ length four = omega (arith, length-drop 4 bytes) in
    let eight_long : 4 ≤ length eight = omega (arith, length-drop 8 bytes) in
    let start = number_at 0 bytes in
    let end = number_at 4 bytes in
    let size = number_at 8 bytes in
    let last : eight ≡ number_bytes size ++ drop 12 bytes = number_spells eight eight_fits eight_long
    ∙ ap (λ (x : List ℕ). number_bytes size ++ x) (drop-drop 4 8 bytes) in
    let middle : four ≡ number_bytes end ++ (number_bytes size ++ drop 12 bytes) =
    number_spells four four_fits four_long
    ∙ ap (λ (x : List ℕ). number_bytes end ++ x) (drop-drop 4 4 bytes ∙ last) in
    record {
      start_fits = number_fits bytes fits (omega arith);
      end_fits = number_fits four four_fits four_long;
      size_fits = number_fits eight eight_fits eight_long;
      spelled = number_spells bytes fits (omega arith)
          ∙ (ap (λ (x : List ℕ). number_bytes start ++ x) middle
          ∙ sym (regrouped start end size (drop 12 bytes)));
    }

-- a whole hunk that stands at the front
record Whole (size before : ℕ) (bytes : List ℕ) (hunk : Hunk) (after : List ℕ) : Type 0 where
  placed : IsPlaced size before hunk
  spelled : bytes ≡ hunk_bytes hunk ++ after
  after_fits : IsBytes after
  shorter : length after < length bytes

-- what is read of a hunk is so
abbrev ReadsHunk : ℕ → ℕ → List ℕ → Result (Hunk × List ℕ) DeltaFault → Type 0
ReadsHunk size before bytes (Ok x) = Whole size before bytes x.0 x.1
ReadsHunk size before bytes (Err fault) = IsHunkFault fault size before bytes

abbrev hunk_of : ℕ → ℕ → List ℕ → Hunk
hunk_of start end content = record { start = start; end = end; content = content }

whole_is : (size before : ℕ) (bytes : List ℕ) (start end wanted : ℕ) (more : List ℕ)
    → HasHeader bytes start end wanted more → IsBytes more → before ≤ start → start ≤ end → end ≤ size
    → wanted ≤ length more
    → Whole size before bytes (hunk_of start end (take wanted more)) (drop wanted more)
whole_is size before bytes start end wanted more h fits ascends forward within enough =
    let long : length (take wanted more) ≡ wanted = omega (arith, length-take wanted more) in
    let spelled : bytes ≡ hunk_bytes (hunk_of start end (take wanted more)) ++ drop wanted more =
    h.spelled ∙ (ap (λ (x : List ℕ). header start end wanted ++ x) (sym (take-append-drop wanted more))
    ∙ (sym (append_assoc (header start end wanted) (take wanted more) (drop wanted more))
    ∙ ap (λ (n : ℕ). (header start end n ++ take wanted more) ++ drop wanted more) (sym long))) in
    record {
      placed = record {
        ascends = ascends;
        forward = forward;
        within = within;
        end_fits = h.end_fits;
        content_fits = omega (arith, long, h.size_fits);
      };
      spelled = spelled;
      after_fits = IsBytes-drop wanted more fits;
      shorter = omega (
        arith,
        ap length h.spelled,
        length-append (header start end wanted) more,
        length-header start end wanted,
        length-drop wanted more,
      );
    }

hunk_headed_reads : (size before : ℕ) (bytes : List ℕ) (start end wanted : ℕ) (more : List ℕ)
    → HasHeader bytes start end wanted more → IsBytes more
    → ReadsHunk size before bytes (hunk_headed size before start end wanted more)
unfolding hunk_headed
hunk_headed_reads size before bytes start end wanted more h fits =
    by (ltb start before) (ltb end start) (ltb size end) (ltb (length more) wanted) refl refl refl refl
  where
    by : (a b c d : Bool) → ltb start before ≡ a → ltb end start ≡ b → ltb size end ≡ c
        → ltb (length more) wanted ≡ d
        → ReadsHunk size before bytes
        (cond a (Err Backwards) (cond b (Err Backwards)
        (cond c (Err PastEnd) (cond d (Err Short)
        (Ok (hunk_of start end (take wanted more), drop wanted more))))))
    by true b c d below e f g =
        record {
          start = start;
          end = end;
          wanted = wanted;
          more = more;
          reads = h;
          back = inl (ltb-true _ _ below);
        }
    by false true c d e below f g =
        record {
          start = start;
          end = end;
          wanted = wanted;
          more = more;
          reads = h;
          back = inr (ltb-true _ _ below);
        }
    by false false true d ascends forward past g =
        record {
          start = start;
          end = end;
          wanted = wanted;
          more = more;
          reads = h;
          ascends = ltb-false _ _ ascends;
          forward = ltb-false _ _ forward;
          past = ltb-true _ _ past;
        }
    by false false false true ascends forward within less =
        inr (record {
          start = start;
          end = end;
          wanted = wanted;
          more = more;
          reads = h;
          ascends = ltb-false _ _ ascends;
          forward = ltb-false _ _ forward;
          within = ltb-false _ _ within;
          less = ltb-true _ _ less;
        })
    by false false false false ascends forward within enough =
        whole_is size before bytes start end wanted more h fits (ltb-false _ _ ascends)
        (ltb-false _ _ forward) (ltb-false _ _ within) (ltb-false _ _ enough)

hunk_reads : (size before : ℕ) (bytes : List ℕ) → IsBytes bytes → 0 < length bytes
    → ReadsHunk size before bytes (hunk_at size before bytes)
unfolding hunk_at
hunk_reads size before bytes fits some = by (ltb (length bytes) 12) refl
  where
    by : (b : Bool) → ltb (length bytes) 12 ≡ b
        → ReadsHunk size before bytes
        (cond b (Err Short) (hunk_headed size before (number_at 0 bytes) (number_at 4 bytes)
        (number_at 8 bytes) (drop 12 bytes)))
    by true few = inl (some, ltb-true _ _ few)
    by false long =
        hunk_headed_reads size before bytes (number_at 0 bytes) (number_at 4 bytes) (number_at 8 bytes)
        (drop 12 bytes) (header_reads bytes fits (ltb-false _ _ long)) (IsBytes-drop 12 bytes fits)

-- What is read after a text is so.
abbrev ReadsText : List ℕ → List ℕ → List ℕ → Result (List ℕ) DeltaFault → Type 0
ReadsText base delta text (Ok more) = Applies base delta (text ++ more)
ReadsText base delta text (Err fault) = BreaksAt fault base delta

abbrev after_piece : List ℕ → List ℕ → Result (List ℕ) DeltaFault
after_piece piece text = Ok (piece ++ text)

abbrev then_text : ℕ → List ℕ → ℕ → Hunk × List ℕ → Result (List ℕ) DeltaFault
then_text most base before x = text_within most base x.0.end x.1 >>= after_piece (piece_of base (before, x.0))

piece_reads : (base delta text piece : List ℕ) (read : Result (List ℕ) DeltaFault)
    → ReadsText base delta (text ++ piece) read → ReadsText base delta text (read >>= after_piece piece)
piece_reads base delta text piece (Ok more) told =
    subst (Applies base delta) (append_assoc text piece more) told
piece_reads base delta text piece (Err fault) told = told

text_reads : (most : ℕ) (base delta text : List ℕ) (before : ℕ) (bytes : List ℕ) → IsBytes bytes
    → length bytes ≤ most → Took base delta before bytes text
    → ReadsText base delta text (text_within most base before bytes)
unfolding text_within
text_reads zero base delta text before [] fits few took = took_all base delta text before took
text_reads (suc most) base delta text before [] fits few took = took_all base delta text before took
text_reads zero base delta text before (byte ∷ bytes) fits few took = absurd (omega arith)
text_reads (suc most) base delta text before (byte ∷ bytes) fits few took =
    by (hunk_at (length base) before (byte ∷ bytes))
    (hunk_reads (length base) before (byte ∷ bytes) fits (omega arith)) (text_reads most base delta)
  where
    by : (r : Result (Hunk × List ℕ) DeltaFault) → ReadsHunk (length base) before (byte ∷ bytes) r
        → ((front : List ℕ) (end : ℕ) (after : List ℕ) → IsBytes after → length after ≤ most
        → Took base delta end after front
        → ReadsText base delta front (text_within most base end after))
        → ReadsText base delta text (r >>= then_text most base before)
    by (Ok x) whole others =
        let shorter : length x.1 < length (byte ∷ bytes) = whole.shorter in
        let piece = piece_of base (before, x.0) in
        let more = took_more base delta (byte ∷ bytes) x.1 text before x.0 took whole.placed whole.spelled in
        piece_reads base delta text piece (text_within most base x.0.end x.1)
        (others (text ++ piece) x.0.end x.1 whole.after_fits (omega arith) more)
    by (Err fault) broken others = took_broken fault base delta (byte ∷ bytes) text before took broken

-- Reading gives an outcome.
pub has_outcome : (base delta : List ℕ) (most : ℕ) → IsBytes delta
    → IsOutcome base delta most (outcome_of base delta most)
unfolding outcome_of
has_outcome base delta most fits =
    by (text_within (length delta) base 0 delta)
    (text_reads (length delta) base delta [] 0 delta fits (omega arith) (took_none base delta))
  where
    limited : (text : List ℕ) (b : Bool) → ltb most (length text) ≡ b → Applies base delta text
        → IsOutcome base delta most (cond b (Err TooLong) (Ok text))
    limited text true long applies =
        exceeds (record { text = text; applies = applies; long = ltb-true _ _ long })
    limited text false short applies = gives text applies (ltb-false _ _ short)

    by : (read : Result (List ℕ) DeltaFault) → ReadsText base delta [] read
        → IsOutcome base delta most (read >>= λ text. cond (ltb most (length text)) (Err TooLong) (Ok text))
    by (Ok text) applies = limited text (ltb most (length text)) refl applies
    by (Err fault) broken = breaks fault broken

-- and there is no other
pub outcome_is : (base delta : List ℕ) (most : ℕ) (outcome : Result (List ℕ) DeltaFault) → IsBytes delta
    → IsOutcome base delta most outcome → outcome_of base delta most ≡ outcome
outcome_is base delta most outcome fits is =
    outcome_once base delta most (outcome_of base delta most) outcome (has_outcome base delta most fits) is

pub breaks_is : (base delta : List ℕ) (most : ℕ) (fault : DeltaFault) → IsBytes delta
    → (fault ≢ NoMemory → BreaksAt fault base delta) → fault ≢ NoMemory → Err fault ≡ outcome_of base delta most
breaks_is base delta most fault fits broken other =
    sym (outcome_is base delta most (Err fault) fits (breaks fault (broken other)))

-- the same of an answer that hands on a fault
pub fault_is : {X : Type 0} (view : X → List ℕ) (r : Result X DeltaFault) (base delta : List ℕ) (most : ℕ)
    (fault told : DeltaFault) → r ≡ Err told → told ≡ fault → IsBytes delta
    → (fault ≢ NoMemory → BreaksAt fault base delta) → r ≢ Err NoMemory
    → result_map_both view (λ (f : DeltaFault). f) r ≡ outcome_of base delta most
fault_is {X} view r base delta most fault told e same fits broken other =
    let is : r ≡ Err fault = e ∙ ap (λ (f : DeltaFault). Err f) same in
    ap (result_map_both view (λ (f : DeltaFault). f)) is
    ∙ breaks_is base delta most fault fits broken (λ refused. other (is ∙ ap (λ (f : DeltaFault). Err f) refused))
