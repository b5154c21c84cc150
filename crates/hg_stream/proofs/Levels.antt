-- Headers and payloads at each level: of a part, and of a part that interrupts it.
use Rattle.std.proofs.Common.{◌≡◌, ℕ, ◌≤◌, ◌<◌, Ok, Err, List, [], ◌++◌, length, refl, sym, ◌∙◌}
use Rattle.std.proofs.Common.{subst, take, inl, inr, ◌⊎◌}
use Rattle.std.specs.Prelude.{Result, IfOk, IfErr}
use Rattle.std.proofs.lemmas.List.{append-nil}
use Rattle.hg_types.specs.declared.limits.Limits.{Limits}
use Rattle.hg_types.specs.declared.part.Part.{Part}
use Rattle.hg_chunks.specs.declared.fault.ChunkFault.{ChunkFault}
use Rattle.hg_chunks.specs.declared.fault.Step.{Step}
use Rattle.hg_chunks.specs.declared.payload.PayloadIn.{PayloadIn}
use Rattle.hg_chunks.specs.Payload.{closing, interruption}
use Rattle.hg_chunks.specs.PayloadIn.{Phase}
use Rattle.hg_chunks.specs.PayloadIn as chunks
use Rattle.hg_params.specs.declared.head.Head.{Head}
use Rattle.hg_stream.specs.declared.block.BlockIn.{BlockIn}
use Rattle.hg_stream.specs.declared.fault.StreamFault.{StreamFault}
use Rattle.hg_stream.specs.declared.fault.StreamFault.TheVariants.{NestedInterrupt}
use Rattle.hg_stream.specs.declared.payloads.Level.{Level}
use Rattle.hg_stream.specs.declared.payloads.Level.TheVariants as level
use Rattle.hg_stream.specs.declared.payloads.Payloads.{Payloads}
use Rattle.hg_stream.specs.Block.{sized, IsBlock}
use Rattle.hg_stream.specs.Payloads.{reader_at}
use Rattle.hg_stream.specs.Places.{IsBeforeHeader, IsBeforeChunk, of_part, of_interrupting}
use Rattle.hg_stream.specs.code.Going.{IsGoing}
use Rattle.hg_stream.specs.code.Readers.{other, ReadsPayload}
use Rattle.hg_stream.specs.code.Stages.{stage_after}
use Rattle.hg_stream.specs.code.Told.{RefusesHeaderAt, ReadsHeaderAt}
use Rattle.hg_stream.specs.Unbundler.{Fields, IsAtStage, IsBeforeHeaderAt, IsInsideAt, Waits, room_at}
use Rattle.hg_stream.specs.code.Steps.{BreaksBundle}
use Rattle.hg_stream.proofs.Steps.{EndsBlock, header_err, opens}
use Rattle.hg_stream.proofs.Chunks.{CarriesOn, more_chunks, more_inner, ends_pause}
use Rattle.hg_stream.proofs.Interruptions.{interrupting_err, opens_inner}

-- ---- places

-- a header comes next
pub header_at : {A : Type 0} (l : Level) (limits : Limits) (head : Head A) (payload : PayloadIn A)
    (front : List ℕ) (parts : List (Part A)) → IsBeforeHeaderAt l limits head payload front parts
    → IsBeforeHeader limits front parts (room_at l limits parts)
header_at level.Part limits head payload front parts before = of_part before refl
header_at level.Interrupting limits head payload front parts before =
    of_interrupting head before.whole before.interrupted refl

-- a chunk comes next
pub chunk_at : {A : Type 0} (l : Level) (limits : Limits) (head : Head A) (payload : PayloadIn A)
    (parts : List (Part A)) (front whole : List ℕ) → IsInsideAt l limits head payload front parts whole
    → IsBeforeChunk limits front parts whole
chunk_at level.Part limits head payload parts front whole inside = of_part head inside
chunk_at level.Interrupting limits head payload parts front whole inside =
    of_interrupting head inside.whole inside.inside

-- more chunks only carry it on
pub more_at : {A : Type 0} (l : Level) (limits : Limits) (head : Head A) (payload : PayloadIn A)
    (parts : List (Part A)) → CarriesOn limits (λ f w. IsInsideAt l limits head payload f parts w)
more_at level.Part limits head payload parts front whole more inside each fits =
    more_chunks limits parts head front whole more inside each fits
more_at level.Interrupting limits head payload parts front whole more inside each fits = record {
  whole = inside.whole;
  inside = more_inner limits parts head inside.whole front whole more inside.inside each fits;
  goes_on = inside.goes_on;
}

-- it looks at no reader except that of the payload which waits
pub inside_still : {A : Type 0} (l : Level) (limits : Limits) (head : Head A) (old new : Payloads A)
    (parts : List (Part A)) (front whole : List ℕ) → reader_at (other l) new ≡ reader_at (other l) old
    → IsInsideAt l limits head old.part front parts whole
    → IsInsideAt l limits head new.part front parts whole
inside_still level.Part limits head old new parts front whole same inside = inside
inside_still level.Interrupting limits head old new parts front whole same inside =
    subst (λ p. IsInsideAt level.Interrupting limits head p front parts whole) (sym same) inside

-- ---- headers

-- a size of 0 in the place of a header
pub after_last : {A : Type 0} (l : Level) (u : Fields A) (front : List ℕ) (parts : List (Part A))
    → IsBeforeHeaderAt l u.limits u.head u.payloads.part front parts
    → IsAtStage (stage_after l) u (front ++ closing) parts
after_last level.Part u front parts before = record { front = front; has = before; spelled = refl }
after_last level.Interrupting u front parts before = record {
  front = front ++ closing;
  rest = [];
  whole = before.whole;
  inside = ends_pause u.limits front parts u.head before.whole before.interrupted;
  goes_on = before.goes_on;
  spelled = sym (append-nil _);
}

-- a header that is whole opens a payload
pub opens_at : {A : Type 0} (l : Level) (limits : Limits) (before after : Head A) (old new : Payloads A)
    (front : List ℕ) (parts : List (Part A)) (block : List ℕ)
    → reader_at (other l) new ≡ reader_at (other l) old
    → IsBeforeHeaderAt l limits before old.part front parts → IsBlock (room_at l limits parts) block
    → ReadsHeaderAt l block before after
    → IsInsideAt l limits after new.part (front ++ (sized block ++ [])) parts []
opens_at level.Part limits before after old new front parts block same at fits reads =
    opens limits front parts block after at fits reads
opens_at {A} level.Interrupting limits before after old new front parts block same at fits reads =
    subst (λ h. IsInsideAt level.Interrupting limits h new.part (front ++ (sized block ++ [])) parts [])
    (sym reads.0)
    (inside_still level.Interrupting limits before old new parts (front ++ (sized block ++ [])) [] same
    (record {
      whole = at.whole;
      inside = opens_inner limits front parts before at.whole block at.interrupted fits reads.1;
      goes_on = at.goes_on;
    }))

-- a header is refused, or its part, or memory
pub header_at_err : {A : Type 0} (l : Level) (fault : StreamFault) (limits : Limits) (head : Head A)
    (payload : PayloadIn A) (b after : BlockIn A) (piece : List ℕ) (n : ℕ) → n ≤ length piece
    → RefusesHeaderAt A l after.block.items fault → after.most ≡ b.most → EndsBlock b after (take n piece)
    → (place : ℕ) × (place ≤ length piece)
    × ((bytes front rest : List ℕ) (parts : List (Part A))
    → IsBeforeHeaderAt l limits head payload front parts → Waits b (room_at l limits parts) rest
    → bytes ≡ front ++ rest → BreaksBundle fault limits (bytes ++ take place piece) parts)
header_at_err level.Part fault limits head payload b after piece n within refused same ends =
    let failed = header_err fault limits b after piece n within refused same ends in (
      failed.0,
      failed.1,
      λ bytes front rest parts before waits spelled.
          failed.2 bytes front rest parts _ (of_part before refl) waits spelled,
    )
header_at_err level.Interrupting fault limits head payload b after piece n within refused same ends =
    let failed = interrupting_err fault limits b after piece n within refused same ends in (
      failed.0,
      failed.1,
      λ bytes front rest parts before waits spelled.
          failed.2 bytes front rest parts head before.whole before.interrupted waits spelled,
    )

-- an interrupting part is interrupted
pub nested : {A : Type 0} (l : Level) (limits : Limits) (head : Head A) (payload : PayloadIn A)
    (front : List ℕ) (parts : List (Part A)) (whole : List ℕ) → l ≡ level.Interrupting
    → IsInsideAt l limits head payload front parts whole
    → BreaksBundle NestedInterrupt limits (front ++ interruption) parts
nested level.Part limits head payload front parts whole e inside = absurd (cc)
nested level.Interrupting limits head payload front parts whole e inside =
    (front, inside.whole, whole, head, inside.inside, refl)

-- ---- readers of payloads

-- a reader that goes on reads, or has failed
going_is : (phase : Phase) → IsGoing phase → (phase ≡ chunks.Reading)
    ⊎ ((fault : ChunkFault) × (phase ≡ chunks.Broken fault))
going_is chunks.Reading going = inl refl
going_is chunks.Ended going = absurd (going.not_ended refl)
going_is chunks.HandedOut going = absurd (going.not_handed_out refl)
going_is (chunks.Broken fault) going = inr (fault, refl)

broken_goes_on : (phase : Phase) (fault : ChunkFault) → phase ≡ chunks.Broken fault → IsGoing phase
broken_goes_on phase fault e = record {
  not_ended = λ f. (let both : chunks.Broken fault ≡ chunks.Ended = sym e ∙ f in cc);
  not_handed_out = λ f. (let both : chunks.Broken fault ≡ chunks.HandedOut = sym e ∙ f in cc);
}

-- where it answers, it read
answers_reading : {A : Type 0} (p q : PayloadIn A) (answer : Result (ℕ × Step) ChunkFault) (r : ℕ × Step)
    → answer ≡ Ok r
    → ((fault : ChunkFault) → chunks.phase_of p ≡ chunks.Broken fault → (answer ≡ Err fault) × (q ≡ p))
    → IsGoing (chunks.phase_of p) → chunks.phase_of p ≡ chunks.Reading
answers_reading p q answer r is still going = elim (going_is (chunks.phase_of p) going) [
  | inl reading ↦ reading
  | inr broken ↦ let wrong : Ok r ≡ Err broken.0 = sym is ∙ (still broken.0 broken.1).0 in cc
]

-- what a call to a reader says
pub reads_payload : {A : Type 0} (p q : PayloadIn A) (piece : List ℕ) (answer : Result (ℕ × Step) ChunkFault)
    → IfOk answer (λ r. r.0 ≤ length piece)
    → IfOk answer (λ r. chunks.phase_of p ≡ chunks.Reading → 0 < length piece → 0 < r.0)
    → IfOk answer (λ r. (whole rest : List ℕ) → chunks.HasTakenItems p whole rest
    → chunks.StopsWithin r.1 q whole rest (take r.0 piece))
    → IfErr answer (λ fault. (place : ℕ) × (place ≤ length piece)
    × ((whole rest : List ℕ) → chunks.HasTakenItems p whole rest
    → chunks.FailsWithin fault q whole rest (take place piece)))
    → IfOk answer (λ r. chunks.phase_of p ≡ chunks.Reading → chunks.phase_of q ≡ chunks.phase_after r.1)
    → IfErr answer (λ fault. chunks.phase_of q ≡ chunks.Broken fault)
    → ((fault : ChunkFault) → chunks.phase_of p ≡ chunks.Broken fault → (answer ≡ Err fault) × (q ≡ p))
    → chunks.limit_of q ≡ chunks.limit_of p → ReadsPayload p q piece answer
reads_payload p q piece (Ok r) count some ok err phase broken still limit = record {
  count = count;
  some = λ going piece_some. some (answers_reading p q (Ok r) r refl still going) piece_some;
  ok = ok;
  err = tt;
  phase = λ going. phase (answers_reading p q (Ok r) r refl still going);
  broken = tt;
  limit = limit;
}
reads_payload p q piece (Err fault) count some ok err phase broken still limit = record {
  count = tt;
  some = λ going piece_some. tt;
  ok = tt;
  err = err;
  phase = λ going. tt;
  broken = broken_goes_on _ fault broken;
  limit = limit;
}
