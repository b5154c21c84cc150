-- What a reader of bundles tells of the bytes that it took.
use Rattle.std.proofs.Common.{◌≡◌, ◌≢◌, ℕ, ◌+◌, ◌≤◌, List, [], ◌++◌, length, refl, sym, ap, ◌∙◌, arith, inl}
use Rattle.std.proofs.Common.{inr, subst, ◌⊎◌}
use Rattle.std.proofs.lemmas.List.{append-nil}
use Rattle.hg_types.specs.declared.limits.Limits.{Limits}
use Rattle.hg_types.specs.declared.part.Part.{Part}
use Rattle.hg_chunks.specs.PayloadIn.{Phase}
use Rattle.hg_chunks.specs.PayloadIn.{Reading as chunks_reading, Ended as chunks_ended}
use Rattle.hg_chunks.specs.PayloadIn.{HandedOut as chunks_handed_out}
use Rattle.hg_stream.specs.code.Going.{IsGoing}
use Rattle.hg_stream.specs.declared.fault.StreamFault.{StreamFault}
use Rattle.hg_stream.specs.declared.fault.StreamFault.TheVariants.{BadMagic, NegativeSize, Params, Header}
use Rattle.hg_stream.specs.declared.fault.StreamFault.TheVariants.{Chunk, NestedInterrupt, ClientAbort}
use Rattle.hg_stream.specs.declared.fault.StreamFault.TheVariants.{Unsupported, TooLarge, Truncated, NoMemory}
use Rattle.hg_stream.specs.declared.state.State.TheVariants.{Reading, Ended, Failed}
use Rattle.hg_stream.specs.declared.unbundler.Stage.{Stage}
use Rattle.hg_stream.specs.declared.unbundler.Stage.TheVariants as stage
use Rattle.hg_stream.specs.declared.unbundler.Unbundler.{Unbundler}
use Rattle.hg_stream.specs.Frames.{magic, IsWhole}
use Rattle.hg_stream.specs.Payloads.{reader_at}
use Rattle.hg_stream.specs.Places.{IsReading, at_magic, params, header}
use Rattle.hg_stream.specs.Faults.{by_grammar, by_length, StopsReading, StateTells}
use Rattle.hg_stream.specs.Unbundler.{Fields, fields_of, IsAt, IsAtStage, KeepsFinished, HoldsBundle}
use Rattle.hg_stream.specs.code.Steps.{BreaksBundle, Meets}
use Rattle.hg_stream.specs.Unbundler.{ready_of, state_at, state_of}
use Rattle.hg_stream.proofs.Steps.{still_reading}
use Rattle.hg_stream.proofs.Chunks.{chunk_reading}
use Rattle.hg_stream.proofs.Levels.{chunk_at, header_at}

-- out of memory, or another fault
pub is_no_memory : (fault : StreamFault) → (fault ≡ NoMemory) ⊎ (fault ≢ NoMemory)
is_no_memory BadMagic = inr (λ e. cc)
is_no_memory NegativeSize = inr (λ e. cc)
is_no_memory (Params fault) = inr (λ e. cc)
is_no_memory (Header fault) = inr (λ e. cc)
is_no_memory (Chunk fault) = inr (λ e. cc)
is_no_memory NestedInterrupt = inr (λ e. cc)
is_no_memory ClientAbort = inr (λ e. cc)
is_no_memory Unsupported = inr (λ e. cc)
is_no_memory TooLarge = inr (λ e. cc)
is_no_memory Truncated = inr (λ e. cc)
is_no_memory NoMemory = inl refl

-- a fault that is decided is one that is met; memory is refused within the limit on the stream
pub met : {A : Type 0} (fault : StreamFault) (limits : Limits) (bytes : List ℕ) (parts : List (Part A))
    → length bytes ≤ limits.stream + 1 → (fault ≡ NoMemory → length bytes ≤ limits.stream)
    → BreaksBundle fault limits bytes parts → Meets fault limits bytes parts
met BadMagic limits bytes parts within room h = by_grammar h within
met NegativeSize limits bytes parts within room h = by_grammar h within
met (Params fault) limits bytes parts within room h = by_grammar h within
met (Header fault) limits bytes parts within room h = by_grammar h within
met (Chunk fault) limits bytes parts within room h = by_grammar h within
met NestedInterrupt limits bytes parts within room h = by_grammar h within
met ClientAbort limits bytes parts within room h = by_grammar h within
met Unsupported limits bytes parts within room h = by_grammar h within
met TooLarge limits bytes parts within room h = by_grammar h within
met Truncated limits bytes parts within room h = absurd h
met NoMemory limits bytes parts within room h = (h, room refl)

-- no byte decides that the input ended
not_truncated : {A : Type 0} (limits : Limits) (bytes : List ℕ) (parts : List (Part A))
    → Meets Truncated limits bytes parts → ⊥
not_truncated limits bytes parts (by_grammar decides within) = decides
not_truncated limits bytes parts (by_length front last read before after spelled full e) = cc

-- a reader that met a fault stops there
pub met_stops : {A : Type 0} (fault : StreamFault) (limits : Limits) (bytes : List ℕ) (parts : List (Part A))
    → Meets fault limits bytes parts → StopsReading fault limits bytes parts
met_stops BadMagic limits bytes parts h = h
met_stops NegativeSize limits bytes parts h = h
met_stops (Params fault) limits bytes parts h = h
met_stops (Header fault) limits bytes parts h = h
met_stops (Chunk fault) limits bytes parts h = h
met_stops NestedInterrupt limits bytes parts h = h
met_stops ClientAbort limits bytes parts h = h
met_stops Unsupported limits bytes parts h = h
met_stops TooLarge limits bytes parts h = h
met_stops Truncated limits bytes parts h = absurd (not_truncated limits bytes parts h)
met_stops NoMemory limits bytes parts h = h

reading_at : {A : Type 0} (s : Stage) (u : Fields A) (bytes : List ℕ) (parts : List (Part A))
    → IsAtStage s u bytes parts → state_at s ≡ Reading → IsReading u.limits (bytes ++ []) parts
reading_at stage.Magic u bytes parts h e = at_magic (rw append-nil (omega (arith, h.short))) h.none
reading_at stage.Params u bytes parts h e =
    still_reading u.limits bytes magic h.rest parts u.limits.params u.block
    (params refl h.none refl) h.waits h.spelled
reading_at (stage.Header l) u bytes parts h e =
    still_reading u.limits bytes h.front h.rest parts _ u.block
    (header (header_at l u.limits u.head u.payloads.part h.front parts h.before)) h.waits h.spelled
reading_at (stage.Payload l) u bytes parts h e =
    chunk_reading u.limits bytes h.front h.rest h.whole parts (reader_at l u.payloads)
    (chunk_at l u.limits u.head u.payloads.part parts h.front h.whole h.inside) h.goes_on h.spelled
reading_at stage.Ended u bytes parts h e = absurd (cc)
reading_at (stage.Failed fault) u bytes parts h e = absurd h

-- a reader that goes on has read a front of a stream
pub reading_of : {A : Type 0} (u : Unbundler A) (bytes : List ℕ) (parts : List (Part A)) → IsAt u bytes parts
    → state_of u ≡ Reading → IsReading u.limits bytes parts
reading_of u bytes parts at going =
    subst (λ x. IsReading u.limits x parts) (append-nil bytes)
    (reading_at u.stage (fields_of u) bytes parts at.place going)

reading_or_whole : {A : Type 0} (s : Stage) (u : Fields A) (bytes : List ℕ) (parts : List (Part A))
    → IsAtStage s u bytes parts
    → IsReading u.limits bytes parts ⊎ IsWhole u.limits bytes parts
reading_or_whole stage.Magic u bytes parts h =
    inl (subst (λ x. IsReading u.limits x parts) (append-nil bytes)
    (reading_at stage.Magic u bytes parts h refl))
reading_or_whole stage.Params u bytes parts h =
    inl (subst (λ x. IsReading u.limits x parts) (append-nil bytes)
    (reading_at stage.Params u bytes parts h refl))
reading_or_whole (stage.Header l) u bytes parts h =
    inl (subst (λ x. IsReading u.limits x parts) (append-nil bytes)
    (reading_at (stage.Header l) u bytes parts h refl))
reading_or_whole (stage.Payload l) u bytes parts h =
    inl (subst (λ x. IsReading u.limits x parts) (append-nil bytes)
    (reading_at (stage.Payload l) u bytes parts h refl))
reading_or_whole stage.Ended u bytes parts h = inr h
reading_or_whole (stage.Failed fault) u bytes parts h = absurd h

-- a reader that has not failed has read a front of a stream, or a whole bundle
pub reading_or_whole_of : {A : Type 0} (u : Unbundler A) (bytes : List ℕ) (parts : List (Part A))
    → IsAt u bytes parts → IsReading u.limits bytes parts ⊎ IsWhole u.limits bytes parts
reading_or_whole_of u bytes parts at = reading_or_whole u.stage (fields_of u) bytes parts at.place

pub reading_not_ended : Reading ≡ Ended → ⊥
reading_not_ended e = cc

-- ---- what a reader keeps of the whole

-- it tells of the bytes where it has not failed
pub tells_at : {A : Type 0} (s : Stage) (u : Fields A) (bytes : List ℕ) (parts : List (Part A))
    → IsAtStage s u bytes parts → length bytes ≤ u.limits.stream → StateTells (state_at s) u.limits bytes parts
tells_at stage.Magic u bytes parts h within = (
  subst (λ x. IsReading u.limits x parts) (append-nil bytes) (reading_at stage.Magic u bytes parts h refl),
  within,
)
tells_at stage.Params u bytes parts h within = (
  subst (λ x. IsReading u.limits x parts) (append-nil bytes)
      (reading_at stage.Params u bytes parts h refl),
  within,
)
tells_at (stage.Header l) u bytes parts h within = (
  subst (λ x. IsReading u.limits x parts) (append-nil bytes)
      (reading_at (stage.Header l) u bytes parts h refl),
  within,
)
tells_at (stage.Payload l) u bytes parts h within = (
  subst (λ x. IsReading u.limits x parts) (append-nil bytes)
      (reading_at (stage.Payload l) u bytes parts h refl),
  within,
)
tells_at stage.Ended u bytes parts h within = (h, within)
tells_at (stage.Failed fault) u bytes parts h within = absurd h

keeps_at : {A : Type 0} (s : Stage) (u : Unbundler A) (bytes : List ℕ) (parts : List (Part A))
    → IsAt u bytes parts → u.stream_left + length bytes ≡ u.limits.stream → KeepsFinished (state_at s) u bytes parts
keeps_at stage.Magic u bytes parts at counted = (at, counted)
keeps_at stage.Params u bytes parts at counted = (at, counted)
keeps_at (stage.Header l) u bytes parts at counted = (at, counted)
keeps_at (stage.Payload l) u bytes parts at counted = (at, counted)
keeps_at stage.Ended u bytes parts at counted = at.left
keeps_at (stage.Failed fault) u bytes parts at counted = at.left

-- a reader that knows where it is, and how many bytes may still come
pub holds : {A : Type 0} (u : Unbundler A) (given : List (Part A)) (bytes : List ℕ)
    → IsAt u bytes (given ++ ready_of u) → u.stream_left + length bytes ≡ u.limits.stream
    → HoldsBundle u given bytes
holds u given bytes at counted = record {
  keeps = keeps_at u.stage u bytes (given ++ ready_of u) at counted;
  tells = tells_at u.stage (fields_of u) bytes (given ++ ready_of u) at.place (omega (arith, counted));
}

-- a reader whose finished parts alone are others
pub keeps_same : {A : Type 0} (s : Stage) (u v : Unbundler A) (bytes : List ℕ) (parts parts' : List (Part A))
    → parts ≡ parts' → (IsAt u bytes parts → IsAt v bytes parts) → v.stream_left ≡ u.stream_left
    → v.parts_left ≡ u.parts_left → v.limits ≡ u.limits
    → KeepsFinished (state_at s) u bytes parts → KeepsFinished (state_at s) v bytes parts'
keeps_same s u v bytes parts parts' same at left parts_left limits keeps =
    subst (λ p. KeepsFinished (state_at s) v bytes p) same (kept s keeps)
  where
    kept : (s : Stage) → KeepsFinished (state_at s) u bytes parts → KeepsFinished (state_at s) v bytes parts
    kept stage.Magic k = (at k.0, ap (λ n. n + length bytes) left ∙ k.1 ∙ ap (λ l. l.stream) (sym limits))
    kept stage.Params k = (at k.0, ap (λ n. n + length bytes) left ∙ k.1 ∙ ap (λ l. l.stream) (sym limits))
    kept (stage.Header l) k =
        (at k.0, ap (λ n. n + length bytes) left ∙ k.1 ∙ ap (λ l. l.stream) (sym limits))
    kept (stage.Payload l) k =
        (at k.0, ap (λ n. n + length bytes) left ∙ k.1 ∙ ap (λ l. l.stream) (sym limits))
    kept stage.Ended k = ap (λ n. n + length parts) parts_left ∙ k ∙ ap (λ l. l.parts) (sym limits)
    kept (stage.Failed fault) k = ap (λ n. n + length parts) parts_left ∙ k ∙ ap (λ l. l.parts) (sym limits)

-- ---- stages and states

pub stage_ended : (s : Stage) → state_at s ≡ Ended → s ≡ stage.Ended
stage_ended stage.Magic e = cc
stage_ended stage.Params e = cc
stage_ended (stage.Header l) e = cc
stage_ended (stage.Payload l) e = cc
stage_ended stage.Ended e = refl
stage_ended (stage.Failed fault) e = cc

pub stage_failed : (s : Stage) (fault : StreamFault) → state_at s ≡ Failed fault → s ≡ stage.Failed fault
stage_failed stage.Magic fault e = cc
stage_failed stage.Params fault e = cc
stage_failed (stage.Header l) fault e = cc
stage_failed (stage.Payload l) fault e = cc
stage_failed stage.Ended fault e = cc
stage_failed (stage.Failed other) fault e = cc

-- a reader that has neither ended nor failed goes on
pub goes_on : (s : Stage) → (s ≡ stage.Ended → ⊥) → ((fault : StreamFault) → s ≡ stage.Failed fault → ⊥)
    → state_at s ≡ Reading
goes_on stage.Magic not_ended not_failed = refl
goes_on stage.Params not_ended not_failed = refl
goes_on (stage.Header l) not_ended not_failed = refl
goes_on (stage.Payload l) not_ended not_failed = refl
goes_on stage.Ended not_ended not_failed = absurd (not_ended refl)
goes_on (stage.Failed fault) not_ended not_failed = absurd (not_failed fault refl)

pub reading_phase : (phase : Phase) → phase ≡ chunks_reading → IsGoing phase
reading_phase phase e = record {
  not_ended = λ f. (let both : chunks_reading ≡ chunks_ended = sym e ∙ f in
      cc);
  not_handed_out = λ f. (let both : chunks_reading ≡ chunks_handed_out = sym e ∙ f in cc);
}
