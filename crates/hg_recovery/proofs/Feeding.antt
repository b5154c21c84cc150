-- A reader that was fed a whole bundle.
use Rattle.std.proofs.Common.{◌≡◌, ◌≢◌, ◌<◌, ◌≤◌, ◌++◌, ℕ, List, [], length, take, drop, ap, ◌∙◌, subst, sym, refl}
use Rattle.std.proofs.Common.{arith, Some, None, ◌⊎◌, inl, inr}
use Rattle.std.proofs.lemmas.Grind.{common_steps}
use Rattle.std.proofs.lemmas.List.{append-nil}
use Rattle.std.proofs.Math.Seq.{take-length}
use Rattle.hg_types.specs.declared.limits.Limits.{Limits}
use Rattle.hg_types.specs.declared.part.Part.{Part}
use Rattle.hg_stream.specs.declared.state.State.{State}
use Rattle.hg_stream.specs.declared.state.State.TheVariants.{Ended, Failed, Reading}
use Rattle.hg_stream.specs.declared.fault.StreamFault.{StreamFault}
use Rattle.hg_stream.specs.declared.fault.StreamFault.TheVariants.{BadMagic, NegativeSize, Params, Header}
use Rattle.hg_stream.specs.declared.fault.StreamFault.TheVariants.{Chunk, NestedInterrupt, ClientAbort}
use Rattle.hg_stream.specs.declared.fault.StreamFault.TheVariants.{Unsupported, TooLarge, Truncated, NoMemory}
use Rattle.hg_stream.specs.Laws.{HasOneVerdict}
use Rattle.hg_stream.specs.Places.{IsReading}
use Rattle.hg_recovery.specs.Replays.{IsNoBundle, IsUnread}
use Rattle.hg_recovery.specs.declared.restore.RestoreFault.{RestoreFault}
use Rattle.hg_recovery.specs.declared.restore.RestoreFault.TheVariants.{NoBundle, NoMemory as no_room}
use Rattle.hg_stream.specs.declared.unbundler.Unbundler.{Unbundler}
use Rattle.hg_stream.specs.Faults.{IsFault, StopsReading, StateTells}
use Rattle.hg_stream.specs.Frames.{IsBundle}
use Rattle.hg_stream.specs.Unbundler.{HoldsBundle, limits_of, ready_of, state_of}

-- it took all bytes, and has ended: they are a bundle
pub whole_lem : {A : Type 0} (u v : Unbundler A) (bytes : List ℕ) (count : ℕ)
    → HoldsBundle v [] (take count bytes) → count ≡ length bytes → state_of v ≡ Ended → limits_of v ≡ limits_of u
    → IsBundle (limits_of u) bytes (ready_of v)
whole_lem u v bytes count holds all ended limits =
    let taken : take count bytes ≡ bytes = ap (λ (n : ℕ). take n bytes) all ∙ take-length bytes in
    let told = subst (λ (s : State). StateTells s (limits_of v) (take count bytes) (ready_of v)) ended holds.tells in
    let whole = subst (λ (b : List ℕ). IsBundle (limits_of v) b (ready_of v)) taken told in
    subst (λ (l : Limits). IsBundle l bytes (ready_of v)) limits whole

-- a fault that is one of the bytes
byte_fault : {A : Type 0} (fault : StreamFault) (limits : Limits) (bytes : List ℕ) (parts : List (Part A))
    → fault ≢ NoMemory → fault ≢ Truncated → StopsReading fault limits bytes parts → IsFault limits bytes parts fault
byte_fault BadMagic limits bytes parts room whole stops = stops
byte_fault NegativeSize limits bytes parts room whole stops = stops
byte_fault (Params fault) limits bytes parts room whole stops = stops
byte_fault (Header fault) limits bytes parts room whole stops = stops
byte_fault (Chunk fault) limits bytes parts room whole stops = stops
byte_fault NestedInterrupt limits bytes parts room whole stops = stops
byte_fault ClientAbort limits bytes parts room whole stops = stops
byte_fault Unsupported limits bytes parts room whole stops = stops
byte_fault TooLarge limits bytes parts room whole stops = stops
byte_fault Truncated limits bytes parts room whole stops = absurd (whole refl)
byte_fault NoMemory limits bytes parts room whole stops = absurd (room refl)

module _ {A : Type 0} (u v : Unbundler A) (verdict : HasOneVerdict A (limits_of u))
    (same : limits_of v ≡ limits_of u) (bytes : List ℕ) (count : ℕ)
    (holds : HoldsBundle v [] (take count bytes)) where
  front : take count bytes ++ drop count bytes ≡ bytes ++ []
  front = grind (arith, common_steps)

  -- it ended before the bytes did
  pub early_lem : state_of v ≡ Ended → count < length bytes → IsNoBundle A (limits_of u) bytes
  early_lem ended few parts bundle =
      let told = subst (λ (s : State). StateTells s (limits_of v) (take count bytes) (ready_of v)) ended holds.tells in
      let mine = subst (λ (l : Limits). IsBundle l (take count bytes) (ready_of v)) same told in
      let one = verdict.one_place (take count bytes) bytes (drop count bytes) [] (ready_of v) parts None None mine
      bundle front in
      let long : length (take count bytes) ≡ length bytes = ap length one.0 in
      let short : length (take count bytes) ≡ count = grind (arith, common_steps) in
      omega (arith, long, short, few)

  -- it still reads after all bytes
  pub reading_lem : state_of v ≡ Reading → count ≡ length bytes → IsNoBundle A (limits_of u) bytes
  reading_lem reads all parts bundle =
      let told = subst (λ (s : State). StateTells s (limits_of v) (take count bytes) (ready_of v)) reads holds.tells in
      let taken : take count bytes ≡ bytes = ap (λ (n : ℕ). take n bytes) all ∙ take-length bytes in
      let mine : IsReading (limits_of u) bytes (ready_of v) × (length bytes ≤ (limits_of u).stream) = subst
      (λ (b : List ℕ). IsReading (limits_of u) b (ready_of v) × (length b ≤ (limits_of u).stream)) taken
      (subst (λ (l : Limits). IsReading l (take count bytes) (ready_of v) × (length (take count bytes) ≤ l.stream))
      same told) in
      let whole : bytes ++ [] ≡ bytes = append-nil bytes in
      verdict.not_read_after bytes [] parts (ready_of v) None bundle
      (subst (λ (b : List ℕ). IsReading (limits_of u) b (ready_of v)) (sym whole) mine.0)
      (subst (λ (b : List ℕ). length b ≤ (limits_of u).stream) (sym whole) mine.1)

  -- it met a fault of the bytes
  pub fault_lem : (fault : StreamFault) → state_of v ≡ Failed fault → fault ≢ NoMemory → fault ≢ Truncated
      → IsNoBundle A (limits_of u) bytes
  fault_lem fault failed room whole parts bundle =
      let told = subst (λ (s : State). StateTells s (limits_of v) (take count bytes) (ready_of v)) failed holds.tells in
      let mine = subst (λ (l : Limits). IsFault l (take count bytes) (ready_of v) fault) same
      (byte_fault fault (limits_of v) (take count bytes) (ready_of v) room whole told) in
      let one = verdict.one_place (take count bytes) bytes (drop count bytes) [] (ready_of v) parts (Some fault)
      None mine bundle front in
      let apart : Some fault ≡ None = one.2 in
      cc

is_memory : (fault : StreamFault) → (fault ≡ NoMemory) ⊎ (fault ≢ NoMemory)
is_memory NoMemory = inl refl
is_memory BadMagic = inr (λ is. cc)
is_memory NegativeSize = inr (λ is. cc)
is_memory (Params fault) = inr (λ is. cc)
is_memory (Header fault) = inr (λ is. cc)
is_memory (Chunk fault) = inr (λ is. cc)
is_memory NestedInterrupt = inr (λ is. cc)
is_memory ClientAbort = inr (λ is. cc)
is_memory Unsupported = inr (λ is. cc)
is_memory TooLarge = inr (λ is. cc)
is_memory Truncated = inr (λ is. cc)

-- what the fault of a record is told as
pub told_lem : {A : Type 0} (u v : Unbundler A) → HasOneVerdict A (limits_of u) → limits_of v ≡ limits_of u
    → (bytes : List ℕ) (count : ℕ) → HoldsBundle v [] (take count bytes) → (fault : StreamFault)
    → state_of v ≡ Failed fault → fault ≢ Truncated → (place : ℕ) (told : RestoreFault)
    → (fault ≡ NoMemory → told ≡ no_room) → (fault ≢ NoMemory → told ≡ NoBundle place)
    → IsUnread A told place (limits_of u) bytes
told_lem {A} u v verdict same bytes count holds fault failed whole place told memory other =
    elim (is_memory fault) [
      | inl is ↦ rw (memory is) tt
      | inr is ↦ rw (other is) (refl, fault_lem u v verdict same bytes count holds fault failed is whole)
    ]
