-- What a call of `feed` makes of a reader that goes on.
use Rattle.std.proofs.Common.{◌≡◌, ◌≢◌, ℕ, zero, suc, ◌+◌, ◌<◌, ◌≤◌, List, [], ◌∷◌, ◌++◌, length, take, drop}
use Rattle.std.proofs.Common.{get_or, refl, sym, ap, ◌∙◌, append_assoc, arith, subst, inl, inr, ◌⊎◌, Result}
use Rattle.std.proofs.Common.{Ok, Err, IfOk, IfErr}
use Rattle.std.proofs.lemmas.List.{append-nil, length-append, length-take, take_more, take-append-le}
use Rattle.std.proofs.lemmas.List.{take-append-drop}
use Rattle.hg_types.specs.declared.limits.Limits.{Limits}
use Rattle.hg_types.specs.declared.part.Part.{Part}
use Rattle.hg_stream.specs.declared.fault.StreamFault.{StreamFault}
use Rattle.hg_stream.specs.declared.fault.StreamFault.TheVariants.{NoMemory}
use Rattle.hg_stream.specs.declared.state.State.TheVariants.{Reading, Ended, Failed}
use Rattle.hg_stream.specs.declared.unbundler.Stage.{Stage}
use Rattle.hg_stream.specs.declared.unbundler.Stage.TheVariants as stage
use Rattle.hg_stream.specs.declared.unbundler.Unbundler.{Unbundler}
use Rattle.hg_stream.specs.Faults.{StopsReading, StateTells}
use Rattle.hg_stream.specs.Unbundler.{Fields, fields_of, HasFinished, IsAt, IsAtStage}
use Rattle.hg_stream.specs.code.Steps.{MeetsFault, Halts, Meets}
use Rattle.hg_stream.specs.Unbundler.{KeepsFinished, HoldsBundle, ready_of, limits_of, state_at, state_of}
use Rattle.hg_stream.specs.code.Steps.{PassesBy, FeedsBundle}
use Rattle.hg_stream.proofs.Telling.{is_no_memory, met, met_stops, holds, reading_of}

-- the same bytes of a front of a piece as of the piece
pub front_take : (piece : List ℕ) (within n : ℕ) → n ≤ length (take within piece)
    → take n (take within piece) ≡ take n piece
front_take piece within n le =
    sym (take-append-le n (take within piece) (drop within piece) le)
    ∙ ap (take n) (take-append-drop within piece)

pub front_within : (piece : List ℕ) (within n : ℕ) → n ≤ length (take within piece) → n ≤ length piece
front_within piece within n le = omega (arith, le, length-take within piece)

-- a front of a piece, and the byte after it or none
pub past_take : (piece : List ℕ) (within n : ℕ) → within < length piece → n ≤ 1 → take within piece
    ++ take n (get_or piece within 0 ∷ []) ≡ take (within + n) piece
past_take piece within zero some le =
    append-nil (take within piece)
    ∙ ap (λ (m : ℕ). take m piece) (let e : within ≡ within + 0 = omega arith in e)
past_take piece within (suc zero) some le = sym (take_more piece within 0 some)
past_take piece within (suc (suc n)) some le = absurd (omega (arith, le))

-- what a reader that goes on keeps
pub going_keeps : {A : Type 0} (u : Unbundler A) (given : List (Part A)) (bytes : List ℕ)
    → state_of u ≡ Reading → HoldsBundle u given bytes
    → IsAt u bytes (given ++ ready_of u) × (u.stream_left + length bytes ≡ u.limits.stream)
going_keeps u given bytes going h = subst (λ s. KeepsFinished s u bytes (given ++ ready_of u)) going h.keeps

-- a reader that failed
failed_holds : {A : Type 0} (fault : StreamFault) (v : Unbundler A) (limits : Limits)
    (given parts : List (Part A)) (bytes : List ℕ) → state_of v ≡ Failed fault → limits_of v ≡ limits
    → parts ≡ given ++ ready_of v → HasFinished v parts → StopsReading fault limits bytes parts → HoldsBundle v given bytes
failed_holds fault v limits given parts bytes failed same ready finished stops =
    let one : StopsReading fault limits bytes (given ++ ready_of v) = subst
    (λ p. StopsReading fault limits bytes p) ready stops in
    let two : StopsReading fault (limits_of v) bytes (given ++ ready_of v) = subst
    (λ l. StopsReading fault l bytes (given ++ ready_of v)) (sym same) one in
    record {
      keeps = subst (λ s. KeepsFinished s v bytes (given ++ ready_of v)) (sym failed)
          (subst (HasFinished v) ready finished);
      tells = subst (λ s. StateTells s (limits_of v) bytes (given ++ ready_of v)) (sym failed) two;
    }

pub halted : {A : Type 0} (fault : StreamFault) (u v : Unbundler A) (taken : List ℕ)
    → state_of v ≡ Failed fault → limits_of v ≡ limits_of u → Halts fault u v taken
    → length taken ≤ u.stream_left → FeedsBundle u v taken
halted fault u v taken failed same halts within given bytes going h =
    let k = going_keeps u given bytes going h in
    let x = halts bytes (given ++ ready_of u) k.0 in
    failed_holds fault v (limits_of u) given ((given ++ ready_of u) ++ x.0) (bytes ++ taken) failed same
    (append_assoc given (ready_of u) x.0 ∙ ap (λ r. given ++ r) (sym x.1)) x.2
    (met_stops fault (limits_of u) (bytes ++ taken) ((given ++ ready_of u) ++ x.0)
    (met fault (limits_of u) (bytes ++ taken) ((given ++ ready_of u) ++ x.0)
    (omega (arith, length-append bytes taken, k.1, within))
    (λ refused. omega (arith, length-append bytes taken, k.1, within)) x.3))

-- The byte past the limit on the stream decides a fault; and where memory is refused there, that byte is not
-- taken.
pub refused_or_met : {A : Type 0} (fault : StreamFault) (u : Unbundler A) (place byte : ℕ) → place ≤ 1
    → MeetsFault fault u (take place (byte ∷ []))
    → (n : ℕ) × (n ≤ 1) × ((bytes : List ℕ) (parts : List (Part A)) → IsAt u bytes parts
    → state_of u ≡ Reading → length bytes ≡ u.limits.stream
    → Meets fault u.limits (bytes ++ take n (byte ∷ [])) parts)
refused_or_met {A} fault u place byte one fails = by_fault (is_no_memory fault)
  where
    by_fault : (fault ≡ NoMemory) ⊎ (fault ≢ NoMemory)
        → (n : ℕ) × (n ≤ 1) × ((bytes : List ℕ) (parts : List (Part A)) → IsAt u bytes parts
        → state_of u ≡ Reading → length bytes ≡ u.limits.stream
        → Meets fault u.limits (bytes ++ take n (byte ∷ [])) parts)
    by_fault (inl refused) = (
      0,
      omega arith,
      λ bytes parts at going full.
          subst (λ f. Meets f u.limits (bytes ++ []) parts) (sym refused)
          (subst (λ b. Meets NoMemory u.limits b parts) (sym (append-nil bytes))
          (reading_of u bytes parts at going, omega (arith, full))),
    )
    by_fault (inr other) = (
      place,
      one,
      λ bytes parts at going full.
          met fault u.limits (bytes ++ take place (byte ∷ [])) parts
          (omega (
            arith,
            length-append bytes (take place (byte ∷ [])),
            length-take place (byte ∷ []),
            full,
            one,
          )) (λ refused. absurd (other refused)) (fails bytes parts at),
    )

-- what a call took, and finished
pub record Reads {A : Type 0} (u w : Unbundler A) (bytes : List ℕ)
    (parts added : List (Part A)) : Type 0 where
  pub ready : ready_of w ≡ ready_of u ++ added
  pub at : IsAt w bytes (parts ++ added)

abbrev pub ReadsOn : {A : Type 0} → Unbundler A → Unbundler A → List ℕ → Type 0
ReadsOn {A} u w taken = (bytes : List ℕ) (parts : List (Part A)) → IsAt u bytes parts
    → (added : List (Part A)) × Reads u w (bytes ++ taken) parts added

parts_are : {A : Type 0} (u w : Unbundler A) (given added : List (Part A)) → ready_of w ≡ ready_of u ++ added
    → (given ++ ready_of u) ++ added ≡ given ++ ready_of w
parts_are u w given added ready = append_assoc given (ready_of u) added ∙ ap (λ r. given ++ r) (sym ready)

pub fed : {A : Type 0} (u w : Unbundler A) (taken : List ℕ) → ReadsOn u w taken
    → w.stream_left + length taken ≡ u.stream_left → limits_of w ≡ limits_of u → FeedsBundle u w taken
fed u w taken reads left same given bytes going h =
    let k = going_keeps u given bytes going h in
    let x = reads bytes (given ++ ready_of u) k.0 in
    let stream : (limits_of w).stream ≡ (limits_of u).stream = ap (λ l. l.stream) same in
    holds w given (bytes ++ taken)
    (subst (λ p. IsAt w (bytes ++ taken) p) (parts_are u w given x.0 x.1.ready) x.1.at)
    (omega (arith, length-append bytes taken, k.1, left, stream))

going_at : {A : Type 0} (s : Stage) (f : Fields A) (bytes : List ℕ) (parts : List (Part A))
    → IsAtStage s f bytes parts → (state_at s ≡ Ended → ⊥) → state_at s ≡ Reading
going_at stage.Magic f bytes parts at other = refl
going_at stage.Params f bytes parts at other = refl
going_at (stage.Header l) f bytes parts at other = refl
going_at (stage.Payload l) f bytes parts at other = refl
going_at stage.Ended f bytes parts at other = absurd (other refl)
going_at (stage.Failed fault) f bytes parts at other = absurd at

-- the byte past the limit on the stream
pub passed : {A : Type 0} (fault : StreamFault) (u w v : Unbundler A) (taken past : List ℕ)
    → ReadsOn u w taken → (state_of w ≡ Ended → ⊥) → length taken ≡ u.stream_left → limits_of w ≡ limits_of u
    → limits_of v ≡ limits_of w → state_of v ≡ Failed fault → PassesBy fault w v past
    → FeedsBundle u v (taken ++ past)
passed fault u w v taken past reads not_ended full same same_past failed passes given bytes going h =
    let k = going_keeps u given bytes going h in
    let x = reads bytes (given ++ ready_of u) k.0 in
    let stream : (limits_of w).stream ≡ (limits_of u).stream = ap (λ l. l.stream) same in
    let on : state_of w ≡ Reading = going_at w.stage (fields_of w) (bytes ++ taken) ((given ++ ready_of u)
    ++ x.0) x.1.at.place not_ended in
    let p = passes (bytes ++ taken) ((given ++ ready_of u) ++ x.0) x.1.at on
    (omega (arith, length-append bytes taken, k.1, full, stream)) in
    subst (λ b. HoldsBundle v given b) (append_assoc bytes taken past)
    (failed_holds fault v (limits_of w) given ((given ++ ready_of u) ++ x.0) ((bytes ++ taken)
    ++ past) failed same_past (parts_are u w given x.0 x.1.ready ∙ ap (λ r. given ++ r) (sym p.0)) p.1
    (met_stops fault (limits_of w) ((bytes ++ taken) ++ past) ((given ++ ready_of u) ++ x.0) p.2))

-- ---- by cases of the answer

pub fed_ok : {A : Type 0} (answer : Result ℕ StreamFault) (u v : Unbundler A) (piece : List ℕ)
    → state_of u ≡ Reading → IfOk answer (λ n. FeedsBundle u v (take n piece))
    → IfOk answer (λ n. (given : List (Part A)) (bytes : List ℕ) → HoldsBundle u given bytes
    → HoldsBundle v given (bytes ++ take n piece))
fed_ok (Ok n) u v piece going feeds = λ given bytes h. feeds given bytes going h
fed_ok (Err fault) u v piece going feeds = tt

pub fed_err : {A : Type 0} (answer : Result ℕ StreamFault) (u v : Unbundler A) (piece : List ℕ)
    → state_of u ≡ Reading → IfErr answer (λ fault. (place : ℕ) × (place ≤ length piece)
    × FeedsBundle u v (take place piece))
    → IfErr answer (λ fault. (place : ℕ) × (place ≤ length piece)
    × ((given : List (Part A)) (bytes : List ℕ) → HoldsBundle u given bytes
    → HoldsBundle v given (bytes ++ take place piece)))
fed_err (Ok n) u v piece going feeds = tt
fed_err (Err fault) u v piece going feeds = (feeds.0, feeds.1, λ given bytes h. feeds.2 given bytes going h)
