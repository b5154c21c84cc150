-- Any bytes are still read, or have a front that is settled.
use Rattle.std.proofs.Common.{◌≡◌, ℕ, zero, suc, ◌<◌, ◌≤◌, List, [], ◌∷◌, ◌++◌, length, refl, sym, ap, ◌∙◌}
use Rattle.std.proofs.Common.{append_assoc, arith, inl, inr, subst, All, Option, Some, None}
use Rattle.std.specs.Str.{bytes_eq}
use Rattle.std.proofs.lemmas.Bool.{cases_Bool, false≢true}
use Rattle.std.proofs.lemmas.List.{length-append}
use Rattle.std.proofs.lemmas.Slice.Eq.{bytes_eq-Decides}
use Rattle.hg_types.specs.declared.limits.Limits.{Limits}
use Rattle.hg_types.specs.declared.part.Part.{Part}
use Rattle.hg_params.specs.declared.head.Head.{Head}
use Rattle.hg_stream.specs.declared.fault.StreamFault.{StreamFault}
use Rattle.hg_stream.specs.declared.fault.StreamFault.TheVariants.{BadMagic}
use Rattle.hg_stream.specs.declared.interrupting.Verdict.{Verdict}
use Rattle.hg_stream.specs.Block.{sized}
use Rattle.hg_stream.specs.Frames.{magic, max_header}
use Rattle.hg_stream.specs.Places.{IsInterrupted, header_room, IsBeforeHeader, IsBeforeBlock, params, header}
use Rattle.hg_stream.specs.Places.{IsBeforeChunk, of_part, of_interrupting, at_magic}
use Rattle.hg_stream.specs.Faults.{EndsInnerHeader, Decides}
use Rattle.hg_stream.specs.Laws.{IsSettled, IsReadOrSettled}
use Rattle.hg_stream.proofs.Runs.{Place, AtParams, AtHeader, AtChunk, AtInnerHeader, AtInnerChunk, parts_at}
use Rattle.hg_stream.proofs.Runs.{Decision, Closed, Faulty, RefusesSize, negative, oversize, RefusesHeader}
use Rattle.hg_stream.proofs.Runs.{RefusesParams, RefusesInner, RefusesChunk, FailsInner, bad_size, bad_header}
use Rattle.hg_stream.proofs.Runs.{aborts_push, unsupported, DecidesAt}
use Rattle.hg_stream.proofs.Prefixes.{Stands, stands_behind, still_read}
use Rattle.hg_stream.proofs.EveryStep.{IsByte, bytes_behind, Continues, stays, decides, goes_on, every_step}

-- ---- what decides at a place is a fault of the grammar

size_decides : {A : Type 0} (fault : StreamFault) (limits : Limits) (front rest : List ℕ)
    (parts : List (Part A)) (most : ℕ) → IsBeforeBlock limits front parts most → RefusesSize most rest fault
    → Decides fault limits (front ++ rest) parts
size_decides fault limits front rest parts most before (negative is same) =
    subst (λ f. Decides f limits (front ++ rest) parts) (sym same) (front, rest, most, before, is, refl)
size_decides fault limits front rest parts most before (oversize is same) =
    subst (λ f. Decides f limits (front ++ rest) parts) (sym same) (front, rest, most, before, is, refl)

header_decides : {A : Type 0} (fault : StreamFault) (limits : Limits) (front rest : List ℕ)
    (parts : List (Part A)) (most : ℕ) → IsBeforeHeader limits front parts most
    → RefusesHeader most rest fault
    → Decides fault limits (front ++ rest) parts
header_decides fault limits front rest parts most before refuses =
    subst (λ f. Decides f limits (front ++ rest) parts) (sym refuses.fault_is) (
      front,
      refuses.block,
      most,
      before,
      refuses.is,
      refuses.refused,
      ap (λ (x : List ℕ). front ++ x) refuses.spelled,
    )

params_decide : (A : Type 0) (fault : StreamFault) (limits : Limits) (front rest : List ℕ) → front ≡ magic
    → RefusesParams limits.params rest fault → Decides {A = A} fault limits (front ++ rest) []
params_decide A fault limits front rest at refuses =
    let spelled : front ++ rest ≡ magic
    ++ sized refuses.block = ap (λ (x : List ℕ). x ++ rest) at ∙ ap (λ (x : List ℕ). magic
    ++ x) refuses.spelled in
    subst (λ f. Decides {A = A} f limits (front ++ rest) []) (sym refuses.fault_is)
    (refuses.block, refuses.is, refuses.refused, spelled, refl)

chunk_decides : {A : Type 0} (fault : StreamFault) (limits : Limits) (front rest whole : List ℕ)
    (parts : List (Part A)) → IsBeforeChunk limits front parts whole
    → RefusesChunk limits.payload whole rest fault
    → Decides fault limits (front ++ rest) parts
chunk_decides fault limits front rest whole parts before refuses =
    subst (λ f. Decides f limits (front ++ rest) parts) (sym refuses.fault_is)
    (front, rest, whole, before, refuses.refused, refl)

ends_inner_header : {A : Type 0} (limits : Limits) (front rest : List ℕ) (parts : List (Part A))
    (head : Head A) (payload : List ℕ) (verdict : Verdict) → IsInterrupted limits front parts head payload
    → RefusesInner A rest verdict → EndsInnerHeader limits (front ++ rest) parts verdict
ends_inner_header limits front rest parts head payload verdict is refuses = record {
  front = front;
  head = head;
  payload = payload;
  interrupted = is;
  header = refuses.header;
  inner_head = refuses.inner_head;
  reads = refuses.reads;
  decided = refuses.decided;
  spelled = ap (λ (x : List ℕ). front ++ x) refuses.spelled;
}

inner_decides : {A : Type 0} (fault : StreamFault) (limits : Limits) (front rest : List ℕ)
    (parts : List (Part A)) (head : Head A) (payload : List ℕ) → IsInterrupted limits front parts head payload
    → FailsInner A rest fault → Decides fault limits (front ++ rest) parts
inner_decides fault limits front rest parts head payload is (bad_size refuses) =
    size_decides fault limits front rest parts max_header (header (of_interrupting head payload is refl))
    refuses
inner_decides fault limits front rest parts head payload is (bad_header refuses) =
    header_decides fault limits front rest parts max_header (of_interrupting head payload is refl) refuses
inner_decides fault limits front rest parts head payload is (aborts_push refuses same) =
    subst (λ f. Decides f limits (front ++ rest) parts) (sym same)
    (ends_inner_header limits front rest parts head payload _ is refuses)
inner_decides fault limits front rest parts head payload is (unsupported refuses same) =
    subst (λ f. Decides f limits (front ++ rest) parts) (sym same)
    (ends_inner_header limits front rest parts head payload _ is refuses)

fault_decides : {A : Type 0} (fault : StreamFault) (limits : Limits) (place : Place A) (front rest : List ℕ)
    → Stands limits place front → DecidesAt (Faulty fault) limits place rest
    → Decides fault limits (front ++ rest) (parts_at place)
fault_decides {A} fault limits AtParams front rest stands (inl refuses) =
    size_decides {A = A} fault limits front rest [] limits.params (params stands refl refl) refuses
fault_decides {A} fault limits AtParams front rest stands (inr refuses) =
    params_decide A fault limits front rest stands refuses
fault_decides fault limits (AtHeader parts) front rest stands (inl refuses) =
    size_decides fault limits front rest parts (header_room limits parts)
    (header (of_part stands refl)) refuses
fault_decides fault limits (AtHeader parts) front rest stands (inr refuses) =
    header_decides fault limits front rest parts (header_room limits parts) (of_part stands refl) refuses
fault_decides fault limits (AtChunk parts head payload) front rest stands refuses =
    chunk_decides fault limits front rest payload parts (of_part head stands) refuses
fault_decides fault limits (AtInnerHeader parts head payload) front rest stands fails =
    inner_decides fault limits front rest parts head payload stands fails
fault_decides fault limits (AtInnerChunk parts head payload inner) front rest stands (inl refuses) =
    chunk_decides fault limits front rest inner parts (of_interrupting head payload stands) refuses
fault_decides fault limits (AtInnerChunk parts head payload inner) front rest stands (inr is) =
    subst (λ f. Decides f limits (front ++ rest) parts) (sym is.1) (
      front,
      payload,
      inner,
      head,
      stands,
      ap (λ (x : List ℕ). front ++ x) is.0,
    )

-- and the end mark makes a whole bundle
abbrev told : Decision → Option StreamFault
told Closed = None
told (Faulty fault) = Some fault

settles : {A : Type 0} (decision : Decision) (limits : Limits) (place : Place A) (front rest : List ℕ)
    → Stands limits place front → DecidesAt decision limits place rest
    → IsSettled (told decision) limits (front ++ rest) (parts_at place)
settles Closed limits AtParams front rest stands is = absurd is
settles Closed limits (AtHeader parts) front rest stands is =
    record { front = front; has = stands; spelled = ap (λ (x : List ℕ). front ++ x) is }
settles Closed limits (AtChunk parts head payload) front rest stands is = absurd is
settles Closed limits (AtInnerHeader parts head payload) front rest stands is = absurd is
settles Closed limits (AtInnerChunk parts head payload inner) front rest stands is = absurd is
settles (Faulty fault) limits place front rest stands is =
    fault_decides fault limits place front rest stands is

-- ---- from place to place

regrouped : (front taken more rest : List ℕ) → rest ≡ taken ++ more → (front ++ taken) ++ more ≡ front ++ rest
regrouped front taken more rest spelled =
    append_assoc front taken more ∙ ap (λ (x : List ℕ). front ++ x) (sym spelled)

shorter : (taken more rest : List ℕ) (fuel : ℕ) → rest ≡ taken ++ more → 0 < length taken
    → length rest ≤ suc fuel → length more ≤ fuel
shorter taken more rest fuel spelled some enough =
    let len : length rest ≡ length (taken ++ more) = ap length spelled in
    omega (arith, len, some, enough, length-append taken more)

-- one step, and what is read after it
by_step : {A : Type 0} (limits : Limits) (place : Place A) (front rest : List ℕ) → Stands limits place front
    → Continues limits place rest
    → ((next : Place A) (taken more : List ℕ) → Stands limits next (front ++ taken) → 0 < length taken
    → rest ≡ taken ++ more → IsReadOrSettled A limits ((front ++ taken) ++ more))
    → IsReadOrSettled A limits (front ++ rest)
by_step limits place front rest stands (stays partial) further =
    inl (parts_at place, still_read limits place front rest stands partial)
by_step limits place front rest stands (decides decision taken more is spelled) further =
    inr (
      front ++ taken,
      more,
      parts_at place,
      told decision,
      settles decision limits place front taken stands is,
      sym (regrouped front taken more rest spelled),
    )
by_step {A} limits place front rest stands (goes_on next taken more leads some spelled) further =
    subst (λ (x : List ℕ). IsReadOrSettled A limits x) (regrouped front taken more rest spelled)
    (further next taken more (stands_behind limits place next front taken stands leads) some spelled)

reads_from : {A : Type 0} (fuel : ℕ) (limits : Limits) (place : Place A) (front rest : List ℕ)
    → length rest ≤ fuel → Stands limits place front → All IsByte rest
    → IsReadOrSettled A limits (front ++ rest)
reads_from zero limits place front rest enough stands each =
    by_step limits place front rest stands (every_step limits place rest each)
    (λ next taken more there some spelled. let len : length rest ≡ length (taken ++ more) =
    ap length spelled in absurd (omega (arith, len, some, enough, length-append taken more)))
reads_from (suc fuel) limits place front rest enough stands each =
    by_step limits place front rest stands (every_step limits place rest each)
    (λ next taken more there some spelled. reads_from fuel limits next (front ++ taken) more
    (shorter taken more rest fuel spelled some enough) there
    (bytes_behind taken more rest spelled each))

-- ---- the first four bytes

behind_four : (A : Type 0) (limits : Limits) (four more : List ℕ) → length four ≡ 4
    → All IsByte (four ++ more) → IsReadOrSettled A limits (four ++ more)
behind_four A limits four more size each =
    elim (cases_Bool (bytes_eq four magic)) [
      | inl same ↦ reads_from {A = A} (length more) limits AtParams four more (omega arith)
          ((bytes_eq-Decides four magic).0 same) (bytes_behind four more (four ++ more) refl each)
      | inr other ↦ inr (
        four,
        more,
        [],
        Some BadMagic,
        (size, (λ same. false≢true (sym other ∙ (bytes_eq-Decides four magic).1 same)), refl),
        refl,
      )
    ]

pub every_stream : {A : Type 0} (limits : Limits) (bytes : List ℕ) → All IsByte bytes
    → IsReadOrSettled A limits bytes
every_stream limits [] each = inl ([], at_magic (omega arith) refl)
every_stream limits (a ∷ []) each = inl ([], at_magic (omega arith) refl)
every_stream limits (a ∷ b ∷ []) each = inl ([], at_magic (omega arith) refl)
every_stream limits (a ∷ b ∷ c ∷ []) each = inl ([], at_magic (omega arith) refl)
every_stream {A} limits (a ∷ b ∷ c ∷ d ∷ more) each = behind_four A limits (a ∷ b ∷ c ∷ d ∷ []) more refl each
