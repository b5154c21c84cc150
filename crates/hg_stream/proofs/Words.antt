-- What the grammar says of some bytes, said by a run and how it ends.
use Rattle.std.proofs.Common.{◌≡◌, ◌≢◌, ℕ, ◌<◌, List, [], ◌++◌, length, refl, sym, ap, ◌∙◌, append_assoc, inl}
use Rattle.std.proofs.Common.{inr, subst, ◌⊎◌}
use Rattle.hg_types.specs.declared.limits.Limits.{Limits}
use Rattle.hg_types.specs.declared.part.Part.{Part}
use Rattle.hg_chunks.specs.Payload.{IsOpen, interruption, closing}
use Rattle.hg_stream.specs.declared.fault.StreamFault.{StreamFault}
use Rattle.hg_stream.specs.declared.fault.StreamFault.TheVariants.{BadMagic, NegativeSize, Params, Header}
use Rattle.hg_stream.specs.declared.fault.StreamFault.TheVariants.{Chunk, NestedInterrupt, ClientAbort}
use Rattle.hg_stream.specs.declared.fault.StreamFault.TheVariants.{Unsupported, TooLarge, Truncated, NoMemory}
use Rattle.hg_stream.specs.declared.interrupting.Verdict.{Verdict}
use Rattle.hg_stream.specs.declared.interrupting.Verdict.TheVariants.{Aborts, Refused}
use Rattle.hg_stream.specs.Block.{sized, IsPartialBlock}
use Rattle.hg_stream.specs.Frames.{magic, IsWhole}
use Rattle.hg_stream.specs.Places.{IsBeforeHeader, IsBeforeBlock, params, header, IsBeforeChunk, of_part}
use Rattle.hg_stream.specs.Places.{of_interrupting, IsReading, at_magic, at_block, at_chunk}
use Rattle.hg_stream.specs.Faults.{EndsInnerHeader, Decides}
use Rattle.hg_stream.proofs.Runs.{Place, AtParams, AtHeader, AtChunk, AtInnerHeader, AtInnerChunk, parts_at}
use Rattle.hg_stream.proofs.Runs.{run_bytes, IsPartialAt, Decision, Closed, Faulty, RefusesSize, negative}
use Rattle.hg_stream.proofs.Runs.{oversize, RefusesHeader, RefusesInner, RefusesChunk, FailsInner, bad_size}
use Rattle.hg_stream.proofs.Runs.{bad_header, aborts_push, unsupported, DecidesAt, ReadsOn, Settles}
use Rattle.hg_stream.proofs.Reaching.{Reaches, reach_params, reach_header, reach_chunk, reach_inner_header}
use Rattle.hg_stream.proofs.Reaching.{reach_inner_chunk}

-- ---- a place that is reached, and what stands there

-- the bytes after the magic
behind_magic : {A : Type 0} (limits : Limits) (place : Place A) (front rest bytes : List ℕ)
    → (r : Reaches limits place front) → bytes ≡ front ++ rest → bytes ≡ magic
    ++ (run_bytes r.runs.steps ++ rest)
behind_magic limits place front rest bytes r spelled =
    spelled ∙ ap (λ (x : List ℕ). x ++ rest) r.spelled ∙ append_assoc magic r.body rest
    ∙ ap (λ (x : List ℕ). magic ++ (x ++ rest)) r.runs.spelled

pub reads_on : {A : Type 0} (limits : Limits) (place : Place A) (front rest bytes : List ℕ)
    → Reaches limits place front → IsPartialAt limits place rest → bytes ≡ front ++ rest
    → ReadsOn limits bytes (parts_at place)
reads_on limits place front rest bytes r partial spelled = record {
  steps = r.runs.steps;
  place = place;
  rest = rest;
  run = r.runs.run;
  partial = partial;
  parts_are = refl;
  spelled = behind_magic limits place front rest bytes r spelled;
}

pub settles : {A : Type 0} (decision : Decision) (limits : Limits) (place : Place A)
    (front rest bytes : List ℕ) → Reaches limits place front → DecidesAt decision limits place rest
    → bytes ≡ front ++ rest
    → Settles decision limits bytes (parts_at place)
settles decision limits place front rest bytes r decides spelled = record {
  steps = r.runs.steps;
  place = place;
  rest = rest;
  run = r.runs.run;
  decides = decides;
  parts_are = refl;
  spelled = behind_magic limits place front rest bytes r spelled;
}

-- ---- bytes that are still read

block_reads_on : {A : Type 0} (limits : Limits) (bytes front rest : List ℕ) (parts : List (Part A)) (most : ℕ)
    → IsBeforeBlock limits front parts most → IsPartialBlock most rest → bytes ≡ front ++ rest
    → ReadsOn limits bytes parts
block_reads_on {A} limits bytes front rest parts most (params at none room) partial spelled =
    let reached : Reaches {A = A} limits AtParams front = subst (λ f. Reaches {A = A} limits AtParams f)
    (sym at) (reach_params limits) in
    subst (λ ps. ReadsOn limits bytes ps) (sym none)
    (reads_on limits AtParams front rest bytes reached (subst (λ m. IsPartialBlock m rest) room partial)
    spelled)
block_reads_on limits bytes front rest parts most (header (of_part has room)) partial spelled =
    reads_on limits (AtHeader parts) front rest bytes (reach_header limits front parts has)
    (subst (λ m. IsPartialBlock m rest) room partial) spelled
block_reads_on limits bytes front rest parts most (header (of_interrupting head payload is room)) partial
    spelled =
    reads_on limits (AtInnerHeader parts head payload) front rest bytes
    (reach_inner_header limits front parts head payload is)
    (subst (λ m. IsPartialBlock m rest) room partial) spelled

chunk_reads_on : {A : Type 0} (limits : Limits) (bytes front rest whole : List ℕ) (parts : List (Part A))
    → IsBeforeChunk limits front parts whole → IsOpen limits.payload whole rest → bytes ≡ front ++ rest
    → ReadsOn limits bytes parts
chunk_reads_on limits bytes front rest whole parts (of_part head is) partial spelled =
    reads_on limits (AtChunk parts head whole) front rest bytes (reach_chunk limits front parts head whole is)
    partial spelled
chunk_reads_on limits bytes front rest whole parts (of_interrupting head payload is) partial spelled =
    reads_on limits (AtInnerChunk parts head payload whole) front rest bytes
    (reach_inner_chunk limits front parts head payload whole is) partial spelled

-- bytes that are still read are less than the magic, or end after a run
pub reading_runs : {A : Type 0} (limits : Limits) (bytes : List ℕ) (parts : List (Part A))
    → IsReading limits bytes parts
    → ((length bytes < 4) × (parts ≡ [])) ⊎ ReadsOn limits bytes parts
reading_runs limits bytes parts (at_magic short none) = inl (short, none)
reading_runs limits bytes parts (at_block front rest most before partial spelled) =
    inr (block_reads_on limits bytes front rest parts most before partial spelled)
reading_runs limits bytes parts (at_chunk front rest whole before partial spelled) =
    inr (chunk_reads_on limits bytes front rest whole parts before partial spelled)

-- ---- whole bundles

-- a whole bundle is a run and the end mark
pub whole_settles : {A : Type 0} (limits : Limits) (bytes : List ℕ) (parts : List (Part A))
    → IsWhole limits bytes parts → Settles Closed limits bytes parts
whole_settles limits bytes parts whole =
    settles Closed limits (AtHeader parts) whole.front closing bytes
    (reach_header limits whole.front parts whole.has) refl whole.spelled

-- ---- faults

size_settles : {A : Type 0} (fault : StreamFault) (limits : Limits) (bytes front rest : List ℕ)
    (parts : List (Part A)) (most : ℕ) → IsBeforeBlock limits front parts most → RefusesSize most rest fault
    → bytes ≡ front ++ rest → Settles (Faulty fault) limits bytes parts
size_settles {A} fault limits bytes front rest parts most (params at none room) refuses spelled =
    let reached : Reaches {A = A} limits AtParams front = subst (λ f. Reaches {A = A} limits AtParams f)
    (sym at) (reach_params limits) in
    subst (λ ps. Settles (Faulty fault) limits bytes ps) (sym none)
    (settles (Faulty fault) limits AtParams front rest bytes reached
    (inl (subst (λ m. RefusesSize m rest fault) room refuses)) spelled)
size_settles fault limits bytes front rest parts most (header (of_part has room)) refuses spelled =
    settles (Faulty fault) limits (AtHeader parts) front rest bytes (reach_header limits front parts has)
    (inl (subst (λ m. RefusesSize m rest fault) room refuses)) spelled
size_settles fault limits bytes front rest parts most (header (of_interrupting head payload is room)) refuses
    spelled =
    settles (Faulty fault) limits (AtInnerHeader parts head payload) front rest bytes
    (reach_inner_header limits front parts head payload is)
    (bad_size (subst (λ m. RefusesSize m rest fault) room refuses)) spelled

header_settles : {A : Type 0} (fault : StreamFault) (limits : Limits) (bytes front rest : List ℕ)
    (parts : List (Part A)) (most : ℕ) → IsBeforeHeader limits front parts most
    → RefusesHeader most rest fault
    → bytes ≡ front ++ rest → Settles (Faulty fault) limits bytes parts
header_settles fault limits bytes front rest parts most (of_part has room) refuses spelled =
    settles (Faulty fault) limits (AtHeader parts) front rest bytes (reach_header limits front parts has)
    (inr (subst (λ m. RefusesHeader m rest fault) room refuses)) spelled
header_settles fault limits bytes front rest parts most (of_interrupting head payload is room) refuses
    spelled =
    settles (Faulty fault) limits (AtInnerHeader parts head payload) front rest bytes
    (reach_inner_header limits front parts head payload is)
    (bad_header (subst (λ m. RefusesHeader m rest fault) room refuses)) spelled

chunk_settles : {A : Type 0} (fault : StreamFault) (limits : Limits) (bytes front rest whole : List ℕ)
    (parts : List (Part A)) → IsBeforeChunk limits front parts whole
    → RefusesChunk limits.payload whole rest fault → bytes ≡ front ++ rest
    → Settles (Faulty fault) limits bytes parts
chunk_settles fault limits bytes front rest whole parts (of_part head is) refuses spelled =
    settles (Faulty fault) limits (AtChunk parts head whole) front rest bytes
    (reach_chunk limits front parts head whole is) refuses spelled
chunk_settles fault limits bytes front rest whole parts (of_interrupting head payload is) refuses spelled =
    settles (Faulty fault) limits (AtInnerChunk parts head payload whole) front rest bytes
    (reach_inner_chunk limits front parts head payload whole is) (inl refuses) spelled

refuses_inner : {A : Type 0} (limits : Limits) (bytes : List ℕ) (parts : List (Part A)) (verdict : Verdict)
    → (e : EndsInnerHeader limits bytes parts verdict) → RefusesInner A (sized e.header) verdict
refuses_inner limits bytes parts verdict e =
    record {
      header = e.header;
      inner_head = e.inner_head;
      reads = e.reads;
      decided = e.decided;
      spelled = refl;
    }

inner_settles : {A : Type 0} (fault : StreamFault) (limits : Limits) (bytes : List ℕ) (parts : List (Part A))
    (verdict : Verdict) → (e : EndsInnerHeader limits bytes parts verdict)
    → FailsInner A (sized e.header) fault → Settles (Faulty fault) limits bytes parts
inner_settles fault limits bytes parts verdict e fails =
    settles (Faulty fault) limits (AtInnerHeader parts e.head e.payload) e.front (sized e.header) bytes
    (reach_inner_header limits e.front parts e.head e.payload e.interrupted) fails e.spelled

-- a fault is decided by the magic, or by what stands after a run
pub fault_settles : {A : Type 0} (fault : StreamFault) (limits : Limits) (bytes : List ℕ)
    (parts : List (Part A)) → Decides fault limits bytes parts
    → ((fault ≡ BadMagic) × (length bytes ≡ 4) × (bytes ≢ magic) × (parts ≡ []))
    ⊎ Settles (Faulty fault) limits bytes parts
fault_settles BadMagic limits bytes parts h = inl (refl, h.0, h.1, h.2)
fault_settles NegativeSize limits bytes parts (front, rest, most, before, size, spelled) =
    inr (size_settles NegativeSize limits bytes front rest parts most before (negative size refl) spelled)
fault_settles {A} (Params wrong) limits bytes parts (block, is, refused, spelled, none) =
    let refuses = inr (record {
      block = block;
      is = is;
      wrong = wrong;
      refused = refused;
      spelled = refl;
      fault_is = refl;
    }) in
    inr (subst (λ ps. Settles (Faulty (Params wrong)) limits bytes ps) (sym none)
    (settles {A = A} (Faulty (Params wrong)) limits AtParams magic (sized block) bytes
    (reach_params limits) refuses spelled))
fault_settles (Header wrong) limits bytes parts (front, block, most, before, is, refused, spelled) =
    inr (header_settles (Header wrong) limits bytes front (sized block) parts most before
    (record {
      block = block;
      is = is;
      wrong = wrong;
      refused = refused;
      spelled = refl;
      fault_is = refl;
    }) spelled)
fault_settles (Chunk wrong) limits bytes parts (front, rest, whole, before, refused, spelled) =
    inr (chunk_settles (Chunk wrong) limits bytes front rest whole parts before
    (record { wrong = wrong; refused = refused; fault_is = refl }) spelled)
fault_settles NestedInterrupt limits bytes parts (front, payload, inner, head, is, spelled) =
    inr (settles (Faulty NestedInterrupt) limits (AtInnerChunk parts head payload inner) front interruption
    bytes (reach_inner_chunk limits front parts head payload inner is) (inr (refl, refl)) spelled)
fault_settles ClientAbort limits bytes parts e =
    inr (inner_settles ClientAbort limits bytes parts Aborts e
    (aborts_push (refuses_inner limits bytes parts Aborts e) refl))
fault_settles Unsupported limits bytes parts e =
    inr (inner_settles Unsupported limits bytes parts Refused e
    (unsupported (refuses_inner limits bytes parts Refused e) refl))
fault_settles TooLarge limits bytes parts (front, rest, most, before, size, spelled) =
    inr (size_settles TooLarge limits bytes front rest parts most before (oversize size refl) spelled)
fault_settles Truncated limits bytes parts h = absurd h
fault_settles NoMemory limits bytes parts h = absurd h
