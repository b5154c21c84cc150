-- At each place any bytes are less than a block or chunk, or begin with one that leads on, or with what
-- decides.
use Rattle.std.proofs.Common.{◌≡◌, ℕ, zero, suc, ◌+◌, ◌<◌, ◌≤◌, ◌^◌, List, [], ◌∷◌, ◌++◌, length, take, drop}
use Rattle.std.proofs.Common.{refl, sym, ap, ◌∙◌, append_assoc, arith, inl, inr, subst, All, add-one}
use Rattle.std.specs.Prelude.{pos, negsuc, nat_lt}
use Rattle.std.specs.List.{flat_map}
use Rattle.std.proofs.lemmas.Bool.{cases_lt, ltb-true}
use Rattle.std.proofs.lemmas.List.{append-nil, length-append, take_at, drop_at}
use Rattle.std.proofs.lemmas.List.Elements.{All-take, All-drop}
use Rattle.hg_types.specs.declared.limits.Limits.{Limits}
use Rattle.hg_types.specs.declared.part.Part.{Part}
use Rattle.hg_chunks.specs.declared.fault.ChunkFault.TheVariants as chunk_fault
use Rattle.hg_chunks.specs.Size.{size_bytes}
use Rattle.hg_chunks.specs.Payload.{Item, Chunk, Interruption, item_bytes, chunk_bytes, interruption, closing}
use Rattle.hg_chunks.specs.Payload.{IsOpen}
use Rattle.hg_chunks.specs.Reading.{IsStopped, partial_size, partial_chunk, closes, bad_size, ReadsItems}
use Rattle.hg_chunks.proofs.CallerLemmas.{every_reading_lem}
use Rattle.hg_params.specs.declared.head.Head.{Head}
use Rattle.hg_params.specs.Laws.{HasSomeReading, HasSomeParamsReading}
use Rattle.hg_params.proofs.CallerLemmas.{every_header, every_params_text}
use Rattle.hg_stream.specs.declared.fault.StreamFault.{StreamFault}
use Rattle.hg_stream.specs.declared.fault.StreamFault.TheVariants as stream_fault
use Rattle.hg_stream.specs.declared.interrupting.Verdict.{Verdict}
use Rattle.hg_stream.specs.declared.interrupting.Verdict.TheVariants.{Dropped, Aborts, Refused}
use Rattle.hg_stream.specs.Block.{sized, IsBlock, IsPartialBlock}
use Rattle.hg_stream.specs.Interrupting.{verdict_of}
use Rattle.hg_stream.specs.Frames.{max_header, HasHead, part_of}
use Rattle.hg_stream.specs.Places.{header_room}
use Rattle.hg_stream.proofs.Steps.{room_some, no_params}
use Rattle.hg_stream.proofs.Runs.{Place, AtParams, AtHeader, AtChunk, AtInnerHeader, AtInnerChunk}
use Rattle.hg_stream.proofs.Runs.{IsNextChunk, next_chunk, pause, payload_end, no_part, a_part, inner_chunk}
use Rattle.hg_stream.proofs.Runs.{inner_end, Leads, IsPartialAt, Decision, Closed, Faulty, RefusesSize}
use Rattle.hg_stream.proofs.Runs.{negative, oversize, RefusesChunk, bad_header, aborts_push, unsupported}
use Rattle.hg_stream.proofs.Runs.{DecidesAt}
use Rattle.hg_stream.proofs.Runs as runs

-- ---- bytes

abbrev pub IsByte : ℕ → Type 0
IsByte byte = byte < 256

pub bytes_behind : (front more bytes : List ℕ) → bytes ≡ front ++ more → All IsByte bytes → All IsByte more
bytes_behind front more bytes spelled each =
    subst (λ (x : List ℕ). All IsByte x) (ap (drop (length front)) spelled
    ∙ drop_at front more (length front) refl) (All-drop IsByte (length front) bytes each)

bytes_before : (front more bytes : List ℕ) → bytes ≡ front ++ more → All IsByte bytes → All IsByte front
bytes_before front more bytes spelled each =
    subst (λ (x : List ℕ). All IsByte x) (ap (take (length front)) spelled
    ∙ take_at front more (length front) refl) (All-take IsByte (length front) bytes each)

block_bytes : (block more bytes : List ℕ) → bytes ≡ sized block ++ more → All IsByte bytes → All IsByte block
block_bytes block more bytes spelled each =
    let size : List ℕ = size_bytes (pos (length block)) in
    bytes_before block more (block ++ more) refl
    (bytes_behind size (block ++ more) bytes (spelled ∙ append_assoc size block more) each)

some_sized : (block : List ℕ) → 0 < length (sized block)
some_sized block = omega (arith, length-append (size_bytes (pos (length block))) block)

-- ---- what any bytes begin with

-- less than a size; a size and less than its block; a negative size; or a size and its block
data Begins (rest : List ℕ) : Type 0 where
  no_size : length rest < 4 → Begins rest
  part_of_block : (size : ℕ) (part : List ℕ) → size < 2 ^ 31 → length part < size
      → rest ≡ size_bytes (pos size) ++ part → Begins rest
  below_zero : (size : ℕ) (more : List ℕ) → size < 2 ^ 31 → rest ≡ size_bytes (negsuc size) ++ more
      → Begins rest
  whole_block : (block more : List ℕ) → length block < 2 ^ 31 → rest ≡ sized block ++ more → Begins rest

stopped_begins : (rest : List ℕ) → IsStopped rest → Begins rest
stopped_begins rest (partial_size short) = no_size short
stopped_begins rest (partial_chunk size part small spelled less) = part_of_block size part small less spelled
stopped_begins rest (closes more spelled) =
    whole_block [] more (omega arith) (spelled ∙ ap (λ (x : List ℕ). x ++ more) (sym (append-nil closing)))
stopped_begins rest (bad_size size more some small spelled) = below_zero size more small spelled

reading_begins : (rest : List ℕ) (items : List Item) (left : List ℕ) → ReadsItems rest items left → Begins rest
reading_begins rest [] left reads =
    subst (λ (x : List ℕ). Begins x) (sym reads.spelled) (stopped_begins left reads.stopped)
reading_begins rest (Chunk c ∷ items) left reads =
    let more : List ℕ = flat_map item_bytes items ++ left in
    whole_block c more reads.each.0.1 (reads.spelled
    ∙ append_assoc (chunk_bytes c) (flat_map item_bytes items) left)
reading_begins rest (Interruption ∷ items) left reads =
    let more : List ℕ = flat_map item_bytes items ++ left in
    below_zero 0 more (omega arith) (reads.spelled
    ∙ append_assoc interruption (flat_map item_bytes items) left)

begins : (rest : List ℕ) → All IsByte rest → Begins rest
begins rest each = let read = every_reading_lem rest each in reading_begins rest read.0 read.1 read.2

-- ---- where a block comes next

-- less than a block; a size that is refused; or a block that is allowed, which may be empty
data BlockNext (most : ℕ) (rest : List ℕ) : Type 0 where
  waits : IsPartialBlock most rest → BlockNext most rest
  size_refused : (fault : StreamFault) (taken more : List ℕ) → RefusesSize most taken fault → rest ≡ taken
      ++ more → BlockNext most rest
  allowed_block : (block more : List ℕ) → length block ≤ most → length block < 2 ^ 31 → rest ≡ sized block
      ++ more → BlockNext most rest

too_large : (most size : ℕ) (rest more : List ℕ) → most < size → size < 2 ^ 31 → rest ≡ size_bytes (pos size)
    ++ more → BlockNext most rest
too_large most size rest more large small spelled =
    size_refused stream_fault.TooLarge (size_bytes (pos size)) more
    (oversize (size, large, small, refl) refl) spelled

block_next : (most : ℕ) (rest : List ℕ) → Begins rest → BlockNext most rest
block_next most rest (no_size short) = waits (inl short)
block_next most rest (part_of_block size part small less spelled) =
    elim (cases_lt most size) [
      | inl large ↦ too_large most size rest part large small spelled
      | inr fits ↦ waits (inr (
        size,
        part,
        record {
          positive = omega (arith, less);
          allowed = fits;
          small = small;
          less = less;
          spelled = spelled;
        },
      ))
    ]
block_next most rest (below_zero size more small spelled) =
    size_refused stream_fault.NegativeSize (size_bytes (negsuc size)) more
    (negative (size, small, refl) refl) spelled
block_next most rest (whole_block block more small spelled) =
    elim (cases_lt most (length block)) [
      | inl large ↦ too_large most (length block) rest (block ++ more) large small (spelled
          ∙ append_assoc (size_bytes (pos (length block))) block more)
      | inr fits ↦ allowed_block block more fits small spelled
    ]

-- ---- where a chunk comes next

-- less than a chunk; a size that is refused; a size of -1; a size of 0; or a chunk that is allowed
data ChunkNext (limits : Limits) (whole rest : List ℕ) : Type 0 where
  stays_open : IsOpen limits.payload whole rest → ChunkNext limits whole rest
  chunk_refused : (fault : StreamFault) (taken more : List ℕ) → RefusesChunk limits.payload whole taken fault
      → rest ≡ taken ++ more → ChunkNext limits whole rest
  minus_one : (more : List ℕ) → rest ≡ interruption ++ more → ChunkNext limits whole rest
  no_more : (more : List ℕ) → rest ≡ closing ++ more → ChunkNext limits whole rest
  allowed_chunk : (c more : List ℕ) → IsNextChunk limits whole (chunk_bytes c) c → rest ≡ chunk_bytes c
      ++ more → ChunkNext limits whole rest

chunk_too_large : (limits : Limits) (whole rest more : List ℕ) (size : ℕ) → 0 < size → size < 2 ^ 31
    → limits.payload < length whole + size → rest ≡ size_bytes (pos size) ++ more
    → ChunkNext limits whole rest
chunk_too_large limits whole rest more size some small passes spelled =
    chunk_refused (stream_fault.Chunk chunk_fault.TooLarge) (size_bytes (pos size)) more
    (record {
      wrong = chunk_fault.TooLarge;
      refused = record { size = size; positive = some; small = small; passes = passes; spelled = refl };
      fault_is = refl;
    }) spelled

chunk_next : (limits : Limits) (whole rest : List ℕ) → Begins rest → ChunkNext limits whole rest
chunk_next limits whole rest (no_size short) = stays_open (inl short)
chunk_next limits whole rest (part_of_block size part small less spelled) =
    elim (cases_lt limits.payload (length whole + size)) [
      | inl passes ↦ chunk_too_large limits whole rest part size (omega (arith, less)) small passes spelled
      | inr fits ↦ stays_open (inr
          (record {
            size = size;
            part = part;
            positive = omega (arith, less);
            small = small;
            allowed = fits;
            spelled = spelled;
            less = less;
          }))
    ]
chunk_next limits whole rest (below_zero zero more small spelled) = minus_one more spelled
chunk_next limits whole rest (below_zero (suc size) more small spelled) =
    let same : size_bytes (negsuc (suc size)) ≡ size_bytes (negsuc (size + 1)) =
    ap (λ (n : ℕ). size_bytes (negsuc n)) (sym (add-one size)) in
    chunk_refused (stream_fault.Chunk chunk_fault.BadSize) (size_bytes (negsuc (suc size))) more
    (record {
      wrong = chunk_fault.BadSize;
      refused = record { size = size; spelled = same; small = omega (arith, small) };
      fault_is = refl;
    })
    spelled
chunk_next limits whole rest (whole_block [] more small spelled) =
    no_more more (spelled ∙ ap (λ (x : List ℕ). x ++ more) (append-nil closing))
chunk_next limits whole rest (whole_block (byte ∷ bytes) more small spelled) =
    let c : List ℕ = byte ∷ bytes in
    elim (cases_lt limits.payload (length whole + length c)) [
      | inl passes ↦ chunk_too_large limits whole rest (c ++ more) (length c) (omega arith) small passes
          (spelled ∙ append_assoc (size_bytes (pos (length c))) c more)
      | inr fits ↦ allowed_chunk c more
          (record {
            is = (omega arith, small);
            fits = omega (arith, fits, length-append whole c);
            spelled = refl;
          }) spelled
    ]

-- ---- at each place

-- less than a block or chunk; what decides; or what leads to another place
pub data Continues {A : Type 0} (limits : Limits) (place : Place A) (rest : List ℕ) : Type 0 where
  stays : IsPartialAt limits place rest → Continues limits place rest
  decides : (decision : Decision) (taken more : List ℕ) → DecidesAt decision limits place taken → rest ≡ taken
      ++ more → Continues limits place rest
  goes_on : (next : Place A) (taken more : List ℕ) → Leads limits place taken next → 0 < length taken
      → rest ≡ taken ++ more → Continues limits place rest

-- the stream parameters
with_params : {A : Type 0} (limits : Limits) (block more rest : List ℕ) → IsBlock limits.params block
    → rest ≡ sized block ++ more → HasSomeParamsReading A block → Continues {A = A} limits AtParams rest
with_params limits block more rest is spelled (inl reads) =
    goes_on (AtHeader []) (sized block) more
    (record {
      block = block;
      params = reads.0;
      fits = is.1;
      small = is.2;
      reads = reads.1;
      spelled = refl;
      leads = refl;
    }) (some_sized block) spelled
with_params limits block more rest is spelled (inr refused) =
    decides (Faulty (stream_fault.Params refused.0)) (sized block) more
    (inr (record {
      block = block;
      is = is;
      wrong = refused.0;
      refused = refused.1;
      spelled = refl;
      fault_is = refl;
    })) spelled

at_params : {A : Type 0} (limits : Limits) (rest : List ℕ) → BlockNext limits.params rest
    → Continues {A = A} limits AtParams rest
at_params limits rest (waits partial) = stays partial
at_params limits rest (size_refused fault taken more refused spelled) =
    decides (Faulty fault) taken more (inl refused) spelled
at_params {A} limits rest (allowed_block [] more fits small spelled) =
    let none = no_params {A = A} in
    goes_on (AtHeader []) (sized []) more
    (record {
      block = [];
      params = none.0;
      fits = omega arith;
      small = omega arith;
      reads = none.1;
      spelled = refl;
      leads = refl;
    }) (omega arith) spelled
at_params limits rest (allowed_block (byte ∷ bytes) more fits small spelled) =
    with_params limits (byte ∷ bytes) more rest (omega arith, fits, small) spelled
    (every_params_text (byte ∷ bytes))

-- a part's header
with_header : {A : Type 0} (limits : Limits) (parts : List (Part A)) (block more rest : List ℕ)
    → IsBlock (header_room limits parts) block → rest ≡ sized block ++ more → HasSomeReading A block
    → Continues limits (AtHeader parts) rest
with_header limits parts block more rest is spelled (inl reads) =
    let room = room_some (nat_lt (length parts) limits.parts) (length block) is.0 is.1 in
    let few : length parts < limits.parts = ltb-true (length parts) limits.parts room.0 in
    let has : HasHead block reads.0 = record { some = is.0; small = room.1; reads = reads.1 } in
    goes_on (AtChunk parts reads.0 []) (sized block) more
    (record { few = few; header = block; head = reads.0; reads = has; spelled = refl; leads = refl })
    (some_sized block) spelled
with_header limits parts block more rest is spelled (inr refused) =
    decides (Faulty (stream_fault.Header refused.0)) (sized block) more
    (inr (record {
      block = block;
      is = is;
      wrong = refused.0;
      refused = refused.1;
      spelled = refl;
      fault_is = refl;
    })) spelled

at_header : {A : Type 0} (limits : Limits) (parts : List (Part A)) (rest : List ℕ) → All IsByte rest
    → BlockNext (header_room limits parts) rest → Continues limits (AtHeader parts) rest
at_header limits parts rest each (waits partial) = stays partial
at_header limits parts rest each (size_refused fault taken more refused spelled) =
    decides (Faulty fault) taken more (inl refused) spelled
at_header limits parts rest each (allowed_block [] more fits small spelled) =
    decides Closed (sized []) more (append-nil closing) spelled
at_header limits parts rest each (allowed_block (byte ∷ bytes) more fits small spelled) =
    let block : List ℕ = byte ∷ bytes in
    with_header limits parts block more rest (omega arith, fits, small) spelled
    (every_header block (block_bytes block more rest spelled each))

-- in a part's payload
at_chunk : {A : Type 0} (limits : Limits) (parts : List (Part A)) (head : Head A) (payload rest : List ℕ)
    → ChunkNext limits payload rest → Continues limits (AtChunk parts head payload) rest
at_chunk limits parts head payload rest (stays_open partial) = stays partial
at_chunk limits parts head payload rest (chunk_refused fault taken more refused spelled) =
    decides (Faulty fault) taken more refused spelled
at_chunk limits parts head payload rest (minus_one more spelled) =
    goes_on (AtInnerHeader parts head payload) interruption more (pause refl refl) (omega arith) spelled
at_chunk limits parts head payload rest (no_more more spelled) =
    goes_on (AtHeader (parts ++ part_of head payload ∷ [])) closing more (payload_end refl refl)
    (omega arith) spelled
at_chunk limits parts head payload rest (allowed_chunk c more is spelled) =
    goes_on (AtChunk parts head (payload ++ c)) (chunk_bytes c) more (next_chunk c is refl)
    (some_sized c) spelled

-- an interrupting part's header, by what becomes of the part
with_verdict : {A : Type 0} (limits : Limits) (parts : List (Part A)) (head : Head A)
    (payload block more rest : List ℕ) (inner : Head A) (verdict : Verdict) → HasHead block inner
    → verdict_of inner ≡ verdict
    → rest ≡ sized block ++ more → Continues limits (AtInnerHeader parts head payload) rest
with_verdict limits parts head payload block more rest inner Dropped has is spelled =
    goes_on (AtInnerChunk parts head payload []) (sized block) more
    (a_part (record {
      header = block;
      inner_head = inner;
      reads = has;
      dropped = is;
      spelled = refl;
      leads = refl;
    })) (some_sized block) spelled
with_verdict limits parts head payload block more rest inner Aborts has is spelled =
    decides (Faulty stream_fault.ClientAbort) (sized block) more
    (aborts_push (record {
      header = block;
      inner_head = inner;
      reads = has;
      decided = is;
      spelled = refl;
    }) refl) spelled
with_verdict limits parts head payload block more rest inner Refused has is spelled =
    decides (Faulty stream_fault.Unsupported) (sized block) more
    (unsupported (record {
      header = block;
      inner_head = inner;
      reads = has;
      decided = is;
      spelled = refl;
    }) refl) spelled

with_inner_header : {A : Type 0} (limits : Limits) (parts : List (Part A)) (head : Head A)
    (payload block more rest : List ℕ) → IsBlock max_header block → rest ≡ sized block ++ more
    → HasSomeReading A block
    → Continues limits (AtInnerHeader parts head payload) rest
with_inner_header limits parts head payload block more rest is spelled (inl reads) =
    with_verdict limits parts head payload block more rest reads.0 (verdict_of reads.0)
    (record { some = is.0; small = is.1; reads = reads.1 }) refl spelled
with_inner_header limits parts head payload block more rest is spelled (inr refused) =
    decides (Faulty (stream_fault.Header refused.0)) (sized block) more
    (bad_header (record {
      block = block;
      is = is;
      wrong = refused.0;
      refused = refused.1;
      spelled = refl;
      fault_is = refl;
    })) spelled

at_inner_header : {A : Type 0} (limits : Limits) (parts : List (Part A)) (head : Head A)
    (payload rest : List ℕ) → All IsByte rest → BlockNext max_header rest
    → Continues limits (AtInnerHeader parts head payload) rest
at_inner_header limits parts head payload rest each (waits partial) = stays partial
at_inner_header limits parts head payload rest each (size_refused fault taken more refused spelled) =
    decides (Faulty fault) taken more (runs.bad_size refused) spelled
at_inner_header limits parts head payload rest each (allowed_block [] more fits small spelled) =
    goes_on (AtChunk parts head payload) (sized []) more (no_part (append-nil closing) refl)
    (omega arith) spelled
at_inner_header limits parts head payload rest each (allowed_block (byte ∷ bytes) more fits small spelled) =
    let block : List ℕ = byte ∷ bytes in
    with_inner_header limits parts head payload block more rest (omega arith, fits, small) spelled
    (every_header block (block_bytes block more rest spelled each))

-- in an interrupting part's payload
at_inner_chunk : {A : Type 0} (limits : Limits) (parts : List (Part A)) (head : Head A)
    (payload inner rest : List ℕ) → ChunkNext limits inner rest
    → Continues limits (AtInnerChunk parts head payload inner) rest
at_inner_chunk limits parts head payload inner rest (stays_open partial) = stays partial
at_inner_chunk limits parts head payload inner rest (chunk_refused fault taken more refused spelled) =
    decides (Faulty fault) taken more (inl refused) spelled
at_inner_chunk limits parts head payload inner rest (minus_one more spelled) =
    decides (Faulty stream_fault.NestedInterrupt) interruption more (inr (refl, refl)) spelled
at_inner_chunk limits parts head payload inner rest (no_more more spelled) =
    goes_on (AtChunk parts head payload) closing more (inner_end refl refl) (omega arith) spelled
at_inner_chunk limits parts head payload inner rest (allowed_chunk c more is spelled) =
    goes_on (AtInnerChunk parts head payload (inner ++ c)) (chunk_bytes c) more (inner_chunk c is refl)
    (some_sized c) spelled

pub every_step : {A : Type 0} (limits : Limits) (place : Place A) (rest : List ℕ) → All IsByte rest
    → Continues limits place rest
every_step limits AtParams rest each =
    at_params limits rest (block_next limits.params rest (begins rest each))
every_step limits (AtHeader parts) rest each =
    at_header limits parts rest each (block_next (header_room limits parts) rest (begins rest each))
every_step limits (AtChunk parts head payload) rest each =
    at_chunk limits parts head payload rest (chunk_next limits payload rest (begins rest each))
every_step limits (AtInnerHeader parts head payload) rest each =
    at_inner_header limits parts head payload rest each (block_next max_header rest (begins rest each))
every_step limits (AtInnerChunk parts head payload inner) rest each =
    at_inner_chunk limits parts head payload inner rest (chunk_next limits inner rest (begins rest each))
