-- Every proper front of a stream that is settled is still read, and every front of one that is still read.
use Rattle.std.proofs.Common.{◌≡◌, ◌≢◌, ℕ, ◌+◌, ◌<◌, ◌≤◌, ◌^◌, Bool, List, [], ◌∷◌, ◌++◌, length, take, drop}
use Rattle.std.proofs.Common.{refl, sym, ap, ◌∙◌, append_assoc, arith, inl, inr, subst, ◌⊎◌}
use Rattle.std.specs.Prelude.{ℤ, pos, negsuc, if◌then◌else◌, Option, Some, None}
use Rattle.std.proofs.lemmas.Bool.{cases_lt, lt-ltb}
use Rattle.std.proofs.lemmas.List.{append-nil, length-append, length-take, take-append-drop}
use Rattle.hg_types.specs.declared.limits.Limits.{Limits}
use Rattle.hg_types.specs.declared.part.Part.{Part}
use Rattle.hg_chunks.specs.declared.fault.ChunkFault.{ChunkFault}
use Rattle.hg_chunks.specs.declared.fault.ChunkFault.TheVariants as chunk_fault
use Rattle.hg_chunks.specs.Size.{size_bytes}
use Rattle.hg_chunks.specs.Payload.{IsOpen, interruption, closing}
use Rattle.hg_chunks.proofs.CallerLemmas.{fronts}
use Rattle.hg_params.specs.declared.head.Head.{Head}
use Rattle.hg_stream.specs.declared.fault.StreamFault.{StreamFault}
use Rattle.hg_stream.specs.declared.fault.StreamFault.TheVariants.{BadMagic}
use Rattle.hg_stream.specs.declared.interrupting.Verdict.{Verdict}
use Rattle.hg_stream.specs.Block.{sized, IsPartialBlock}
use Rattle.hg_stream.specs.Frames.{magic, max_header, HasHead, HasParts}
use Rattle.hg_stream.specs.Places.{IsInPayload, IsInterrupted, IsInInner, header_room, params, header}
use Rattle.hg_stream.specs.Places.{of_part, of_interrupting, IsReading, at_magic, at_block, at_chunk}
use Rattle.hg_stream.specs.Faults.{IsChunkFault}
use Rattle.hg_stream.specs.Laws.{IsSettled}
use Rattle.hg_stream.proofs.Steps.{params_read}
use Rattle.hg_stream.proofs.Chunks.{more_chunks, more_inner, closes_part, ends_pause, ends_inner}
use Rattle.hg_stream.proofs.Runs.{Place, AtParams, AtHeader, AtChunk, AtInnerHeader, AtInnerChunk, parts_at}
use Rattle.hg_stream.proofs.Runs.{IsNextChunk, TakesHeader, TakesInnerHeader, next_chunk, pause, payload_end}
use Rattle.hg_stream.proofs.Runs.{no_part, a_part, inner_chunk, inner_end, Leads, Step, IsRun, run_bytes}
use Rattle.hg_stream.proofs.Runs.{IsPartialAt, Decision, Closed, Faulty, RefusesSize, negative, oversize}
use Rattle.hg_stream.proofs.Runs.{RefusesHeader, RefusesInner, RefusesChunk, FailsInner, bad_size, bad_header}
use Rattle.hg_stream.proofs.Runs.{aborts_push, unsupported, DecidesAt, ReadsOn, Settles}
use Rattle.hg_stream.proofs.Words.{reading_runs, whole_settles, fault_settles}

-- ---- fronts

-- Of two equal lists a front that is no longer than the other's is one of it.
pub longer : (a c f d : List ℕ) → a ++ c ≡ f ++ d → length a ≤ length f → (t : List ℕ) × (f ≡ a ++ t)
    × (c ≡ t ++ d)
longer a c f d same le =
    let n : ℕ = length a in
    let cut : f ≡ take n f ++ drop n f = sym (take-append-drop n f) in
    let len : length a ≡ length (take n f) = omega (arith, length-take n f, le) in
    let both = fronts a (take n f) c (drop n f ++ d) len (same ∙ ap (λ (x : List ℕ). x ++ d) cut
    ∙ append_assoc (take n f) (drop n f) d) in
    (drop n f, cut ∙ ap (λ (x : List ℕ). x ++ drop n f) (sym both.0), both.1)

-- a proper front: the list is the front and something more
abbrev pub IsProperFront : List ℕ → List ℕ → Type 0
IsProperFront front whole = (rest : List ℕ) × (whole ≡ front ++ rest) × (length front < length whole)

-- a proper front of a size is less than one
front_of_size : (size : ℤ) (whole front : List ℕ) → whole ≡ size_bytes size → IsProperFront front whole
    → length front < 4
front_of_size size whole front is proper =
    let len : length whole ≡ 4 = ap length is in
    omega (arith, len, proper.2)

-- a proper front of a block after its size is less than a size, or the size and less than the block
front_of_sized : (block whole front : List ℕ) → whole ≡ sized block → IsProperFront front whole
    → (length front < 4) ⊎ ((part : List ℕ) × (front ≡ size_bytes (pos (length block)) ++ part)
    × (length part < length block))
front_of_sized block whole front is proper = by_length (cases_lt (length front) 4)
  where
    by_length : (length front < 4) ⊎ (4 ≤ length front) → (length front < 4)
        ⊎ ((part : List ℕ) × (front ≡ size_bytes (pos (length block)) ++ part) × (length part < length block))
    by_length (inl short) = inl short
    by_length (inr long) =
        let cut = longer (size_bytes (pos (length block))) block front proper.0 (sym is ∙ proper.1) long in
        let len : length front ≡ length (size_bytes (pos (length block)) ++ cut.0) = ap length cut.1 in
        let size : length whole ≡ length (size_bytes (pos (length block)) ++ block) = ap length is in
        inr (
          cut.0,
          cut.1,
          omega (
            arith,
            len,
            size,
            proper.2,
            length-append (size_bytes (pos (length block))) cut.0,
            length-append (size_bytes (pos (length block))) block,
          ),
        )

-- so it may still become a block that is allowed
front_of_block : (most : ℕ) (block whole front : List ℕ) → length block ≤ most → length block < 2 ^ 31
    → whole ≡ sized block → IsProperFront front whole → IsPartialBlock most front
front_of_block most block whole front fits small is proper =
    by_case (front_of_sized block whole front is proper)
  where
    by_case : (length front < 4)
        ⊎ ((part : List ℕ) × (front ≡ size_bytes (pos (length block)) ++ part) × (length part < length block))
        → IsPartialBlock most front
    by_case (inl short) = inl short
    by_case (inr (part, spelled, less)) =
        inr (
          length block,
          part,
          record {
            positive = omega (arith, less);
            allowed = fits;
            small = small;
            less = less;
            spelled = spelled;
          },
        )

-- or a chunk that is allowed
front_of_chunk : (limits : Limits) (payload whole front c : List ℕ) → IsNextChunk limits payload whole c
    → IsProperFront front whole → IsOpen limits.payload payload front
front_of_chunk limits payload whole front c next proper =
    by_case (front_of_sized c whole front next.spelled proper)
  where
    by_case : (length front < 4)
        ⊎ ((part : List ℕ) × (front ≡ size_bytes (pos (length c)) ++ part) × (length part < length c))
        → IsOpen limits.payload payload front
    by_case (inl short) = inl short
    by_case (inr (part, spelled, less)) = inr (record {
      size = length c;
      part = part;
      positive = omega (arith, less);
      small = next.is.1;
      allowed = omega (arith, next.fits, length-append payload c);
      spelled = spelled;
      less = less;
    })

-- a front of a part of a block after its size
front_of_part : (size : ℕ) (part whole front behind : List ℕ) → whole ≡ size_bytes (pos size) ++ part
    → whole ≡ front ++ behind
    → (length front < 4) ⊎ ((less : List ℕ) × (front ≡ size_bytes (pos size) ++ less)
    × (length less ≤ length part))
front_of_part size part whole front behind is same = by_length (cases_lt (length front) 4)
  where
    by_length : (length front < 4) ⊎ (4 ≤ length front) → (length front < 4)
        ⊎ ((less : List ℕ) × (front ≡ size_bytes (pos size) ++ less) × (length less ≤ length part))
    by_length (inl short) = inl short
    by_length (inr long) =
        let cut = longer (size_bytes (pos size)) part front behind (sym is ∙ same) long in
        let len : length part ≡ length (cut.0 ++ behind) = ap length cut.2 in
        inr (cut.0, cut.1, omega (arith, len, length-append cut.0 behind))

-- what may still become a block, cut shorter
front_of_partial_block : (most : ℕ) (rest front behind : List ℕ) → IsPartialBlock most rest → rest ≡ front
    ++ behind → IsPartialBlock most front
front_of_partial_block most rest front behind (inl short) same =
    let len : length rest ≡ length (front ++ behind) = ap length same in
    inl (omega (arith, len, short, length-append front behind))
front_of_partial_block most rest front behind (inr (size, part, is)) same =
    by_case (front_of_part size part rest front behind is.spelled same)
  where
    by_case : (length front < 4)
        ⊎ ((less : List ℕ) × (front ≡ size_bytes (pos size) ++ less) × (length less ≤ length part))
        → IsPartialBlock most front
    by_case (inl short) = inl short
    by_case (inr (less, spelled, short)) =
        inr (
          size,
          less,
          record {
            positive = is.positive;
            allowed = is.allowed;
            small = is.small;
            less = omega (arith, short, is.less);
            spelled = spelled;
          },
        )

-- or a chunk
front_of_open : (limit : ℕ) (whole rest front behind : List ℕ) → IsOpen limit whole rest → rest ≡ front
    ++ behind → IsOpen limit whole front
front_of_open limit whole rest front behind (inl short) same =
    let len : length rest ≡ length (front ++ behind) = ap length same in
    inl (omega (arith, len, short, length-append front behind))
front_of_open limit whole rest front behind (inr is) same =
    by_case (front_of_part is.size is.part rest front behind is.spelled same)
  where
    by_case : (length front < 4)
        ⊎ ((less : List ℕ) × (front ≡ size_bytes (pos is.size) ++ less) × (length less ≤ length is.part))
        → IsOpen limit whole front
    by_case (inl short) = inl short
    by_case (inr (less, spelled, short)) = inr (record {
      size = is.size;
      part = less;
      positive = is.positive;
      small = is.small;
      allowed = is.allowed;
      spelled = spelled;
      less = omega (arith, short, is.less);
    })

front_of_partial : {A : Type 0} (limits : Limits) (p : Place A) (rest front behind : List ℕ)
    → IsPartialAt limits p rest → rest ≡ front ++ behind → IsPartialAt limits p front
front_of_partial limits AtParams rest front behind partial same =
    front_of_partial_block limits.params rest front behind partial same
front_of_partial limits (AtHeader parts) rest front behind partial same =
    front_of_partial_block (header_room limits parts) rest front behind partial same
front_of_partial limits (AtChunk parts head payload) rest front behind partial same =
    front_of_open limits.payload payload rest front behind partial same
front_of_partial limits (AtInnerHeader parts head payload) rest front behind partial same =
    front_of_partial_block max_header rest front behind partial same
front_of_partial limits (AtInnerChunk parts head payload inner) rest front behind partial same =
    front_of_open limits.payload inner rest front behind partial same

-- ---- in a step

front_of_header : {A : Type 0} (block whole front : List ℕ) (head : Head A) → HasHead block head
    → whole ≡ sized block → IsProperFront front whole → IsPartialBlock max_header front
front_of_header block whole front head has is proper =
    front_of_block max_header block whole front has.small (omega (arith, has.small)) is proper

-- where another part may come there is room for its header
room_there : {A : Type 0} (limits : Limits) (parts : List (Part A)) → length parts < limits.parts
    → max_header ≡ header_room limits parts
room_there limits parts few =
    ap (λ (b : Bool). if b then max_header else 0) (sym (lt-ltb (length parts) limits.parts few))

front_of_step : {A : Type 0} (limits : Limits) (p next : Place A) (taken front : List ℕ)
    → Leads limits p taken next → IsProperFront front taken → IsPartialAt limits p front
front_of_step limits AtParams next taken front leads proper =
    front_of_block limits.params leads.block taken front leads.fits leads.small leads.spelled proper
front_of_step limits (AtHeader parts) next taken front leads proper =
    subst (λ m. IsPartialBlock m front) (room_there limits parts leads.few)
    (front_of_header leads.header taken front leads.head leads.reads leads.spelled proper)
front_of_step limits (AtChunk parts head payload) next taken front (next_chunk c is to) proper =
    front_of_chunk limits payload taken front c is proper
front_of_step limits (AtChunk parts head payload) next taken front (pause is to) proper =
    inl (front_of_size (negsuc 0) taken front is proper)
front_of_step limits (AtChunk parts head payload) next taken front (payload_end is to) proper =
    inl (front_of_size (pos 0) taken front is proper)
front_of_step limits (AtInnerHeader parts head payload) next taken front (no_part is to) proper =
    inl (front_of_size (pos 0) taken front is proper)
front_of_step limits (AtInnerHeader parts head payload) next taken front (a_part is) proper =
    front_of_header is.header taken front is.inner_head is.reads is.spelled proper
front_of_step limits (AtInnerChunk parts head payload inner) next taken front (inner_chunk c is to) proper =
    front_of_chunk limits inner taken front c is proper
front_of_step limits (AtInnerChunk parts head payload inner) next taken front (inner_end is to) proper =
    inl (front_of_size (pos 0) taken front is proper)

-- ---- in what decides

front_of_refused_size : (most : ℕ) (rest front : List ℕ) (fault : StreamFault) → RefusesSize most rest fault
    → IsProperFront front rest → length front < 4
front_of_refused_size most rest front fault (negative (size, small, is) same) proper =
    front_of_size (negsuc size) rest front is proper
front_of_refused_size most rest front fault (oversize (size, large, small, is) same) proper =
    front_of_size (pos size) rest front is proper

front_of_chunk_fault : (wrong : ChunkFault) (limit : ℕ) (whole rest front : List ℕ)
    → IsChunkFault wrong limit whole rest → IsProperFront front rest → length front < 4
front_of_chunk_fault chunk_fault.BadSize limit whole rest front is proper =
    front_of_size (negsuc (is.size + 1)) rest front is.spelled proper
front_of_chunk_fault chunk_fault.TooLarge limit whole rest front is proper =
    front_of_size (pos is.size) rest front is.spelled proper
front_of_chunk_fault chunk_fault.NoMemory limit whole rest front is proper = absurd is

front_of_refused_chunk : (limit : ℕ) (whole rest front : List ℕ) (fault : StreamFault)
    → RefusesChunk limit whole rest fault → IsProperFront front rest → length front < 4
front_of_refused_chunk limit whole rest front fault refuses proper =
    front_of_chunk_fault refuses.wrong limit whole rest front refuses.refused proper

front_of_refused_header : (most : ℕ) (rest front : List ℕ) (fault : StreamFault)
    → RefusesHeader most rest fault → IsProperFront front rest → IsPartialBlock most front
front_of_refused_header most rest front fault refuses proper =
    front_of_block most refuses.block rest front refuses.is.1 refuses.is.2 refuses.spelled proper

front_of_refused_inner : (A : Type 0) (rest front : List ℕ) (verdict : Verdict) → RefusesInner A rest verdict
    → IsProperFront front rest → IsPartialBlock max_header front
front_of_refused_inner A rest front verdict refuses proper =
    front_of_header refuses.header rest front refuses.inner_head refuses.reads refuses.spelled proper

front_of_failed_inner : (A : Type 0) (rest front : List ℕ) (fault : StreamFault) → FailsInner A rest fault
    → IsProperFront front rest → IsPartialBlock max_header front
front_of_failed_inner A rest front fault (bad_size refuses) proper =
    inl (front_of_refused_size max_header rest front fault refuses proper)
front_of_failed_inner A rest front fault (bad_header refuses) proper =
    front_of_refused_header max_header rest front fault refuses proper
front_of_failed_inner A rest front fault (aborts_push refuses same) proper =
    front_of_refused_inner A rest front _ refuses proper
front_of_failed_inner A rest front fault (unsupported refuses same) proper =
    front_of_refused_inner A rest front _ refuses proper

front_of_end : {A : Type 0} (decision : Decision) (limits : Limits) (p : Place A) (rest front : List ℕ)
    → DecidesAt decision limits p rest → IsProperFront front rest → IsPartialAt limits p front
front_of_end (Faulty fault) limits AtParams rest front (inl refuses) proper =
    inl (front_of_refused_size limits.params rest front fault refuses proper)
front_of_end (Faulty fault) limits AtParams rest front (inr refuses) proper =
    front_of_block limits.params refuses.block rest front refuses.is.1 refuses.is.2 refuses.spelled proper
front_of_end (Faulty fault) limits (AtHeader parts) rest front (inl refuses) proper =
    inl (front_of_refused_size (header_room limits parts) rest front fault refuses proper)
front_of_end (Faulty fault) limits (AtHeader parts) rest front (inr refuses) proper =
    front_of_refused_header (header_room limits parts) rest front fault refuses proper
front_of_end (Faulty fault) limits (AtChunk parts head payload) rest front refuses proper =
    inl (front_of_refused_chunk limits.payload payload rest front fault refuses proper)
front_of_end {A} (Faulty fault) limits (AtInnerHeader parts head payload) rest front fails proper =
    front_of_failed_inner A rest front fault fails proper
front_of_end (Faulty fault) limits (AtInnerChunk parts head payload inner) rest front (inl refuses) proper =
    inl (front_of_refused_chunk limits.payload inner rest front fault refuses proper)
front_of_end (Faulty fault) limits (AtInnerChunk parts head payload inner) rest front (inr is) proper =
    inl (front_of_size (negsuc 0) rest front is.0 proper)
front_of_end Closed limits AtParams rest front decides proper = absurd decides
front_of_end Closed limits (AtHeader parts) rest front decides proper =
    inl (front_of_size (pos 0) rest front decides proper)
front_of_end Closed limits (AtChunk parts head payload) rest front decides proper = absurd decides
front_of_end Closed limits (AtInnerHeader parts head payload) rest front decides proper = absurd decides
front_of_end Closed limits (AtInnerChunk parts head payload inner) rest front decides proper = absurd decides

-- ---- the place of some bytes by the grammar

-- the bytes stand there by the grammar
abbrev pub Stands : {A : Type 0} → Limits → Place A → List ℕ → Type 0
Stands limits AtParams bytes = bytes ≡ magic
Stands limits (AtHeader parts) bytes = HasParts limits bytes parts
Stands limits (AtChunk parts head payload) bytes = IsInPayload limits bytes parts head payload
Stands limits (AtInnerHeader parts head payload) bytes = IsInterrupted limits bytes parts head payload
Stands limits (AtInnerChunk parts head payload inner) bytes = IsInInner limits bytes parts head payload inner

-- the same place and bytes, spelled in another way
respelled : {A : Type 0} (limits : Limits) (p q : Place A) (bytes a b : List ℕ) → q ≡ p → b ≡ a
    → Stands limits p (bytes ++ a) → Stands limits q (bytes ++ b)
respelled limits p q bytes a b places spelled stands =
    subst (λ x. Stands limits x (bytes ++ b)) (sym places)
    (subst (λ x. Stands limits p (bytes ++ x)) (sym spelled) stands)

opens_payload : {A : Type 0} (limits : Limits) (bytes : List ℕ) (parts : List (Part A)) (taken : List ℕ)
    (next : Place A) → HasParts limits bytes parts → (t : TakesHeader limits parts taken next)
    → IsInPayload limits (bytes ++ (sized t.header ++ [])) parts t.head []
opens_payload limits bytes parts taken next has t = record {
  front = bytes;
  has = has;
  few = t.few;
  header = t.header;
  reads = t.reads;
  pieces = [];
  each = tt;
  payload_is = refl;
  fits = omega arith;
  spelled = refl;
}

opens_inner_payload : {A : Type 0} (limits : Limits) (bytes : List ℕ) (parts : List (Part A)) (head : Head A)
    (payload taken : List ℕ) (next : Place A) → IsInterrupted limits bytes parts head payload
    → (t : TakesInnerHeader parts head payload taken next)
    → IsInInner limits (bytes ++ (sized t.header ++ [])) parts head payload []
opens_inner_payload limits bytes parts head payload taken next is t = record {
  front = bytes;
  interrupted = is;
  header = t.header;
  inner_head = t.inner_head;
  reads = t.reads;
  dropped = t.dropped;
  chunks = [];
  each = tt;
  inner_is = refl;
  fits = omega arith;
  spelled = refl;
}

-- a step leads from a place of the grammar to the next
pub stands_behind : {A : Type 0} (limits : Limits) (p next : Place A) (bytes taken : List ℕ)
    → Stands limits p bytes → Leads limits p taken next → Stands limits next (bytes ++ taken)
stands_behind {A} limits AtParams next bytes taken stands leads =
    let has : HasParts {A = A} limits (bytes ++ sized leads.block) [] = rw stands
    (params_read limits leads.block leads.fits leads.small (leads.params, leads.reads)) in
    respelled limits (AtHeader []) next bytes (sized leads.block) taken leads.leads leads.spelled has
stands_behind limits (AtHeader parts) next bytes taken stands leads =
    respelled limits (AtChunk parts leads.head []) next bytes (sized leads.header ++ []) taken leads.leads
    (leads.spelled ∙ sym (append-nil (sized leads.header)))
    (opens_payload limits bytes parts taken next stands leads)
stands_behind limits (AtChunk parts head payload) next bytes taken stands (next_chunk c is to) =
    let fits : length (payload ++ (c ++ [])) ≤ limits.payload = rw append-nil is.fits in
    let same : payload ++ c ≡ payload ++ (c ++ []) = ap (λ (x : List ℕ). payload ++ x) (sym (append-nil c)) in
    respelled limits (AtChunk parts head (payload ++ (c ++ []))) next bytes (sized c ++ []) taken (to
    ∙ ap (λ (x : List ℕ). AtChunk parts head x) same) (is.spelled ∙ sym (append-nil (sized c)))
    (more_chunks limits parts head bytes payload (c ∷ []) stands (is.is, tt) fits)
stands_behind limits (AtChunk parts head payload) next bytes taken stands (pause is to) =
    respelled limits (AtInnerHeader parts head payload) next bytes interruption taken to is
    (record { front = bytes; inside = stands; spelled = refl })
stands_behind limits (AtChunk parts head payload) next bytes taken stands (payload_end is to) =
    respelled limits _ next bytes closing taken to is (closes_part limits bytes parts head payload stands)
stands_behind limits (AtInnerHeader parts head payload) next bytes taken stands (no_part is to) =
    respelled limits (AtChunk parts head payload) next bytes closing taken to is
    (ends_pause limits bytes parts head payload stands)
stands_behind limits (AtInnerHeader parts head payload) next bytes taken stands (a_part is) =
    respelled limits (AtInnerChunk parts head payload []) next bytes (sized is.header ++ []) taken is.leads
    (is.spelled ∙ sym (append-nil (sized is.header)))
    (opens_inner_payload limits bytes parts head payload taken next stands is)
stands_behind limits (AtInnerChunk parts head payload inner) next bytes taken stands (inner_chunk c is to) =
    let fits : length (inner ++ (c ++ [])) ≤ limits.payload = rw append-nil is.fits in
    let same : inner ++ c ≡ inner ++ (c ++ []) = ap (λ (x : List ℕ). inner ++ x) (sym (append-nil c)) in
    respelled limits (AtInnerChunk parts head payload (inner ++ (c ++ []))) next bytes (sized c ++ []) taken
    (to ∙ ap (λ (x : List ℕ). AtInnerChunk parts head payload x) same)
    (is.spelled ∙ sym (append-nil (sized c)))
    (more_inner limits parts head payload bytes inner (c ∷ []) stands (is.is, tt) fits)
stands_behind limits (AtInnerChunk parts head payload inner) next bytes taken stands (inner_end is to) =
    respelled limits (AtChunk parts head payload) next bytes closing taken to is
    (ends_inner limits bytes parts head payload inner stands)

-- what may still become a block or chunk there is still read
pub still_read : {A : Type 0} (limits : Limits) (p : Place A) (bytes rest : List ℕ) → Stands limits p bytes
    → IsPartialAt limits p rest → IsReading limits (bytes ++ rest) (parts_at p)
still_read limits AtParams bytes rest stands partial =
    at_block bytes rest limits.params (params stands refl refl) partial refl
still_read limits (AtHeader parts) bytes rest stands partial =
    at_block bytes rest (header_room limits parts) (header (of_part stands refl)) partial refl
still_read limits (AtChunk parts head payload) bytes rest stands partial =
    at_chunk bytes rest payload (of_part head stands) partial refl
still_read limits (AtInnerHeader parts head payload) bytes rest stands partial =
    at_block bytes rest max_header (header (of_interrupting head payload stands refl)) partial refl
still_read limits (AtInnerChunk parts head payload inner) bytes rest stands partial =
    at_chunk bytes rest inner (of_interrupting head payload stands) partial refl

-- ---- along a run

-- some parts, with which the bytes are still read
abbrev pub IsStillRead : Type 0 → Limits → List ℕ → Type 0
IsStillRead A limits bytes = (before : List (Part A)) × IsReading limits bytes before

-- in a step, or after it
front_of_more : {A : Type 0} (limits : Limits) (p next : Place A) (bytes taken more front behind : List ℕ)
    → Stands limits p bytes → Leads limits p taken next → taken ++ more ≡ front ++ behind
    → ((later : List ℕ) → more ≡ later ++ behind → IsStillRead A limits ((bytes ++ taken) ++ later))
    → IsStillRead A limits (bytes ++ front)
front_of_more {A} limits p next bytes taken more front behind stands leads same further =
    by_length (cases_lt (length front) (length taken))
  where
    by_length : (length front < length taken) ⊎ (length taken ≤ length front)
        → IsStillRead A limits (bytes ++ front)
    by_length (inl short) =
        let cut = longer front behind taken more (sym same) (omega (arith, short)) in (
          parts_at p,
          still_read limits p bytes front stands
              (front_of_step limits p next taken front leads (cut.0, cut.1, short)),
        )
    by_length (inr long) =
        let cut = longer taken more front behind same long in
        let read = further cut.0 cut.2 in (
          read.0,
          subst (λ x. IsReading limits x read.0) (append_assoc bytes taken cut.0
              ∙ ap (λ (x : List ℕ). bytes ++ x) (sym cut.1)) read.1,
        )

-- The end of a run that is not after is partial there.
abbrev IsCutPartial : {A : Type 0} → Limits → Place A → List ℕ → List ℕ → Type 0
IsCutPartial limits place rest behind = (cut : List ℕ) → rest ≡ cut ++ behind → IsPartialAt limits place cut

front_of_run : {A : Type 0} (limits : Limits) (p : Place A) (steps : List (Step A)) (place : Place A)
    (bytes rest front behind : List ℕ) → Stands limits p bytes → IsRun limits p steps place
    → IsCutPartial limits place rest behind → run_bytes steps ++ rest ≡ front ++ behind
    → IsStillRead A limits (bytes ++ front)
front_of_run limits p [] place bytes rest front behind stands run partial same = (
  parts_at p,
  still_read limits p bytes front stands
      (subst (λ x. IsPartialAt limits x front) (sym run) (partial front same)),
)
front_of_run limits p (step ∷ steps) place bytes rest front behind stands run partial same =
    let next = stands_behind limits p step.place bytes step.taken stands run.0 in
    front_of_more limits p step.place bytes step.taken (run_bytes steps ++ rest) front behind stands run.0
    (sym (append_assoc step.taken (run_bytes steps) rest) ∙ same)
    (λ later more. front_of_run limits step.place steps place (bytes
    ++ step.taken) rest later behind next run.1 partial more)

-- ---- whole streams

front_of_stream : {A : Type 0} (limits : Limits) (steps : List (Step A)) (place : Place A)
    (rest front behind : List ℕ) → IsRun limits AtParams steps place → IsCutPartial limits place rest behind
    → front ++ behind ≡ magic ++ (run_bytes steps ++ rest) → IsStillRead A limits front
front_of_stream {A} limits steps place rest front behind run partial spelled =
    by_length (cases_lt (length front) 4)
  where
    by_length : (length front < 4) ⊎ (4 ≤ length front) → IsStillRead A limits front
    by_length (inl short) = ([], at_magic short refl)
    by_length (inr long) =
        let cut = longer magic (run_bytes steps ++ rest) front behind (sym spelled) long in
        let read = front_of_run limits AtParams steps place magic rest cut.0 behind refl run partial cut.2 in
        (read.0, subst (λ x. IsReading limits x read.0) (sym cut.1) read.1)

front_of_settled : {A : Type 0} (decision : Decision) (limits : Limits) (front behind : List ℕ)
    (parts : List (Part A)) → 0 < length behind → Settles decision limits (front ++ behind) parts
    → IsStillRead A limits front
front_of_settled decision limits front behind parts some s =
    front_of_stream limits s.steps s.place s.rest front behind s.run partial s.spelled
  where
    partial : IsCutPartial limits s.place s.rest behind
    partial cut same =
        let len : length s.rest ≡ length (cut ++ behind) = ap length same in
        front_of_end decision limits s.place s.rest cut s.decides
        (behind, same, omega (arith, len, some, length-append cut behind))

-- every front of bytes that are still read is still read
pub front_of_reading : {A : Type 0} (limits : Limits) (front behind : List ℕ) (parts : List (Part A))
    → IsReading limits (front ++ behind) parts → IsStillRead A limits front
front_of_reading {A} limits front behind parts reading =
    by_case (reading_runs limits (front ++ behind) parts reading)
  where
    by_case : ((length (front ++ behind) < 4) × (parts ≡ [])) ⊎ ReadsOn limits (front ++ behind) parts
        → IsStillRead A limits front
    by_case (inl short) = ([], at_magic (omega (arith, short.0, length-append front behind)) refl)
    by_case (inr reads) =
        front_of_stream limits reads.steps reads.place reads.rest front behind reads.run
        (λ cut same. front_of_partial limits reads.place reads.rest cut behind reads.partial same)
        reads.spelled

-- every proper front of a stream that is settled is still read
pub front_is_read : {A : Type 0} (limits : Limits) (front : List ℕ) (byte : ℕ) (behind : List ℕ)
    (parts : List (Part A)) (v : Option StreamFault) → IsSettled v limits (front ++ byte ∷ behind) parts
    → (before : List (Part A)) × IsReading limits front before
front_is_read {A} limits front byte behind parts None settled =
    front_of_settled Closed limits front (byte ∷ behind) parts (omega arith)
    (whole_settles limits (front ++ byte ∷ behind) parts settled)
front_is_read {A} limits front byte behind parts (Some fault) settled =
    by_case (fault_settles fault limits (front ++ byte ∷ behind) parts settled)
  where
    by_case : ((fault ≡ BadMagic) × (length (front ++ byte ∷ behind) ≡ 4) × (front ++ byte ∷ behind ≢ magic)
        × (parts ≡ [])) ⊎ Settles (Faulty fault) limits (front ++ byte ∷ behind) parts
        → IsStillRead A limits front
    by_case (inl bad) = ([], at_magic (omega (arith, bad.1, length-append front (byte ∷ behind))) refl)
    by_case (inr s) = front_of_settled (Faulty fault) limits front (byte ∷ behind) parts (omega arith) s
