-- A step takes a front that leads on, what decides is a front that ends, and what is partial is no front.
use Rattle.std.proofs.Common.{◌≡◌, ℕ, suc, ◌+◌, ◌<◌, ◌≤◌, List, [], ◌∷◌, ◌++◌, length, Result, Ok, Err, inl}
use Rattle.std.proofs.Common.{inr, refl, sym, ap, ◌∙◌, arith, add-one, subst}
use Rattle.std.proofs.lemmas.List.{length-append}
use Rattle.std.specs.Prelude.{ℤ, pos, negsuc}
use Rattle.std.proofs.lemmas.Bool.Decides.{nat_tests}
use Rattle.hg_types.specs.declared.limits.Limits.{Limits}
use Rattle.hg_types.specs.declared.part.Part.{Part}
use Rattle.hg_chunks.specs.declared.fault.ChunkFault.{ChunkFault}
use Rattle.hg_chunks.specs.declared.fault.ChunkFault.TheVariants as chunk_fault
use Rattle.hg_chunks.specs.Size.{size_bytes}
use Rattle.hg_chunks.specs.Payload.{IsOpen, closing}
use Rattle.hg_params.specs.declared.head.Head.{Head}
use Rattle.hg_params.specs.declared.fault.ParamFault.{ParamFault}
use Rattle.hg_stream.specs.declared.fault.StreamFault.{StreamFault}
use Rattle.hg_stream.specs.declared.fault.StreamFault.TheVariants.{NegativeSize, Params, Header, Chunk}
use Rattle.hg_stream.specs.declared.fault.StreamFault.TheVariants.{NestedInterrupt, ClientAbort, Unsupported}
use Rattle.hg_stream.specs.declared.fault.StreamFault.TheVariants.{TooLarge}
use Rattle.hg_stream.specs.declared.interrupting.Verdict.{Verdict}
use Rattle.hg_stream.specs.declared.interrupting.Verdict.TheVariants.{Aborts, Refused}
use Rattle.hg_stream.specs.Block.{IsPartialBlock}
use Rattle.hg_stream.specs.Frames.{max_header}
use Rattle.hg_stream.specs.Places.{header_room}
use Rattle.hg_stream.specs.Faults.{IsChunkFault}
use Rattle.hg_stream.proofs.Runs.{Place, AtParams, AtHeader, AtChunk, AtInnerHeader, AtInnerChunk, Leads}
use Rattle.hg_stream.proofs.Runs.{TakesParams, TakesHeader, TakesChunk, next_chunk, pause, payload_end}
use Rattle.hg_stream.proofs.Runs.{TakesInner, no_part, a_part, TakesInnerChunk, inner_chunk, inner_end}
use Rattle.hg_stream.proofs.Runs.{IsPartialAt, Decision, Closed, Faulty, RefusesSize, negative, oversize}
use Rattle.hg_stream.proofs.Runs.{RefusesHeader, RefusesParams, RefusesChunk, FailsInner, bad_size}
use Rattle.hg_stream.proofs.Runs.{bad_header, aborts_push, unsupported, RefusesInner, DecidesAt}
use Rattle.hg_stream.proofs.Fronts.{Block, Alone, IsFront, Refuses, IsNoFront}
use Rattle.hg_stream.proofs.Meanings.{Outcome, Goes, Ends, SaysHead, after_header, after_inner, after_verdict}
use Rattle.hg_stream.proofs.Meanings.{alone_means, BlockMeans, Means, IsRead}

-- ---- blocks that are not empty

some_header : {A : Type 0} (parts : List (Part A)) (block : List ℕ) (says : Result (Head A) ParamFault)
    (m : Outcome A) → 0 < length block → SaysHead A block says → m ≡ after_header parts says
    → BlockMeans (AtHeader parts) block m
some_header parts [] says m some is means = absurd (omega (arith, some))
some_header parts (byte ∷ bytes) says m some is means = (says, is, means)

some_inner : {A : Type 0} (parts : List (Part A)) (head : Head A) (payload block : List ℕ)
    (says : Result (Head A) ParamFault) (m : Outcome A) → 0 < length block → SaysHead A block says
    → m ≡ after_inner parts head payload says → BlockMeans (AtInnerHeader parts head payload) block m
some_inner parts head payload [] says m some is means = absurd (omega (arith, some))
some_inner parts head payload (byte ∷ bytes) says m some is means = (says, is, means)

some_chunk : {A : Type 0} (parts : List (Part A)) (head : Head A) (payload chunk : List ℕ) (m : Outcome A)
    → 0 < length chunk → m ≡ Goes (AtChunk parts head (payload ++ chunk))
    → BlockMeans (AtChunk parts head payload) chunk m
some_chunk parts head payload [] m some means = absurd (omega (arith, some))
some_chunk parts head payload (byte ∷ bytes) m some means = means

some_inner_chunk : {A : Type 0} (parts : List (Part A)) (head : Head A) (payload inner chunk : List ℕ)
    (m : Outcome A) → 0 < length chunk → m ≡ Goes (AtInnerChunk parts head payload (inner ++ chunk))
    → BlockMeans (AtInnerChunk parts head payload inner) chunk m
some_inner_chunk parts head payload inner [] m some means = absurd (omega (arith, some))
some_inner_chunk parts head payload inner (byte ∷ bytes) m some means = means

-- ---- fronts at their places

-- where a header may come it may have any size of one
room_is : {A : Type 0} (limits : Limits) (parts : List (Part A)) (size : ℕ) → length parts < limits.parts
    → size ≤ max_header → header_room limits parts < size → ⊥
room_is limits parts size few fits passes = grind (arith, nat_tests)

none_refused : {A : Type 0} (limits : Limits) (p : Place A) → Refuses limits p 0 → ⊥
none_refused limits AtParams passes = omega (arith, passes)
none_refused limits (AtHeader parts) passes = omega (arith, passes)
none_refused limits (AtChunk parts head payload) passes = omega (arith, passes)
none_refused limits (AtInnerHeader parts head payload) passes = omega (arith, passes)
none_refused limits (AtInnerChunk parts head payload inner) passes = omega (arith, passes)

-- an empty block stands at every place
empty_read : {A : Type 0} (limits : Limits) (p : Place A) (taken : List ℕ) (m : Outcome A) → taken ≡ closing
    → BlockMeans p [] m → IsRead limits p taken m
empty_read limits p taken m is means =
    record { front = Block []; is = (omega arith, none_refused limits p); means = means; spelled = is }

alone_read : {A : Type 0} (limits : Limits) (p : Place A) (size : ℤ) (taken : List ℕ) (m : Outcome A)
    → IsFront limits p (Alone size) → taken ≡ size_bytes size → m ≡ alone_means p size
    → IsRead limits p taken m
alone_read limits p size taken m is same means =
    record { front = Alone size; is = is; means = means; spelled = same }

chunk_fits : (limit : ℕ) (whole chunk : List ℕ) → length (whole ++ chunk) ≤ limit
    → limit < length whole + length chunk → ⊥
chunk_fits limit whole chunk fits passes = omega (arith, length-append whole chunk, fits, passes)

-- ---- steps

params_step : {A : Type 0} (limits : Limits) (taken : List ℕ) (next : Place A) → TakesParams limits taken next
    → IsRead limits AtParams taken (Goes next)
params_step limits taken next t =
    record {
      front = Block t.block;
      is = (t.small, λ passes. omega (arith, t.fits, passes));
      means = (Ok t.params, t.reads, ap Goes t.leads);
      spelled = t.spelled;
    }

header_step : {A : Type 0} (limits : Limits) (parts : List (Part A)) (taken : List ℕ) (next : Place A)
    → TakesHeader limits parts taken next → IsRead limits (AtHeader parts) taken (Goes next)
header_step limits parts taken next t = record {
  front = Block t.header;
  is = (
    omega (arith, t.reads.small),
    λ passes. room_is limits parts (length t.header) t.few t.reads.small passes,
  );
  means = some_header parts t.header (Ok t.head) (Goes next) t.reads.some t.reads.reads (ap Goes t.leads);
  spelled = t.spelled;
}

chunk_step : {A : Type 0} (limits : Limits) (parts : List (Part A)) (head : Head A) (payload taken : List ℕ)
    (next : Place A) → TakesChunk limits parts head payload taken next
    → IsRead limits (AtChunk parts head payload) taken (Goes next)
chunk_step limits parts head payload taken next (next_chunk c t leads) = record {
  front = Block c;
  is = (t.is.1, λ passes. chunk_fits limits.payload payload c t.fits passes.1);
  means = some_chunk parts head payload c (Goes next) t.is.0 (ap Goes leads);
  spelled = t.spelled;
}
chunk_step limits parts head payload taken next (pause same leads) =
    alone_read limits (AtChunk parts head payload) (negsuc 0) taken (Goes next) (omega arith) same
    (ap Goes leads)
chunk_step limits parts head payload taken next (payload_end same leads) =
    empty_read limits (AtChunk parts head payload) taken (Goes next) same (ap Goes leads)

inner_step : {A : Type 0} (limits : Limits) (parts : List (Part A)) (head : Head A) (payload taken : List ℕ)
    (next : Place A) → TakesInner parts head payload taken next
    → IsRead limits (AtInnerHeader parts head payload) taken (Goes next)
inner_step limits parts head payload taken next (no_part same leads) =
    empty_read limits (AtInnerHeader parts head payload) taken (Goes next) same (ap Goes leads)
inner_step limits parts head payload taken next (a_part t) = record {
  front = Block t.header;
  is = (omega (arith, t.reads.small), λ passes. omega (arith, t.reads.small, passes));
  means = some_inner parts head payload t.header (Ok t.inner_head) (Goes next) t.reads.some t.reads.reads
      (ap Goes t.leads ∙ ap (after_verdict parts head payload) (sym t.dropped));
  spelled = t.spelled;
}

inner_chunk_step : {A : Type 0} (limits : Limits) (parts : List (Part A)) (head : Head A)
    (payload inner taken : List ℕ) (next : Place A)
    → TakesInnerChunk limits parts head payload inner taken next
    → IsRead limits (AtInnerChunk parts head payload inner) taken (Goes next)
inner_chunk_step limits parts head payload inner taken next (inner_chunk c t leads) = record {
  front = Block c;
  is = (t.is.1, λ passes. chunk_fits limits.payload inner c t.fits passes.1);
  means = some_inner_chunk parts head payload inner c (Goes next) t.is.0 (ap Goes leads);
  spelled = t.spelled;
}
inner_chunk_step limits parts head payload inner taken next (inner_end same leads) =
    empty_read limits (AtInnerChunk parts head payload inner) taken (Goes next) same (ap Goes leads)

pub step_read : {A : Type 0} (limits : Limits) (p : Place A) (taken : List ℕ) (next : Place A)
    → Leads limits p taken next → IsRead limits p taken (Goes next)
step_read limits AtParams taken next t = params_step limits taken next t
step_read limits (AtHeader parts) taken next t = header_step limits parts taken next t
step_read limits (AtChunk parts head payload) taken next t = chunk_step limits parts head payload taken next t
step_read limits (AtInnerHeader parts head payload) taken next t =
    inner_step limits parts head payload taken next t
step_read limits (AtInnerChunk parts head payload inner) taken next t =
    inner_chunk_step limits parts head payload inner taken next t

-- ---- ends

ends : {A : Type 0} (fault told : StreamFault) → fault ≡ told
    → (let m : Outcome A = Ends (Faulty fault) in m) ≡ Ends (Faulty told)
ends fault told same = ap (λ (f : StreamFault). Ends (Faulty f)) same

params_size : {A : Type 0} (limits : Limits) (rest : List ℕ) (fault : StreamFault)
    → RefusesSize limits.params rest fault → IsRead {A = A} limits AtParams rest (Ends (Faulty fault))
params_size limits rest fault (negative h is) =
    alone_read limits AtParams (negsuc h.0) rest (Ends (Faulty fault)) h.1 h.2 (ends fault NegativeSize is)
params_size limits rest fault (oversize h is) =
    alone_read limits AtParams (pos h.0) rest (Ends (Faulty fault)) (h.2, h.1) h.3 (ends fault TooLarge is)

params_end : {A : Type 0} (limits : Limits) (rest : List ℕ) (fault : StreamFault)
    → RefusesParams limits.params rest fault → IsRead {A = A} limits AtParams rest (Ends (Faulty fault))
params_end limits rest fault t = record {
  front = Block t.block;
  is = (t.is.2, λ passes. omega (arith, t.is.1, passes));
  means = (Err t.wrong, t.refused, ends fault (Params t.wrong) t.fault_is);
  spelled = t.spelled;
}

header_size : {A : Type 0} (limits : Limits) (parts : List (Part A)) (rest : List ℕ) (fault : StreamFault)
    → RefusesSize (header_room limits parts) rest fault
    → IsRead limits (AtHeader parts) rest (Ends (Faulty fault))
header_size limits parts rest fault (negative h is) =
    alone_read limits (AtHeader parts) (negsuc h.0) rest (Ends (Faulty fault)) h.1 h.2
    (ends fault NegativeSize is)
header_size limits parts rest fault (oversize h is) =
    alone_read limits (AtHeader parts) (pos h.0) rest (Ends (Faulty fault)) (h.2, h.1) h.3
    (ends fault TooLarge is)

header_end : {A : Type 0} (limits : Limits) (parts : List (Part A)) (rest : List ℕ) (fault : StreamFault)
    → RefusesHeader (header_room limits parts) rest fault
    → IsRead limits (AtHeader parts) rest (Ends (Faulty fault))
header_end limits parts rest fault t = record {
  front = Block t.block;
  is = (t.is.2, λ passes. omega (arith, t.is.1, passes));
  means = some_header parts t.block (Err t.wrong) (Ends (Faulty fault)) t.is.0 t.refused
      (ends fault (Header t.wrong) t.fault_is);
  spelled = t.spelled;
}

inner_size : {A : Type 0} (limits : Limits) (parts : List (Part A)) (head : Head A) (payload rest : List ℕ)
    (fault : StreamFault) → RefusesSize max_header rest fault
    → IsRead limits (AtInnerHeader parts head payload) rest (Ends (Faulty fault))
inner_size limits parts head payload rest fault (negative h is) =
    alone_read limits (AtInnerHeader parts head payload) (negsuc h.0) rest (Ends (Faulty fault)) h.1 h.2
    (ends fault NegativeSize is)
inner_size limits parts head payload rest fault (oversize h is) =
    alone_read limits (AtInnerHeader parts head payload) (pos h.0) rest (Ends (Faulty fault)) (h.2, h.1) h.3
    (ends fault TooLarge is)

verdict_end : {A : Type 0} (limits : Limits) (parts : List (Part A)) (head : Head A) (payload rest : List ℕ)
    (verdict : Verdict) (m : Outcome A) → RefusesInner A rest verdict
    → m ≡ after_verdict parts head payload verdict → IsRead limits (AtInnerHeader parts head payload) rest m
verdict_end limits parts head payload rest verdict m t means = record {
  front = Block t.header;
  is = (omega (arith, t.reads.small), λ passes. omega (arith, t.reads.small, passes));
  means = some_inner parts head payload t.header (Ok t.inner_head) m t.reads.some t.reads.reads (means
      ∙ ap (after_verdict parts head payload) (sym t.decided));
  spelled = t.spelled;
}

inner_fails : {A : Type 0} (limits : Limits) (parts : List (Part A)) (head : Head A) (payload rest : List ℕ)
    (fault : StreamFault) → FailsInner A rest fault
    → IsRead limits (AtInnerHeader parts head payload) rest (Ends (Faulty fault))
inner_fails limits parts head payload rest fault (bad_size t) =
    inner_size limits parts head payload rest fault t
inner_fails limits parts head payload rest fault (bad_header t) = record {
  front = Block t.block;
  is = (t.is.2, λ passes. omega (arith, t.is.1, passes));
  means = some_inner parts head payload t.block (Err t.wrong) (Ends (Faulty fault)) t.is.0 t.refused
      (ends fault (Header t.wrong) t.fault_is);
  spelled = t.spelled;
}
inner_fails limits parts head payload rest fault (aborts_push t is) =
    verdict_end limits parts head payload rest Aborts (Ends (Faulty fault)) t (ends fault ClientAbort is)
inner_fails limits parts head payload rest fault (unsupported t is) =
    verdict_end limits parts head payload rest Refused (Ends (Faulty fault)) t (ends fault Unsupported is)

-- a negative size that is not -1
next_negative : (rest : List ℕ) (n : ℕ) → rest ≡ size_bytes (negsuc (n + 1))
    → rest ≡ size_bytes (negsuc (suc n))
next_negative rest n same = same ∙ ap (λ (k : ℕ). size_bytes (negsuc k)) (add-one n)

chunk_refused : {A : Type 0} (limits : Limits) (parts : List (Part A)) (head : Head A) (payload rest : List ℕ)
    (wrong : ChunkFault) → IsChunkFault wrong limits.payload payload rest
    → IsRead limits (AtChunk parts head payload) rest (Ends (Faulty (Chunk wrong)))
chunk_refused limits parts head payload rest chunk_fault.BadSize h =
    alone_read limits (AtChunk parts head payload) (negsuc (suc h.size)) rest
    (Ends (Faulty (Chunk chunk_fault.BadSize))) (omega (arith, h.small))
    (next_negative rest h.size h.spelled) refl
chunk_refused limits parts head payload rest chunk_fault.TooLarge h =
    alone_read limits (AtChunk parts head payload) (pos h.size) rest
    (Ends (Faulty (Chunk chunk_fault.TooLarge))) (h.small, (h.positive, h.passes)) h.spelled refl
chunk_refused limits parts head payload rest chunk_fault.NoMemory h = absurd h

inner_chunk_refused : {A : Type 0} (limits : Limits) (parts : List (Part A)) (head : Head A)
    (payload inner rest : List ℕ) (wrong : ChunkFault) → IsChunkFault wrong limits.payload inner rest
    → IsRead limits (AtInnerChunk parts head payload inner) rest (Ends (Faulty (Chunk wrong)))
inner_chunk_refused limits parts head payload inner rest chunk_fault.BadSize h =
    alone_read limits (AtInnerChunk parts head payload inner) (negsuc (suc h.size)) rest
    (Ends (Faulty (Chunk chunk_fault.BadSize))) (omega (arith, h.small))
    (next_negative rest h.size h.spelled) refl
inner_chunk_refused limits parts head payload inner rest chunk_fault.TooLarge h =
    alone_read limits (AtInnerChunk parts head payload inner) (pos h.size) rest
    (Ends (Faulty (Chunk chunk_fault.TooLarge))) (h.small, (h.positive, h.passes)) h.spelled refl
inner_chunk_refused limits parts head payload inner rest chunk_fault.NoMemory h = absurd h

told : {A : Type 0} (limits : Limits) (p : Place A) (rest : List ℕ) (fault wrong : StreamFault)
    → fault ≡ wrong → IsRead limits p rest (Ends (Faulty wrong)) → IsRead limits p rest (Ends (Faulty fault))
told limits p rest fault wrong is t =
    record {
      front = t.front;
      is = t.is;
      means = subst (λ (m : Outcome _). Means p t.front m) (sym (ends fault wrong is)) t.means;
      spelled = t.spelled;
    }

chunk_end : {A : Type 0} (limits : Limits) (parts : List (Part A)) (head : Head A) (payload rest : List ℕ)
    (fault : StreamFault) → RefusesChunk limits.payload payload rest fault
    → IsRead limits (AtChunk parts head payload) rest (Ends (Faulty fault))
chunk_end limits parts head payload rest fault t =
    told limits (AtChunk parts head payload) rest fault (Chunk t.wrong) t.fault_is
    (chunk_refused limits parts head payload rest t.wrong t.refused)

inner_chunk_end : {A : Type 0} (limits : Limits) (parts : List (Part A)) (head : Head A)
    (payload inner rest : List ℕ) (fault : StreamFault) → RefusesChunk limits.payload inner rest fault
    → IsRead limits (AtInnerChunk parts head payload inner) rest (Ends (Faulty fault))
inner_chunk_end limits parts head payload inner rest fault t =
    told limits (AtInnerChunk parts head payload inner) rest fault (Chunk t.wrong) t.fault_is
    (inner_chunk_refused limits parts head payload inner rest t.wrong t.refused)

pub end_read : {A : Type 0} (d : Decision) (limits : Limits) (p : Place A) (rest : List ℕ)
    → DecidesAt d limits p rest → IsRead limits p rest (Ends d)
end_read (Faulty fault) limits AtParams rest (inl t) = params_size limits rest fault t
end_read (Faulty fault) limits AtParams rest (inr t) = params_end limits rest fault t
end_read (Faulty fault) limits (AtHeader parts) rest (inl t) = header_size limits parts rest fault t
end_read (Faulty fault) limits (AtHeader parts) rest (inr t) = header_end limits parts rest fault t
end_read (Faulty fault) limits (AtChunk parts head payload) rest t =
    chunk_end limits parts head payload rest fault t
end_read (Faulty fault) limits (AtInnerHeader parts head payload) rest t =
    inner_fails limits parts head payload rest fault t
end_read (Faulty fault) limits (AtInnerChunk parts head payload inner) rest (inl t) =
    inner_chunk_end limits parts head payload inner rest fault t
end_read (Faulty fault) limits (AtInnerChunk parts head payload inner) rest (inr t) =
    alone_read limits (AtInnerChunk parts head payload inner) (negsuc 0) rest (Ends (Faulty fault))
    (omega arith) t.0 (ends fault NestedInterrupt t.1)
end_read Closed limits AtParams rest t = absurd t
end_read Closed limits (AtHeader parts) rest t = empty_read limits (AtHeader parts) rest (Ends Closed) t refl
end_read Closed limits (AtChunk parts head payload) rest t = absurd t
end_read Closed limits (AtInnerHeader parts head payload) rest t = absurd t
end_read Closed limits (AtInnerChunk parts head payload inner) rest t = absurd t

-- ---- what is partial

short_block : {A : Type 0} (limits : Limits) (p : Place A) (most : ℕ) (rest : List ℕ)
    → ((size : ℕ) → size ≤ most → Refuses limits p size → ⊥) → IsPartialBlock most rest
    → IsNoFront limits p rest
short_block limits p most rest allowed (inl short) = inl short
short_block limits p most rest allowed (inr t) =
    inr (record {
      size = t.0;
      part = t.1;
      small = t.2.small;
      allowed = allowed t.0 t.2.allowed;
      less = t.2.less;
      spelled = t.2.spelled;
    })

short_chunk : {A : Type 0} (limits : Limits) (p : Place A) (whole rest : List ℕ)
    → ((size : ℕ) → length whole + size ≤ limits.payload → Refuses limits p size → ⊥)
    → IsOpen limits.payload whole rest
    → IsNoFront limits p rest
short_chunk limits p whole rest allowed (inl short) = inl short
short_chunk limits p whole rest allowed (inr t) =
    inr (record {
      size = t.size;
      part = t.part;
      small = t.small;
      allowed = allowed t.size t.allowed;
      less = t.less;
      spelled = t.spelled;
    })

pub partial_none : {A : Type 0} (limits : Limits) (p : Place A) (rest : List ℕ) → IsPartialAt limits p rest
    → IsNoFront limits p rest
partial_none limits AtParams rest t =
    short_block limits AtParams limits.params rest (λ size within passes. omega (arith, within, passes)) t
partial_none limits (AtHeader parts) rest t =
    short_block limits (AtHeader parts) (header_room limits parts) rest
    (λ size within passes. omega (arith, within, passes)) t
partial_none limits (AtChunk parts head payload) rest t =
    short_chunk limits (AtChunk parts head payload) payload rest
    (λ size within passes. omega (arith, within, passes)) t
partial_none limits (AtInnerHeader parts head payload) rest t =
    short_block limits (AtInnerHeader parts head payload) max_header rest
    (λ size within passes. omega (arith, within, passes)) t
partial_none limits (AtInnerChunk parts head payload inner) rest t =
    short_chunk limits (AtInnerChunk parts head payload inner) inner rest
    (λ size within passes. omega (arith, within, passes)) t
