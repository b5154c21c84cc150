-- Whole frames, pieces and chunks are runs, and each place of the grammar is reached by one.
use Rattle.std.proofs.Common.{◌≡◌, ℕ, ◌<◌, ◌≤◌, ◌^◌, List, [], ◌∷◌, ◌++◌, length, refl, sym, ap, ◌∙◌}
use Rattle.std.proofs.Common.{append_assoc, arith, subst}
use Rattle.std.specs.List.{flat_map, AllByRecursion}
use Rattle.std.proofs.lemmas.Grind.{flat_map-append}
use Rattle.std.proofs.lemmas.List.{append-nil, length-append}
use Rattle.hg_types.specs.declared.limits.Limits.{Limits}
use Rattle.hg_types.specs.declared.part.Part.{Part}
use Rattle.hg_chunks.specs.Payload.{chunk_bytes, IsChunk, interruption, closing}
use Rattle.hg_params.specs.declared.head.Head.{Head}
use Rattle.hg_stream.specs.Block.{sized}
use Rattle.hg_stream.specs.Frames.{magic, Inner, Piece, Chunk, Pause, Break, joined, inner_bytes, piece_bytes}
use Rattle.hg_stream.specs.Frames.{piece_data, IsInner, IsPiece, Frame, frame_bytes, part_of, IsFrame}
use Rattle.hg_stream.specs.Frames.{AreFrames, HasParts}
use Rattle.hg_stream.specs.Places.{IsInPayload, IsInterrupted, IsInInner}
use Rattle.hg_stream.proofs.Runs.{Place, AtParams, AtHeader, AtChunk, AtInnerHeader, AtInnerChunk, next_chunk}
use Rattle.hg_stream.proofs.Runs.{pause, payload_end, no_part, a_part, inner_chunk, inner_end, Leads, Step}
use Rattle.hg_stream.proofs.Runs.{IsRun, run_bytes}

-- ---- runs of given bytes

-- a run with these bytes
pub record RunsTo {A : Type 0} (limits : Limits) (from to : Place A) (bytes : List ℕ) : Type 0 where
  pub steps : List (Step A)
  pub run : IsRun limits from steps to
  pub spelled : bytes ≡ run_bytes steps

pub run_none : {A : Type 0} (limits : Limits) (from : Place A) → RunsTo limits from from []
run_none limits from = record { steps = []; run = refl; spelled = refl }

pub run_one : {A : Type 0} (limits : Limits) (from to : Place A) (taken : List ℕ) → Leads limits from taken to
    → RunsTo limits from to taken
run_one limits from to taken leads =
    record {
      steps = record { taken = taken; place = to }
          ∷ [];
      run = (leads, refl);
      spelled = sym (append-nil taken);
    }

-- runs are joined
pub joined_run : {A : Type 0} (limits : Limits) (p q r : Place A) (a b : List (Step A)) → IsRun limits p a q
    → IsRun limits q b r → IsRun limits p (a ++ b) r
joined_run limits p q r [] b first second = subst (λ x. IsRun limits x b r) (sym first) second
joined_run limits p q r (step ∷ a) b first second =
    (first.0, joined_run limits step.place q r a b first.1 second)

pub run_then : {A : Type 0} (limits : Limits) (p q r : Place A) (a b : List ℕ) → RunsTo limits p q a
    → RunsTo limits q r b → RunsTo limits p r (a ++ b)
run_then limits p q r a b first second = record {
  steps = first.steps ++ second.steps;
  run = joined_run limits p q r first.steps second.steps first.run second.run;
  spelled = ap (λ (x : List ℕ). x ++ b) first.spelled
      ∙ ap (λ (x : List ℕ). run_bytes first.steps ++ x) second.spelled
      ∙ sym (flat_map-append (λ step. step.taken) first.steps second.steps);
}

-- a step, and a run after it
pub step_then : {A : Type 0} (limits : Limits) (p q r : Place A) (taken rest : List ℕ)
    → Leads limits p taken q → RunsTo limits q r rest → RunsTo limits p r (taken ++ rest)
step_then limits p q r taken rest leads behind =
    run_then limits p q r taken rest (run_one limits p q taken leads) behind

-- the place that a run leads to, spelled in another way
pub run_to : {A : Type 0} (limits : Limits) (p q r : Place A) (bytes : List ℕ) → q ≡ r
    → RunsTo limits p q bytes → RunsTo limits p r bytes
run_to limits p q r bytes same run = subst (λ x. RunsTo limits p x bytes) same run

-- ---- chunks of an interrupting part

-- the data up to a chunk is within a limit that holds of all
front_fits : (limit : ℕ) (whole chunk rest : List ℕ) → length (whole ++ (chunk ++ rest)) ≤ limit
    → length (whole ++ chunk) ≤ limit
front_fits limit whole chunk rest fits =
    omega (
      arith,
      fits,
      length-append whole (chunk ++ rest),
      length-append chunk rest,
      length-append whole chunk,
    )

chunks_run : {A : Type 0} (limits : Limits) (parts : List (Part A)) (head : Head A) (payload inner : List ℕ)
    (chunks : List (List ℕ)) → AllByRecursion IsChunk chunks
    → length (inner ++ joined chunks) ≤ limits.payload
    → RunsTo limits (AtInnerChunk parts head payload inner)
    (AtInnerChunk parts head payload (inner ++ joined chunks)) (flat_map chunk_bytes chunks)
chunks_run limits parts head payload inner [] each fits =
    let at : List ℕ → Place _ = λ x. AtInnerChunk parts head payload x in
    run_to limits (at inner) (at inner) (at (inner ++ [])) [] (ap at (sym (append-nil inner)))
    (run_none limits (at inner))
chunks_run limits parts head payload inner (c ∷ more) each fits =
    let at : List ℕ → Place _ = λ x. AtInnerChunk parts head payload x in
    let same : (inner ++ c) ++ joined more ≡ inner
    ++ (c ++ joined more) = append_assoc inner c (joined more) in
    let behind = chunks_run limits parts head payload (inner ++ c) more each.1 (rw same fits) in
    let first : Leads limits (at inner) (chunk_bytes c) (at (inner ++ c)) = inner_chunk c
    (record { is = each.0; fits = front_fits limits.payload inner c (joined more) fits; spelled = refl })
    refl in
    run_to limits (at inner) (at ((inner ++ c) ++ joined more)) (at (inner ++ (c ++ joined more)))
    (chunk_bytes c ++ flat_map chunk_bytes more) (ap at same)
    (step_then limits (at inner) (at (inner ++ c)) (at ((inner ++ c) ++ joined more)) (chunk_bytes c)
    (flat_map chunk_bytes more) first behind)

-- ---- pieces

-- after an interruption: the header of a part that is dropped, and the place after it
inner_header_run : {A : Type 0} (limits : Limits) (parts : List (Part A)) (head : Head A) (payload : List ℕ)
    (inner : Inner) → IsInner A limits inner
    → RunsTo limits (AtInnerHeader parts head payload) (AtChunk parts head payload) (inner_bytes inner)
inner_header_run limits parts head payload inner is =
    let at : List ℕ → Place _ = λ x. AtInnerChunk parts head payload x in
    let body : List ℕ = flat_map chunk_bytes inner.chunks in
    let opens : Leads limits (AtInnerHeader parts head payload) (sized inner.header) (at []) =
    a_part (record {
      header = inner.header;
      inner_head = is.head;
      reads = is.header;
      dropped = is.dropped;
      spelled = refl;
      leads = refl;
    }) in
    let closes = run_one limits (at (joined inner.chunks)) (AtChunk parts head payload) closing
    (inner_end refl refl) in
    let chunks = chunks_run limits parts head payload [] inner.chunks is.each is.fits in
    step_then limits (AtInnerHeader parts head payload) (at []) (AtChunk parts head payload)
    (sized inner.header) (body ++ closing) opens
    (run_then limits (at []) (at (joined inner.chunks)) (AtChunk parts head payload) body closing chunks
    closes)

piece_run : {A : Type 0} (limits : Limits) (parts : List (Part A)) (head : Head A) (payload : List ℕ)
    (piece : Piece) → IsPiece A limits piece → length (payload ++ piece_data piece) ≤ limits.payload
    → RunsTo limits (AtChunk parts head payload) (AtChunk parts head (payload ++ piece_data piece))
    (piece_bytes piece)
piece_run limits parts head payload (Chunk c) is fits =
    run_one limits (AtChunk parts head payload) (AtChunk parts head (payload ++ c)) (chunk_bytes c)
    (next_chunk c (record { is = is; fits = fits; spelled = refl }) refl)
piece_run limits parts head payload Pause is fits =
    let at : List ℕ → Place _ = λ x. AtChunk parts head x in
    run_to limits (at payload) (at payload) (at (payload ++ [])) (interruption ++ closing)
    (ap at (sym (append-nil payload)))
    (step_then limits (at payload) (AtInnerHeader parts head payload) (at payload) interruption closing
    (pause refl refl)
    (run_one limits (AtInnerHeader parts head payload) (at payload) closing (no_part refl refl)))
piece_run limits parts head payload (Break inner) is fits =
    let at : List ℕ → Place _ = λ x. AtChunk parts head x in
    run_to limits (at payload) (at payload) (at (payload ++ [])) (interruption ++ inner_bytes inner)
    (ap at (sym (append-nil payload)))
    (step_then limits (at payload) (AtInnerHeader parts head payload) (at payload) interruption
    (inner_bytes inner) (pause refl refl) (inner_header_run limits parts head payload inner is))

pieces_run : {A : Type 0} (limits : Limits) (parts : List (Part A)) (head : Head A) (payload : List ℕ)
    (pieces : List Piece) → AllByRecursion (IsPiece A limits) pieces
    → length (payload ++ flat_map piece_data pieces) ≤ limits.payload
    → RunsTo limits (AtChunk parts head payload) (AtChunk parts head (payload ++ flat_map piece_data pieces))
    (flat_map piece_bytes pieces)
pieces_run limits parts head payload [] each fits =
    let at : List ℕ → Place _ = λ x. AtChunk parts head x in
    run_to limits (at payload) (at payload) (at (payload ++ [])) [] (ap at (sym (append-nil payload)))
    (run_none limits (at payload))
pieces_run limits parts head payload (piece ∷ more) each fits =
    let at : List ℕ → Place _ = λ x. AtChunk parts head x in
    let rest : List ℕ = flat_map piece_data more in
    let same : (payload ++ piece_data piece) ++ rest ≡ payload
    ++ (piece_data piece ++ rest) = append_assoc payload (piece_data piece) rest in
    let behind = pieces_run limits parts head (payload ++ piece_data piece) more each.1 (rw same fits) in
    let first = piece_run limits parts head payload piece each.0
    (front_fits limits.payload payload (piece_data piece) rest fits) in
    run_to limits (at payload) (at ((payload ++ piece_data piece) ++ rest))
    (at (payload ++ (piece_data piece ++ rest))) (piece_bytes piece ++ flat_map piece_bytes more)
    (ap at same)
    (run_then limits (at payload) (at (payload ++ piece_data piece))
    (at ((payload ++ piece_data piece) ++ rest)) (piece_bytes piece)
    (flat_map piece_bytes more) first behind)

-- ---- frames

frame_run : {A : Type 0} (limits : Limits) (parts : List (Part A)) (frame : Frame) (part : Part A)
    → IsFrame limits frame part → length parts < limits.parts
    → RunsTo limits (AtHeader parts) (AtHeader (parts ++ part ∷ [])) (frame_bytes frame)
frame_run limits parts frame part is few =
    let whole : List ℕ = flat_map piece_data frame.pieces in
    let body : List ℕ = flat_map piece_bytes frame.pieces in
    let fits : length whole ≤ limits.payload = subst (λ (p : Part _). length p.payload ≤ limits.payload)
    is.part_is is.fits in
    let end : Place _ = AtHeader (parts ++ part_of is.head whole ∷ []) in
    let opens : Leads limits (AtHeader parts) (sized frame.header) (AtChunk parts is.head []) =
    record {
      few = few;
      header = frame.header;
      head = is.head;
      reads = is.header;
      spelled = refl;
      leads = refl;
    } in
    let pieces = pieces_run limits parts is.head [] frame.pieces is.each fits in
    let closes = run_one limits (AtChunk parts is.head whole) end closing (payload_end refl refl) in
    run_to limits (AtHeader parts) end (AtHeader (parts ++ part ∷ [])) (frame_bytes frame)
    (ap (λ (p : Part _). AtHeader (parts ++ p ∷ [])) (sym is.part_is))
    (step_then limits (AtHeader parts) (AtChunk parts is.head []) end (sized frame.header) (body
    ++ closing) opens
    (run_then limits (AtChunk parts is.head []) (AtChunk parts is.head whole) end body closing pieces closes))

frames_run : {A : Type 0} (limits : Limits) (parts : List (Part A)) (frames : List Frame)
    (more : List (Part A)) → AreFrames limits frames more → length (parts ++ more) ≤ limits.parts
    → RunsTo limits (AtHeader parts) (AtHeader (parts ++ more)) (flat_map frame_bytes frames)
frames_run limits parts [] [] are few =
    run_to limits (AtHeader parts) (AtHeader parts) (AtHeader (parts ++ [])) []
    (ap AtHeader (sym (append-nil parts))) (run_none limits (AtHeader parts))
frames_run limits parts [] (part ∷ more) are few = absurd are
frames_run limits parts (frame ∷ frames) [] are few = absurd are
frames_run limits parts (frame ∷ frames) (part ∷ more) are few =
    let next : List (Part _) = parts ++ part ∷ [] in
    let same : next ++ more ≡ parts ++ part ∷ more = append_assoc parts (part ∷ []) more in
    let room : length parts < limits.parts = omega (arith, few, length-append parts (part ∷ more)) in
    let first = frame_run limits parts frame part are.0 room in
    let behind = frames_run limits next frames more are.1 (rw same few) in
    run_to limits (AtHeader parts) (AtHeader (next ++ more)) (AtHeader (parts ++ part ∷ more))
    (frame_bytes frame ++ flat_map frame_bytes frames) (ap AtHeader same)
    (run_then limits (AtHeader parts) (AtHeader next) (AtHeader (next ++ more)) (frame_bytes frame)
    (flat_map frame_bytes frames) first behind)

-- ---- the places of the grammar

-- after the magic a run with these bytes leads there
pub record Reaches {A : Type 0} (limits : Limits) (place : Place A) (bytes : List ℕ) : Type 0 where
  pub body : List ℕ
  pub runs : RunsTo limits AtParams place body
  pub spelled : bytes ≡ magic ++ body

pub reach_then : {A : Type 0} (limits : Limits) (p q : Place A) (front more bytes : List ℕ)
    → Reaches limits p front → RunsTo limits p q more → bytes ≡ front ++ more → Reaches limits q bytes
reach_then limits p q front more bytes reached run spelled = record {
  body = reached.body ++ more;
  runs = run_then limits AtParams p q reached.body more reached.runs run;
  spelled = spelled ∙ ap (λ (x : List ℕ). x ++ more) reached.spelled ∙ append_assoc magic reached.body more;
}

-- after the magic
pub reach_params : {A : Type 0} (limits : Limits) → Reaches {A = A} limits AtParams magic
reach_params limits = record { body = []; runs = run_none limits AtParams; spelled = refl }

-- after whole frames
pub reach_header : {A : Type 0} (limits : Limits) (bytes : List ℕ) (parts : List (Part A))
    → HasParts limits bytes parts → Reaches limits (AtHeader parts) bytes
reach_header limits bytes parts has =
    let small : length has.block < 2 ^ 31 = has.block_small in
    let opens : Leads limits AtParams (sized has.block) (AtHeader []) =
    record {
      block = has.block;
      params = has.params;
      fits = has.block_fits;
      small = small;
      reads = has.block_read;
      spelled = refl;
      leads = refl;
    } in
    let start = reach_then limits AtParams (AtHeader []) magic (sized has.block) (magic ++ sized has.block)
    (reach_params limits) (run_one limits AtParams (AtHeader []) (sized has.block) opens) refl in
    reach_then limits (AtHeader []) (AtHeader parts) (magic ++ sized has.block)
    (flat_map frame_bytes has.frames) bytes start (frames_run limits [] has.frames parts has.are has.few)
    has.spelled

-- in a payload
pub reach_chunk : {A : Type 0} (limits : Limits) (bytes : List ℕ) (parts : List (Part A)) (head : Head A)
    (payload : List ℕ) → IsInPayload limits bytes parts head payload
    → Reaches limits (AtChunk parts head payload) bytes
reach_chunk limits bytes parts head payload is =
    let whole : List ℕ = flat_map piece_data is.pieces in
    let body : List ℕ = flat_map piece_bytes is.pieces in
    let fits : length whole ≤ limits.payload = subst (λ (x : List ℕ). length x ≤ limits.payload) is.payload_is
    is.fits in
    let opens : Leads limits (AtHeader parts) (sized is.header) (AtChunk parts head []) =
    record {
      few = is.few;
      header = is.header;
      head = head;
      reads = is.reads;
      spelled = refl;
      leads = refl;
    } in
    let run = step_then limits (AtHeader parts) (AtChunk parts head []) (AtChunk parts head whole)
    (sized is.header) body opens (pieces_run limits parts head [] is.pieces is.each fits) in
    reach_then limits (AtHeader parts) (AtChunk parts head payload) is.front (sized is.header ++ body) bytes
    (reach_header limits is.front parts is.has)
    (run_to limits (AtHeader parts) (AtChunk parts head whole) (AtChunk parts head payload) (sized is.header
    ++ body) (ap (λ (x : List ℕ). AtChunk parts head x) (sym is.payload_is)) run) is.spelled

-- after a size of -1
pub reach_inner_header : {A : Type 0} (limits : Limits) (bytes : List ℕ) (parts : List (Part A))
    (head : Head A) (payload : List ℕ) → IsInterrupted limits bytes parts head payload
    → Reaches limits (AtInnerHeader parts head payload) bytes
reach_inner_header limits bytes parts head payload is =
    reach_then limits (AtChunk parts head payload) (AtInnerHeader parts head payload) is.front interruption
    bytes (reach_chunk limits is.front parts head payload is.inside)
    (run_one limits (AtChunk parts head payload) (AtInnerHeader parts head payload) interruption
    (pause refl refl)) is.spelled

-- in the payload of an interrupting part
pub reach_inner_chunk : {A : Type 0} (limits : Limits) (bytes : List ℕ) (parts : List (Part A))
    (head : Head A) (payload inner : List ℕ) → IsInInner limits bytes parts head payload inner
    → Reaches limits (AtInnerChunk parts head payload inner) bytes
reach_inner_chunk limits bytes parts head payload inner is =
    let at : List ℕ → Place _ = λ x. AtInnerChunk parts head payload x in
    let body : List ℕ = flat_map chunk_bytes is.chunks in
    let fits : length (joined is.chunks) ≤ limits.payload = subst
    (λ (x : List ℕ). length x ≤ limits.payload) is.inner_is is.fits in
    let opens : Leads limits (AtInnerHeader parts head payload) (sized is.header) (at []) =
    a_part (record {
      header = is.header;
      inner_head = is.inner_head;
      reads = is.reads;
      dropped = is.dropped;
      spelled = refl;
      leads = refl;
    }) in
    let run = step_then limits (AtInnerHeader parts head payload) (at []) (at (joined is.chunks))
    (sized is.header) body opens (chunks_run limits parts head payload [] is.chunks is.each fits) in
    reach_then limits (AtInnerHeader parts head payload) (at inner) is.front (sized is.header ++ body) bytes
    (reach_inner_header limits is.front parts head payload is.interrupted)
    (run_to limits (AtInnerHeader parts head payload) (at (joined is.chunks)) (at inner) (sized is.header
    ++ body) (ap at (sym is.inner_is)) run) is.spelled
