-- What a reader of payloads took, seen from the stream.
use Rattle.std.proofs.Common.{◌≡◌, ℕ, ◌≤◌, List, [], ◌∷◌, ◌++◌, length, refl, sym, ap, ◌∙◌, append_assoc}
use Rattle.std.proofs.Common.{arith, subst}
use Rattle.std.specs.List.{flat_map, AllByRecursion}
use Rattle.std.proofs.lemmas.Grind.{flat_map-append}
use Rattle.std.proofs.lemmas.List.{append-nil, length-append}
use Rattle.hg_types.specs.declared.limits.Limits.{Limits}
use Rattle.hg_types.specs.declared.part.Part.{Part}
use Rattle.hg_chunks.specs.declared.fault.ChunkFault.{ChunkFault}
use Rattle.hg_chunks.specs.declared.fault.ChunkFault.TheVariants.{BadSize, TooLarge, NoMemory}
use Rattle.hg_chunks.specs.declared.payload.PayloadIn.{PayloadIn}
use Rattle.hg_chunks.specs.Payload.{chunk_bytes, IsChunk, IsOpen, interruption, closing}
use Rattle.hg_chunks.proofs.CallerLemmas.{open_while_reading}
use Rattle.hg_chunks.specs.PayloadIn as chunks
use Rattle.hg_params.specs.declared.head.Head.{Head}
use Rattle.hg_stream.specs.Block.{sized}
use Rattle.hg_stream.specs.Frames.{magic, Piece, Chunk, Pause, Break, Inner, joined, piece_bytes, piece_data}
use Rattle.hg_stream.specs.Frames.{IsPiece, IsInner, inner_bytes, Frame, frame_bytes, part_of, IsFrame}
use Rattle.hg_stream.specs.Frames.{AreFrames, HasParts}
use Rattle.hg_stream.specs.Places.{IsInPayload, IsInterrupted, IsInInner, IsBeforeChunk, IsReading, at_chunk}
use Rattle.hg_stream.specs.code.Told.{of_chunk}
use Rattle.hg_stream.specs.Unbundler.{TakesPayload}
use Rattle.hg_stream.specs.code.Steps.{BreaksBundle}
use Rattle.hg_stream.proofs.Steps.{further}

-- ---- chunks as pieces

abbrev pieces_of : List (List ℕ) → List Piece
pieces_of [] = []
pieces_of (chunk ∷ more) = Chunk chunk ∷ pieces_of more

bytes_of : (chunks : List (List ℕ)) → flat_map piece_bytes (pieces_of chunks) ≡ flat_map chunk_bytes chunks
bytes_of [] = refl
bytes_of (chunk ∷ more) = ap (λ (x : List ℕ). chunk_bytes chunk ++ x) (bytes_of more)

data_of : (chunks : List (List ℕ)) → flat_map piece_data (pieces_of chunks) ≡ joined chunks
data_of [] = refl
data_of (chunk ∷ more) = ap (λ (x : List ℕ). chunk ++ x) (data_of more)

all_of : (A : Type 0) (limits : Limits) (chunks : List (List ℕ)) → AllByRecursion IsChunk chunks
    → AllByRecursion (IsPiece A limits) (pieces_of chunks)
all_of A limits [] each = tt
all_of A limits (chunk ∷ more) each = (each.0, all_of A limits more each.1)

-- what holds of each item of two lists holds of each of the joined list
all_both : {X : Type 0} (P : X → Type 0) (xs ys : List X) → AllByRecursion P xs → AllByRecursion P ys
    → AllByRecursion P (xs ++ ys)
all_both P [] ys a b = b
all_both P (x ∷ xs) ys a b = (a.0, all_both P xs ys a.1 b)

-- more pieces stand after those before them
pub more_pieces : {A : Type 0} (limits : Limits) (front : List ℕ) (parts : List (Part A)) (head : Head A)
    (payload : List ℕ) (more : List Piece)
    → IsInPayload limits front parts head payload → AllByRecursion (IsPiece A limits) more
    → length (payload ++ flat_map piece_data more) ≤ limits.payload
    → IsInPayload limits (front ++ flat_map piece_bytes more) parts head (payload ++ flat_map piece_data more)
more_pieces {A} limits front parts head payload more inside each fits =
    let bytes_is : flat_map piece_bytes (inside.pieces ++ more) ≡ flat_map piece_bytes inside.pieces
    ++ flat_map piece_bytes more = flat_map-append piece_bytes inside.pieces more in
    record {
      front = inside.front;
      has = inside.has;
      few = inside.few;
      header = inside.header;
      reads = inside.reads;
      pieces = inside.pieces ++ more;
      each = all_both (IsPiece A limits) inside.pieces more inside.each each;
      payload_is = ap (λ (x : List ℕ). x ++ flat_map piece_data more) inside.payload_is
          ∙ sym (flat_map-append piece_data inside.pieces more);
      fits = fits;
      spelled = ap (λ (x : List ℕ). x ++ flat_map piece_bytes more) inside.spelled
          ∙ append_assoc inside.front (sized inside.header ++ flat_map piece_bytes inside.pieces)
          (flat_map piece_bytes more)
          ∙ ap (λ (x : List ℕ). inside.front ++ x)
          (append_assoc (sized inside.header) (flat_map piece_bytes inside.pieces)
          (flat_map piece_bytes more))
          ∙ ap (λ (x : List ℕ). inside.front ++ (sized inside.header ++ x)) (sym bytes_is);
    }

-- and so do more chunks
pub more_chunks : {A : Type 0} (limits : Limits) (parts : List (Part A)) (head : Head A)
    (front payload : List ℕ) (more : List (List ℕ))
    → IsInPayload limits front parts head payload → AllByRecursion IsChunk more
    → length (payload ++ joined more) ≤ limits.payload
    → IsInPayload limits (front ++ flat_map chunk_bytes more) parts head (payload ++ joined more)
more_chunks {A} limits parts head front payload more inside each fits =
    let all : IsInPayload limits (front ++ flat_map piece_bytes (pieces_of more)) parts head (payload
    ++ flat_map piece_data (pieces_of more)) =
    more_pieces limits front parts head payload (pieces_of more) inside (all_of A limits more each)
    (rw (data_of more) fits) in
    rw (bytes_of more, data_of more) at all

pub more_inner : {A : Type 0} (limits : Limits) (parts : List (Part A)) (head : Head A)
    (payload front inner : List ℕ) (more : List (List ℕ))
    → IsInInner limits front parts head payload inner → AllByRecursion IsChunk more
    → length (inner ++ joined more) ≤ limits.payload
    → IsInInner limits (front ++ flat_map chunk_bytes more) parts head payload (inner ++ joined more)
more_inner limits parts head payload front inner more inside each fits = record {
  front = inside.front;
  interrupted = inside.interrupted;
  header = inside.header;
  inner_head = inside.inner_head;
  reads = inside.reads;
  dropped = inside.dropped;
  chunks = inside.chunks ++ more;
  each = all_both IsChunk inside.chunks more inside.each each;
  inner_is = ap (λ (x : List ℕ). x ++ joined more) inside.inner_is
      ∙ sym (flat_map-append (λ chunk. chunk) inside.chunks more);
  fits = fits;
  spelled = ap (λ (x : List ℕ). x ++ flat_map chunk_bytes more) inside.spelled
      ∙ append_assoc inside.front (sized inside.header ++ flat_map chunk_bytes inside.chunks)
      (flat_map chunk_bytes more)
      ∙ ap (λ (x : List ℕ). inside.front ++ x)
      (append_assoc (sized inside.header) (flat_map chunk_bytes inside.chunks)
      (flat_map chunk_bytes more))
      ∙ ap (λ (x : List ℕ). inside.front ++ (sized inside.header ++ x))
      (sym (flat_map-append chunk_bytes inside.chunks more));
}

-- ---- what a call took

-- a place that more chunks only carry on
abbrev pub CarriesOn : Limits → (List ℕ → List ℕ → Type 0) → Type 0
CarriesOn limits P = (front whole : List ℕ) (more : List (List ℕ)) → P front whole
    → AllByRecursion IsChunk more → length (whole ++ joined more) ≤ limits.payload
    → P (front ++ flat_map chunk_bytes more) (whole ++ joined more)

-- the place after the chunks that a call took
pub record Behind {A : Type 0} (P : List ℕ → List ℕ → Type 0) (q : PayloadIn A)
    (bytes tail after : List ℕ) : Type 0 where
  pub front : List ℕ
  pub whole : List ℕ
  pub place : P front whole
  pub holds : chunks.HasTakenItems q whole after
  pub spelled : bytes ≡ front ++ (tail ++ after)

-- the place and the bytes there
goes_place : {A : Type 0} (limits : Limits) (P : List ℕ → List ℕ → Type 0) → CarriesOn limits P
    → (q : PayloadIn A) (front rest whole taken tail after : List ℕ) (more : List (List ℕ))
    → P front whole → chunks.limit_of q ≡ limits.payload → chunks.TakesChunks q whole rest taken tail after more
    → P (front ++ flat_map chunk_bytes more) (whole ++ joined more)
goes_place limits P carries q front rest whole taken tail after more place limit takes =
    carries front whole more place takes.each
    (subst (λ m. length (whole ++ joined more) ≤ m) limit takes.holds.0)

goes_bytes : {A : Type 0} (q : PayloadIn A) (bytes front rest whole taken tail after : List ℕ)
    (more : List (List ℕ))
    → bytes ≡ front ++ rest → chunks.TakesChunks q whole rest taken tail after more → bytes
    ++ taken ≡ (front ++ flat_map chunk_bytes more) ++ (tail ++ after)
goes_bytes q bytes front rest whole taken tail after more spelled takes =
    further bytes front rest taken spelled ∙ ap (λ (x : List ℕ). front ++ x) takes.spelled
    ∙ sym (append_assoc front (flat_map chunk_bytes more) (tail ++ after))

pub behind : {A : Type 0} (limits : Limits) (P : List ℕ → List ℕ → Type 0) → CarriesOn limits P
    → (q : PayloadIn A) (bytes front rest whole taken tail after : List ℕ) (more : List (List ℕ))
    → P front whole → chunks.limit_of q ≡ limits.payload → bytes ≡ front ++ rest
    → chunks.TakesChunks q whole rest taken tail after more → Behind P q (bytes ++ taken) tail after
behind limits P carries q bytes front rest whole taken tail after more place limit spelled takes = record {
  front = front ++ flat_map chunk_bytes more;
  whole = whole ++ joined more;
  place = goes_place limits P carries q front rest whole taken tail after more place limit takes;
  holds = takes.holds;
  spelled = goes_bytes q bytes front rest whole taken tail after more spelled takes;
}

-- a chunk that is refused, or memory for one
pub chunk_breaks : {A : Type 0} (fault : ChunkFault) (limits : Limits) (front rest whole : List ℕ)
    (parts : List (Part A)) → IsBeforeChunk limits front parts whole
    → chunks.IsFault fault limits.payload whole rest → BreaksBundle (of_chunk fault) limits (front ++ rest) parts
chunk_breaks BadSize limits front rest whole parts before h = (front, rest, whole, before, h, refl)
chunk_breaks TooLarge limits front rest whole parts before h = (front, rest, whole, before, h, refl)
chunk_breaks NoMemory limits front rest whole parts before h = at_chunk front rest whole before h refl

pub chunk_err : {A : Type 0} (limits : Limits) (parts : List (Part A)) (P : List ℕ → List ℕ → Type 0)
    → CarriesOn limits P → ((f w : List ℕ) → P f w → IsBeforeChunk limits f parts w)
    → (fault : ChunkFault) (q : PayloadIn A) (bytes front rest whole taken : List ℕ) → P front whole
    → chunks.limit_of q ≡ limits.payload → bytes ≡ front ++ rest
    → chunks.FailsWithin fault q whole rest taken → BreaksBundle (of_chunk fault) limits (bytes ++ taken) parts
chunk_err limits parts P carries before fault q bytes front rest whole taken place limit spelled
    (more, after, takes, wrong) =
    let there = goes_place limits P carries q front rest whole taken [] after more place limit takes in
    subst (λ x. BreaksBundle (of_chunk fault) limits x parts)
    (sym (goes_bytes q bytes front rest whole taken [] after more spelled takes))
    (chunk_breaks fault limits (front ++ flat_map chunk_bytes more) after (whole ++ joined more) parts
    (before (front ++ flat_map chunk_bytes more) (whole ++ joined more) there)
    (subst (λ m. chunks.IsFault fault m (whole ++ joined more) after) limit wrong))

-- ---- frames

frames_more : {A : Type 0} (limits : Limits) (frames : List Frame) (parts : List (Part A)) (frame : Frame)
    (part : Part A) → AreFrames limits frames parts → IsFrame limits frame part
    → AreFrames limits (frames ++ frame ∷ []) (parts ++ part ∷ [])
frames_more limits [] [] frame part are is = (is, tt)
frames_more limits [] (p ∷ ps) frame part are is = absurd are
frames_more limits (f ∷ fs) [] frame part are is = absurd are
frames_more limits (f ∷ fs) (p ∷ ps) frame part are is = (are.0, frames_more limits fs ps frame part are.1 is)

-- the closing size makes a part of a payload
pub closes_part : {A : Type 0} (limits : Limits) (front : List ℕ) (parts : List (Part A)) (head : Head A)
    (payload : List ℕ) → IsInPayload limits front parts head payload
    → HasParts limits (front ++ closing) (parts ++ part_of head payload ∷ [])
closes_part limits front parts head payload inside =
    let has = inside.has in
    let frame : Frame = record { header = inside.header; pieces = inside.pieces } in
    let one : flat_map frame_bytes (has.frames ++ frame ∷ []) ≡ flat_map frame_bytes has.frames
    ++ frame_bytes frame =
    flat_map-append frame_bytes has.frames (frame ∷ [])
    ∙ ap (λ (x : List ℕ). flat_map frame_bytes has.frames ++ x) (append-nil (frame_bytes frame)) in
    let start : List ℕ = magic ++ sized has.block in
    let bytes : front ++ closing ≡ inside.front ++ frame_bytes frame =
    ap (λ (x : List ℕ). x ++ closing) inside.spelled
    ∙ append_assoc inside.front (sized inside.header ++ flat_map piece_bytes inside.pieces) closing
    ∙ ap (λ (x : List ℕ). inside.front ++ x)
    (append_assoc (sized inside.header) (flat_map piece_bytes inside.pieces) closing) in
    record {
      block = has.block;
      params = has.params;
      frames = has.frames ++ frame ∷ [];
      block_fits = has.block_fits;
      block_small = has.block_small;
      block_read = has.block_read;
      are = frames_more limits has.frames parts frame (part_of head payload) has.are (record {
        head = head;
        header = inside.reads;
        each = inside.each;
        part_is = ap (λ (x : List ℕ). part_of head x) inside.payload_is;
        fits = inside.fits;
      });
      few = omega (arith, length-append parts (part_of head payload ∷ []), inside.few);
      spelled = bytes ∙ ap (λ (x : List ℕ). x ++ frame_bytes frame) has.spelled
          ∙ append_assoc start (flat_map frame_bytes has.frames) (frame_bytes frame)
          ∙ ap (λ (x : List ℕ). start ++ x) (sym one);
    }

-- where a payload's reader goes on, the stream is being read
pub chunk_reading : {A : Type 0} (limits : Limits) (bytes front rest whole : List ℕ) (parts : List (Part A))
    (p : PayloadIn A) → IsBeforeChunk limits front parts whole
    → TakesPayload limits p whole rest → bytes ≡ front ++ rest → IsReading limits (bytes ++ []) parts
chunk_reading limits bytes front rest whole parts p before goes spelled =
    at_chunk front rest whole before
    (subst (λ m. IsOpen m whole rest) goes.limit
    (open_while_reading p whole rest goes.reading goes.holds)) (append-nil bytes ∙ spelled)

-- ---- interruptions

-- an interruption without a part is a piece
pub ends_pause : {A : Type 0} (limits : Limits) (front : List ℕ) (parts : List (Part A)) (head : Head A)
    (payload : List ℕ) → IsInterrupted limits front parts head payload
    → IsInPayload limits (front ++ closing) parts head payload
ends_pause limits front parts head payload is =
    let more = more_pieces limits is.front parts head payload (Pause ∷ []) is.inside (tt, tt)
    (rw append-nil is.inside.fits) in
    let bytes : front ++ closing ≡ is.front ++ flat_map piece_bytes (Pause ∷ []) =
    ap (λ (x : List ℕ). x ++ closing) is.spelled ∙ append_assoc is.front interruption closing
    ∙ ap (λ (x : List ℕ). is.front ++ x) (sym (append-nil (interruption ++ closing))) in
    subst (λ x. IsInPayload limits x parts head payload) (sym bytes)
    (subst (λ w. IsInPayload limits (is.front ++ flat_map piece_bytes (Pause ∷ [])) parts head w)
    (append-nil payload) more)

-- and so is one with a part that is dropped
pub ends_inner : {A : Type 0} (limits : Limits) (front : List ℕ) (parts : List (Part A)) (head : Head A)
    (payload inner : List ℕ) → IsInInner limits front parts head payload inner
    → IsInPayload limits (front ++ closing) parts head payload
ends_inner {A} limits front parts head payload inner is =
    let at = is.interrupted in
    let broken : Inner = record { header = is.header; chunks = is.chunks } in
    let fine : IsInner A limits broken = record {
      head = is.inner_head;
      header = is.reads;
      dropped = is.dropped;
      each = is.each;
      fits = rw (← is.inner_is) is.fits;
    } in
    let more = more_pieces limits at.front parts head payload (Break broken ∷ []) at.inside (fine, tt)
    (rw append-nil at.inside.fits) in
    let tail : List ℕ = flat_map chunk_bytes is.chunks in
    let bytes : front ++ closing ≡ at.front ++ flat_map piece_bytes (Break broken ∷ []) =
    ap (λ (x : List ℕ). x ++ closing) is.spelled ∙ append_assoc is.front (sized is.header ++ tail) closing
    ∙ ap (λ (x : List ℕ). is.front ++ x) (append_assoc (sized is.header) tail closing)
    ∙ ap (λ (x : List ℕ). x ++ inner_bytes broken) at.spelled
    ∙ append_assoc at.front interruption (inner_bytes broken)
    ∙ ap (λ (x : List ℕ). at.front ++ x) (sym (append-nil (interruption ++ inner_bytes broken))) in
    subst (λ x. IsInPayload limits x parts head payload) (sym bytes)
    (subst (λ w. IsInPayload limits (at.front ++ flat_map piece_bytes (Break broken ∷ [])) parts head w)
    (append-nil payload) more)
