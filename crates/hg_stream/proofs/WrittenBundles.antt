-- What is written of parts is a bundle with these parts.
use Rattle.std.proofs.Common.{◌≡◌, ℕ, suc, ◌+◌, ◌<◌, ◌≤◌, ◌^◌, List, [], ◌∷◌, ◌++◌, length, refl, sym, ap}
use Rattle.std.proofs.Common.{◌∙◌, append_assoc, arith}
use Rattle.std.specs.List.{All, flat_map, AllByRecursion}
use Rattle.std.proofs.lemmas.List.{append-nil}
use Rattle.std.proofs.lemmas.List.Elements.{All-from_recursion, recursion_from_All}
use Rattle.hg_types.specs.declared.limits.Limits.{Limits}
use Rattle.hg_types.specs.declared.part.Part.{Part}
use Rattle.hg_chunks.specs.Payload.{chunk_bytes, closing, payload_bytes}
use Rattle.hg_params.specs.Writing.{cased, header_bytes, written_head}
use Rattle.hg_params.proofs.CallerLemmas.{read_back, header_small}
use Rattle.hg_stream.specs.Block.{sized}
use Rattle.hg_stream.specs.Frames.{magic, Piece, Chunk, piece_bytes, piece_data, IsPiece, Frame, frame_bytes}
use Rattle.hg_stream.specs.Frames.{part_of, IsFrame, AreFrames, IsBundle}
use Rattle.hg_stream.specs.Written.{bundle_bytes, parts_bytes, CanBeWritten}
use Rattle.hg_stream.specs.Laws.{read_part, read_parts, AreWithin, IsReadBack, IsWithinAsPartsAre}
use Rattle.hg_stream.proofs.Steps.{no_params}

-- ---- payloads

-- the pieces that are written of a payload
abbrev written_pieces : List ℕ → List Piece
written_pieces [] = []
written_pieces (byte ∷ bytes) = Chunk (byte ∷ bytes) ∷ []

data_is : (payload : List ℕ) → payload ≡ flat_map piece_data (written_pieces payload)
data_is [] = refl
data_is (byte ∷ bytes) = sym (append-nil (byte ∷ bytes))

payload_is : (payload : List ℕ) → flat_map piece_bytes (written_pieces payload)
    ++ closing ≡ payload_bytes payload
payload_is [] = refl
payload_is (byte ∷ bytes) = ap (λ (x : List ℕ). x ++ closing) (append-nil (chunk_bytes (byte ∷ bytes)))

are_pieces : (A : Type 0) (limits : Limits) (payload : List ℕ) → length payload < 2 ^ 31
    → AllByRecursion (IsPiece A limits) (written_pieces payload)
are_pieces A limits [] small = tt
are_pieces A limits (byte ∷ bytes) small = ((omega arith, small), tt)

-- ---- frames

-- the frame that is written of a part
abbrev written_frame : {A : Type 0} → ℕ → Part A → Frame
written_frame place part =
    record { header = header_bytes (cased part.kind) place part.params; pieces = written_pieces part.payload }

abbrev written_frames : {A : Type 0} → ℕ → List (Part A) → List Frame
written_frames place [] = []
written_frames place (part ∷ parts) = written_frame place part ∷ written_frames (place + 1) parts

is_frame : {A : Type 0} (limits : Limits) (place : ℕ) (part : Part A) → place < 2 ^ 32 → CanBeWritten part
    → length part.payload ≤ limits.payload → IsFrame limits (written_frame place part) (read_part place part)
is_frame {A} limits place part number can fits =
    let reads = read_back part.kind place part.params number can.header in
    let size = header_small (header_bytes (cased part.kind) place part.params)
    (written_head part.kind place part.params) reads in
    record {
      head = written_head part.kind place part.params;
      header = record { some = size.0; small = size.1; reads = reads };
      each = are_pieces A limits part.payload can.payload;
      part_is = ap (λ (x : List ℕ). part_of (written_head part.kind place part.params) x)
          (data_is part.payload);
      fits = fits;
    }

are_frames : {A : Type 0} (limits : Limits) (place : ℕ) (parts : List (Part A))
    → place + length parts ≤ 2 ^ 32 → AllByRecursion CanBeWritten parts
    → AllByRecursion (λ part. length part.payload ≤ limits.payload) parts
    → AreFrames limits (written_frames place parts) (read_parts place parts)
are_frames limits place [] numbers can fit = tt
are_frames limits place (part ∷ parts) numbers can fit = (
  is_frame limits place part (omega (arith, numbers)) can.0 fit.0,
  are_frames limits (place + 1) parts (omega (arith, numbers)) can.1 fit.1,
)

frames_spelled : {A : Type 0} (place : ℕ) (parts : List (Part A))
    → parts_bytes place parts ≡ flat_map frame_bytes (written_frames place parts)
frames_spelled place [] = refl
frames_spelled place (part ∷ parts) =
    let header : List ℕ = sized (header_bytes (cased part.kind) place part.params) in
    ap (λ (x : List ℕ). (header ++ x) ++ parts_bytes (place + 1) parts) (sym (payload_is part.payload))
    ∙ ap (λ (x : List ℕ). frame_bytes (written_frame place part) ++ x) (frames_spelled (place + 1) parts)

as_many : {A : Type 0} (place : ℕ) (parts : List (Part A)) → length (read_parts place parts) ≡ length parts
as_many place [] = refl
as_many place (part ∷ parts) = ap (λ (n : ℕ). suc n) (as_many (place + 1) parts)

-- ---- bundles

-- what is written is a bundle
pub written_is_bundle : {A : Type 0} (limits : Limits) (parts : List (Part A)) → IsReadBack limits parts
written_is_bundle limits parts within =
    let none = no_params in (
      record {
        front = (magic ++ sized []) ++ parts_bytes 0 parts;
        has = record {
          block = [];
          params = none.0;
          frames = written_frames 0 parts;
          block_fits = omega arith;
          block_small = omega arith;
          block_read = none.1;
          are = are_frames limits 0 parts (omega (arith, within.numbered))
              (recursion_from_All CanBeWritten parts within.writable)
              (recursion_from_All (λ part. length part.payload ≤ limits.payload) parts within.payloads);
          few = omega (arith, as_many 0 parts, within.few);
          spelled = ap (λ (x : List ℕ). (magic ++ sized []) ++ x) (frames_spelled 0 parts);
        };
        spelled = sym (append_assoc (magic ++ sized []) (parts_bytes 0 parts) closing);
      },
      within.stream,
    )

-- ---- within the limits

payload_fits : {A : Type 0} (limits : Limits) (frame : Frame) (part : Part A) → IsFrame limits frame part
    → length part.payload ≤ limits.payload
payload_fits limits frame part is = is.fits

-- the payloads of parts that frames carry are within their limit
payloads_fit : {A : Type 0} (limits : Limits) (place : ℕ) (frames : List Frame) (parts : List (Part A))
    → AreFrames limits frames (read_parts place parts)
    → AllByRecursion (λ part. length part.payload ≤ limits.payload) parts
payloads_fit limits place [] [] are = tt
payloads_fit limits place (frame ∷ frames) [] are = tt
payloads_fit limits place [] (part ∷ parts) are = absurd are
payloads_fit limits place (frame ∷ frames) (part ∷ parts) are = (
  payload_fits limits frame (read_part place part) are.0,
  payloads_fit limits (place + 1) frames parts are.1,
)

bundle_within : {A : Type 0} (limits : Limits) (parts : List (Part A)) → All CanBeWritten parts
    → length parts < 2 ^ 32 → IsBundle limits (bundle_bytes parts) (read_parts 0 parts)
    → AreWithin limits parts
bundle_within limits parts can numbered is = record {
  writable = can;
  numbered = numbered;
  few = omega (arith, as_many 0 parts, is.0.has.few);
  payloads = All-from_recursion (λ part. length part.payload ≤ limits.payload) parts
      (payloads_fit limits 0 is.0.has.frames parts is.0.has.are);
  stream = is.1;
}

pub within_as_parts_are : {A : Type 0} (limits : Limits) (parts : List (Part A))
    → IsWithinAsPartsAre limits parts
within_as_parts_are limits parts can numbered =
    (written_is_bundle limits parts, bundle_within limits parts can numbered)
