-- What is written of the parts of a bundle that may change a repository is a bundle, with these parts.
use Rattle.std.proofs.Common.{◌≡◌, ℕ, ◌+◌, ◌<◌, ◌≤◌, ◌^◌, Bool, true, false, cond, List, [], ◌∷◌, ◌++◌, length, map}
use Rattle.std.proofs.Common.{Option, Some, None, option_map, filter, pos, refl, sym, ap, ◌∙◌, subst, append_assoc, arith}
use Rattle.std.proofs.Common.{length-append}
use Rattle.std.specs.List.{AllByRecursion, cons_option, flat_map}
use Rattle.std.specs.Int.{to_be_bytes, w32}
use Rattle.std.proofs.lemmas.List.{append-nil}
use Rattle.hg_types.specs.declared.limits.Limits.{Limits}
use Rattle.hg_types.specs.declared.part.Param.{Param}
use Rattle.hg_types.specs.declared.part.Part.{Part}
use Rattle.hg_types.specs.Limits.{IsAllowed}
use Rattle.hg_chunks.specs.Payload.{chunk_bytes, closing, interruption, payload_bytes}
use Rattle.hg_chunks.specs.Size.{size_bytes}
use Rattle.hg_params.specs.declared.head.Head.{Head}
use Rattle.hg_params.specs.Header.{Fields, IsHeader, KeyValue, all_params, param, param_data, param_sizes, params_of}
use Rattle.hg_params.specs.Header.{spelling}
use Rattle.hg_params.specs.StreamParams.{AreStreamParams, pieces}
use Rattle.hg_params.specs.Writing.{header_bytes}
use Rattle.hg_params.proofs.CallerLemmas.{header_small}
use Rattle.hg_stream.specs.Block.{sized}
use Rattle.hg_stream.specs.Frames.{AreFrames, Break, Chunk, Frame, IsBundle, IsFrame, IsPiece, Pause, Piece}
use Rattle.hg_stream.specs.Frames.{frame_bytes, inner_bytes, magic, part_of, piece_bytes, piece_data}
use Rattle.hg_parts.specs.PartTypes.{support_of}
use Rattle.hg_store_tools.specs.Canonical.{canonical_bytes, canonical_parts, is_named, names_by}
use Rattle.hg_store_tools.specs.Canonical.{params_named, plain_bytes, with_params_named}
use Rattle.hg_store_tools.proofs.CallerLemmas.{stands_named}

-- ---- frames of parts that are written as they stand

abbrev plain_pieces : List ℕ → List Piece
plain_pieces [] = []
plain_pieces (byte ∷ bytes) = Chunk (byte ∷ bytes) ∷ []

data_is : (payload : List ℕ) → payload ≡ flat_map piece_data (plain_pieces payload)
data_is [] = refl
data_is (byte ∷ bytes) = sym (append-nil (byte ∷ bytes))

payload_is : (payload : List ℕ) → flat_map piece_bytes (plain_pieces payload) ++ closing ≡ payload_bytes payload
payload_is [] = refl
payload_is (byte ∷ bytes) = ap (λ (x : List ℕ). x ++ closing) (append-nil (chunk_bytes (byte ∷ bytes)))

are_pieces : (A : Type 0) (limits : Limits) (payload : List ℕ) → length payload < 2 ^ 31
    → AllByRecursion (IsPiece A limits) (plain_pieces payload)
are_pieces A limits [] small = tt
are_pieces A limits (byte ∷ bytes) small = ((omega arith, small), tt)

abbrev plain_frame : {A : Type 0} → Part A → Frame
plain_frame part = record { header = header_bytes part.kind part.id part.params; pieces = plain_pieces part.payload }

plain_spelled : {A : Type 0} (parts : List (Part A))
    → flat_map plain_bytes parts ≡ flat_map frame_bytes (map plain_frame parts)
plain_spelled [] = refl
plain_spelled (part ∷ parts) =
    ap (λ (x : List ℕ). (sized (header_bytes part.kind part.id part.params) ++ x) ++ flat_map plain_bytes parts)
    (sym (payload_is part.payload))
    ∙ ap (λ (x : List ℕ). frame_bytes (plain_frame part) ++ x) (plain_spelled parts)

-- ---- lengths

-- what parameters take in a header
weight : {A : Type 0} → List (Param A) → ℕ
weight [] = 0
weight (p ∷ params) = 2 + length p.key + length p.value + weight params

weight_filter : {A : Type 0} (p : Param A → Bool) (params : List (Param A)) → weight (filter p params) ≤ weight params
unfolding weight
weight_filter p [] = omega arith
weight_filter p (param ∷ params) =
    let less = weight_filter p params in
    elim (p param) as (λ b. weight (cond b (param ∷ filter p params) (filter p params)) ≤ weight (param ∷ params)) [
      | true ↦ omega (arith, less)
      | false ↦ omega (arith, less)
    ]

weight_is : (A : Type 0) (ms ads : List KeyValue)
    → length (flat_map param_sizes (ms ++ ads)) + length (flat_map param_data (ms ++ ads))
    ≡ weight (map (param {A = A} true) ms ++ map (param false) ads)
unfolding weight
weight_is A [] [] = refl
weight_is A [] (p ∷ ads) =
    let rest = weight_is A [] ads in
    let texts = length-append (p.key ++ p.value) (flat_map param_data ads) in
    let both = length-append p.key p.value in
    omega (arith, rest, texts, both)
weight_is A (p ∷ ms) ads =
    let rest = weight_is A ms ads in
    let texts = length-append (p.key ++ p.value) (flat_map param_data (ms ++ ads)) in
    let both = length-append p.key p.value in
    omega (arith, rest, texts, both)

spelling_length : (A : Type 0) (f : Fields) → length (spelling f) ≡ 7 + length f.kind + weight (params_of {A = A} f)
unfolding spelling
spelling_length A f =
    let params = weight_is A f.mandatory f.advisory in
    let sizes = flat_map param_sizes (all_params f) in
    let texts = flat_map param_data (all_params f) in
    let counts = length f.mandatory ∷ length f.advisory ∷ [] in
    let a = length-append (length f.kind ∷ f.kind) (to_be_bytes w32 f.id ++ (counts ++ (sizes ++ texts))) in
    let b = length-append (to_be_bytes w32 f.id) (counts ++ (sizes ++ texts)) in
    let d = length-append counts (sizes ++ texts) in
    let e = length-append sizes texts in
    omega (arith, params, a, b, d, e)

header_length : {A : Type 0} (header : List ℕ) (head : Head A) → IsHeader header head
    → length header ≡ 7 + length head.kind + weight head.params
header_length {A} header head is =
    ap length is.sound.has.spelled ∙ spelling_length A is.fields
    ∙ ap (λ (h : Head A). 7 + length h.kind + weight h.params) (sym is.says)

sized_length : (block : List ℕ) → length (sized block) ≡ 4 + length block
sized_length block = length-append (size_bytes (pos (length block))) block

-- pieces take at least what their data takes, and a size more where there is any
record AreLong (pieces : List Piece) : Type 0 where
  all : length (flat_map piece_data pieces) ≤ length (flat_map piece_bytes pieces)
  some : 0 < length (flat_map piece_data pieces)
      → length (flat_map piece_data pieces) + 4 ≤ length (flat_map piece_bytes pieces)

are_long : (A : Type 0) (limits : Limits) (pieces : List Piece) → AllByRecursion (IsPiece A limits) pieces
    → AreLong pieces
are_long A limits [] each = record { all = omega arith; some = λ some. omega arith }
are_long A limits (Chunk chunk ∷ pieces) each =
    let rest = are_long A limits pieces each.1 in
    let texts = length-append chunk (flat_map piece_data pieces) in
    let bytes = length-append (chunk_bytes chunk) (flat_map piece_bytes pieces) in
    let size = sized_length chunk in
    record { all = omega (arith, rest.all, texts, bytes, size); some = λ some. omega (arith, rest.all, texts, bytes, size) }
are_long A limits (Pause ∷ pieces) each =
    let rest = are_long A limits pieces each.1 in
    let bytes = length-append (interruption ++ closing) (flat_map piece_bytes pieces) in
    record { all = omega (arith, rest.all, bytes); some = λ some. omega (arith, rest.some some, bytes) }
are_long A limits (Break inner ∷ pieces) each =
    let rest = are_long A limits pieces each.1 in
    let bytes = length-append (interruption ++ inner_bytes inner) (flat_map piece_bytes pieces) in
    record { all = omega (arith, rest.all, bytes); some = λ some. omega (arith, rest.some some, bytes) }

payload_length : (payload : List ℕ) → length (payload_bytes payload) ≤ 8 + length payload
payload_length [] = omega arith
payload_length (byte ∷ bytes) =
    let all = length-append (chunk_bytes (byte ∷ bytes)) closing in
    let size = sized_length (byte ∷ bytes) in
    omega (arith, all, size)

-- in one chunk a payload takes no more than in its pieces
payload_short : (A : Type 0) (limits : Limits) (pieces : List Piece) (payload : List ℕ)
    → AllByRecursion (IsPiece A limits) pieces → payload ≡ flat_map piece_data pieces
    → length (payload_bytes payload) ≤ length (flat_map piece_bytes pieces) + 4
payload_short A limits pieces [] each is = omega arith
payload_short A limits pieces (byte ∷ bytes) each is =
    let long = are_long A limits pieces each in
    let same = ap length is in
    let more = long.some (omega (arith, same)) in
    let all = payload_length (byte ∷ bytes) in
    omega (arith, same, more, all)

-- ---- one part

record IsShortFrame {A : Type 0} (limits : Limits) (frame : Frame) (part : Part A) : Type 0 where
  frames : IsFrame limits (plain_frame part) part
  short : length (plain_bytes part) ≤ length (frame_bytes frame)

kept_frame : {A : Type 0} (limits : Limits) (frame : Frame) (part : Part A) (names : List (List ℕ))
    → IsAllowed limits → IsFrame limits frame part → IsShortFrame limits frame (with_params_named part names)
kept_frame {A} limits frame part names allowed is =
    let payload = flat_map piece_data frame.pieces in
    subst (λ (p : Part A). IsShortFrame limits frame (with_params_named p names)) (sym is.part_is)
    (let fits : length payload ≤ limits.payload = subst (λ (p : Part A). length p.payload ≤ limits.payload) is.part_is is.fits in
    let stands = stands_named names frame.header is.head is.header.reads in
    let params = params_named names is.head.params in
    let head : Head A = record { kind = is.head.kind; id = is.head.id; params = params } in
    let header = header_bytes is.head.kind is.head.id params in
    let size = header_small header head stands.header in
    let own = header_length header head stands.header in
    let given = header_length frame.header is.head is.header.reads in
    let less = weight_filter (is_named names) is.head.params in
    let body = payload_short A limits frame.pieces payload is.each refl in
    let a = length-append (sized header) (payload_bytes payload) in
    let b = length-append (sized frame.header) (flat_map piece_bytes frame.pieces ++ closing) in
    let d = length-append (flat_map piece_bytes frame.pieces) closing in
    let e = sized_length header in
    let f = sized_length frame.header in
    record {
      frames = record {
        head = head;
        header = record { some = size.0; small = size.1; reads = stands.header };
        each = are_pieces A limits payload (omega (arith, fits, allowed.payload.1));
        part_is = ap (λ (x : List ℕ). part_of head x) (data_is payload);
        fits = fits;
      };
      short = omega (arith, own, given, less, body, a, b, d, e, f);
    })

-- ---- all parts

record AreShortFrames {A : Type 0} (limits : Limits) (frames : List Frame) (parts kept : List (Part A)) : Type 0 where
  are : AreFrames limits (map plain_frame kept) kept
  few : length kept ≤ length parts
  short : length (flat_map plain_bytes kept) ≤ length (flat_map frame_bytes frames)

kept_frames : {A : Type 0} (limits : Limits) (frames : List Frame) (parts : List (Part A)) → IsAllowed limits
    → AreFrames limits frames parts → AreShortFrames limits frames parts (canonical_parts parts)
kept_frames limits [] [] allowed are = record { are = tt; few = omega arith; short = omega arith }
kept_frames limits [] (part ∷ parts) allowed are = absurd are
kept_frames limits (frame ∷ frames) [] allowed are = absurd are
kept_frames {A} limits (frame ∷ frames) (part ∷ parts) allowed are =
    by (names_by (support_of part)) (kept_frames limits frames parts allowed are.1)
  where
    by : (kept : Option (List (List ℕ))) → AreShortFrames limits frames parts (canonical_parts parts)
        → AreShortFrames limits (frame ∷ frames) (part ∷ parts)
        (cons_option (option_map (with_params_named part) kept) (canonical_parts parts))
    by None rest =
        let more = length-append (frame_bytes frame) (flat_map frame_bytes frames) in
        record {
          are = rest.are;
          few = omega (arith, rest.few);
          short = omega (arith, rest.short, more);
        }
    by (Some names) rest =
        let one = kept_frame limits frame part names allowed are.0 in
        let a = length-append (frame_bytes frame) (flat_map frame_bytes frames) in
        let b = length-append (plain_bytes (with_params_named part names)) (flat_map plain_bytes (canonical_parts parts)) in
        record {
          are = (one.frames, rest.are);
          few = omega (arith, rest.few);
          short = omega (arith, rest.short, one.short, a, b);
        }

-- ---- the bundle

no_params : {A : Type 0} → AreStreamParams {A = A} [] []
unfolding pieces
no_params = record { sound = refl; says = refl }

pub canonical_bundle : {A : Type 0} (limits : Limits) (bytes : List ℕ) (parts : List (Part A)) → IsAllowed limits
    → IsBundle limits bytes parts → IsBundle limits (canonical_bytes parts) (canonical_parts parts)
canonical_bundle {A} limits bytes parts allowed bundle =
    let has = bundle.0.has in
    let kept = canonical_parts parts in
    let frames = kept_frames limits has.frames parts allowed has.are in
    let front = magic ++ sized [] in
    let body = flat_map plain_bytes kept in
    let a = length-append front (body ++ closing) in
    let b = length-append body closing in
    let d = ap length bundle.0.spelled in
    let e = length-append bundle.0.front closing in
    let f = ap length has.spelled in
    let g = length-append (magic ++ sized has.block) (flat_map frame_bytes has.frames) in
    let h = length-append magic (sized has.block) in
    let i = sized_length has.block in (
      record {
        front = front ++ body;
        has = record {
          block = [];
          params = [];
          frames = map plain_frame kept;
          block_fits = omega arith;
          block_small = omega arith;
          block_read = no_params;
          are = frames.are;
          few = omega (arith, frames.few, has.few);
          spelled = ap (λ (l : List ℕ). front ++ l) (plain_spelled kept);
        };
        spelled = sym (append_assoc front body closing);
      },
      omega (arith, bundle.1, frames.short, a, b, d, e, f, g, h, i),
    )
