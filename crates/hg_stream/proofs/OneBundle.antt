-- Bytes begin with one whole bundle at most.
use Rattle.std.proofs.Common.{◌≡◌, ℕ, ◌<◌, ◌^◌, List, [], ◌∷◌, ◌++◌, length, refl, sym, ap, ◌∙◌, append_assoc}
use Rattle.std.proofs.Common.{arith, subst}
use Rattle.std.specs.Prelude.{pos, negsuc}
use Rattle.std.specs.List.{flat_map, AllByRecursion}
use Rattle.std.proofs.lemmas.List.{length-append}
use Rattle.hg_types.specs.declared.limits.Limits.{Limits}
use Rattle.hg_types.specs.declared.part.Part.{Part}
use Rattle.hg_chunks.specs.Size.{size_bytes}
use Rattle.hg_chunks.specs.Payload.{chunk_bytes, IsChunk, interruption, closing}
use Rattle.hg_chunks.proofs.CallerLemmas.{fronts, size_is}
use Rattle.hg_params.specs.declared.head.Head.{Head}
use Rattle.hg_params.specs.Header.{IsHeader}
use Rattle.hg_params.proofs.CallerLemmas.{one_value}
use Rattle.hg_stream.specs.Block.{sized}
use Rattle.hg_stream.specs.Frames.{magic, Inner, Piece, Chunk, Pause, Break, inner_bytes, piece_bytes}
use Rattle.hg_stream.specs.Frames.{piece_data, IsInner, IsPiece, Frame, frame_bytes, part_of, IsFrame}
use Rattle.hg_stream.specs.Frames.{AreFrames, IsWhole}
use Rattle.hg_stream.specs.Laws.{AreReadInOneWay}

-- ---- blocks

-- the blocks at the fronts are one
block_is : (c d x y : List ℕ) → length c < 2 ^ 31 → length d < 2 ^ 31 → sized c ++ x ≡ sized d ++ y → (c ≡ d)
    × (x ≡ y)
block_is c d x y fc fd same =
    let grouped : size_bytes (pos (length c)) ++ (c ++ x) ≡ size_bytes (pos (length d))
    ++ (d ++ y) = sym (append_assoc (size_bytes (pos (length c))) c x) ∙ same
    ∙ append_assoc (size_bytes (pos (length d))) d y in
    let wc : length c < 2 ^ 32 = omega (arith, fc) in
    let wd : length d < 2 ^ 32 = omega (arith, fd) in
    let sizes = size_is (pos (length c)) (pos (length d)) (c ++ x) (d ++ y) wc wd grouped in
    let len : length c ≡ length d = sizes.0 in
    fronts c d x y len sizes.1

-- a block is no interruption
not_block : (c x y : List ℕ) → length c < 2 ^ 31 → sized c ++ x ≡ interruption ++ y → ⊥
not_block c x y fc same =
    let grouped : size_bytes (pos (length c)) ++ (c ++ x) ≡ size_bytes (negsuc 0)
    ++ y = sym (append_assoc (size_bytes (pos (length c))) c x) ∙ same in
    let wc : length c < 2 ^ 32 = omega (arith, fc) in
    let sizes = size_is (pos (length c)) (negsuc 0) (c ++ x) y wc (omega arith) grouped in
    let is : length c ≡ 4294967295 = sizes.0 in
    omega (arith, is, fc)

-- a block that is not empty is no end
not_end : (d x y : List ℕ) → 0 < length d → length d < 2 ^ 31 → closing ++ x ≡ sized d ++ y → ⊥
not_end d x y some fd same =
    let both = block_is [] d x y (omega arith) fd same in
    let len : 0 ≡ length d = ap length both.0 in
    omega (arith, len, some)

-- an interruption is no end
no_end : (x y : List ℕ) → closing ++ x ≡ interruption ++ y → ⊥
no_end x y same = not_block [] x y (omega arith) same

-- ---- chunks

abbrev chunks_bytes : List (List ℕ) → List ℕ
chunks_bytes chunks = flat_map chunk_bytes chunks

one_chunks : (a b : List (List ℕ)) (x y : List ℕ) → AllByRecursion IsChunk a → AllByRecursion IsChunk b
    → chunks_bytes a ++ (closing ++ x) ≡ chunks_bytes b ++ (closing ++ y) → (a ≡ b) × (x ≡ y)
one_chunks [] [] x y ia ib same = (refl, (fronts closing closing x y refl same).1)
one_chunks [] (d ∷ b) x y ia ib same =
    absurd (not_end d x (chunks_bytes b ++ (closing ++ y)) ib.0.0 ib.0.1 (same
    ∙ append_assoc (chunk_bytes d) (chunks_bytes b) (closing ++ y)))
one_chunks (c ∷ a) [] x y ia ib same =
    absurd (not_end c y (chunks_bytes a ++ (closing ++ x)) ia.0.0 ia.0.1 (sym same
    ∙ append_assoc (chunk_bytes c) (chunks_bytes a) (closing ++ x)))
one_chunks (c ∷ a) (d ∷ b) x y ia ib same =
    let first = block_is c d (chunks_bytes a ++ (closing ++ x)) (chunks_bytes b
    ++ (closing ++ y)) ia.0.1 ib.0.1
    (sym (append_assoc (chunk_bytes c) (chunks_bytes a) (closing ++ x)) ∙ same
    ∙ append_assoc (chunk_bytes d) (chunks_bytes b) (closing ++ y)) in
    let others = one_chunks a b x y ia.1 ib.1 first.1 in
    let heads : c ≡ d = first.0 in
    let tails : a ≡ b = others.0 in
    (cc, others.1)

-- ---- pieces

-- a block, a list, an end, and what follows
regroup : (h p x : List ℕ) → (h ++ (p ++ closing)) ++ x ≡ h ++ (p ++ (closing ++ x))
regroup h p x = append_assoc h (p ++ closing) x ∙ ap (λ (t : List ℕ). h ++ t) (append_assoc p closing x)

abbrev pieces_bytes : List Piece → List ℕ
pieces_bytes pieces = flat_map piece_bytes pieces

one_inner : (A : Type 0) (limits : Limits) (i j : Inner) (x y : List ℕ) → IsInner A limits i
    → IsInner A limits j → inner_bytes i ++ x ≡ inner_bytes j ++ y → (i ≡ j) × (x ≡ y)
one_inner A limits i j x y hi hj same =
    let first = block_is i.header j.header (chunks_bytes i.chunks ++ (closing ++ x)) (chunks_bytes j.chunks
    ++ (closing ++ y)) (omega (arith, hi.header.small)) (omega (arith, hj.header.small))
    (sym (regroup (sized i.header) (chunks_bytes i.chunks) x) ∙ same
    ∙ regroup (sized j.header) (chunks_bytes j.chunks) y) in
    let others = one_chunks i.chunks j.chunks x y hi.each hj.each first.1 in
    let inner : List ℕ → List (List ℕ) → Inner = λ h c. record { header = h; chunks = c } in (
      ap (λ (h : List ℕ). inner h i.chunks) first.0 ∙ ap (λ (c : List (List ℕ)). inner j.header c) others.0,
      others.1,
    )

inner_not_end : (A : Type 0) (limits : Limits) (i : Inner) (x y : List ℕ) → IsInner A limits i → closing
    ++ x ≡ inner_bytes i ++ y → ⊥
inner_not_end A limits i x y h same =
    not_end i.header x ((chunks_bytes i.chunks ++ closing) ++ y) h.header.some (omega (arith, h.header.small))
    (same ∙ append_assoc (sized i.header) (chunks_bytes i.chunks ++ closing) y)

-- what stands after an interruption, in two ways
behind_pause : (x y : List ℕ) → interruption ++ x ≡ interruption ++ y → x ≡ y
behind_pause x y same = (fronts interruption interruption x y refl same).1

one_piece : (A : Type 0) (limits : Limits) (p q : Piece) (x y : List ℕ) → IsPiece A limits p
    → IsPiece A limits q → piece_bytes p ++ x ≡ piece_bytes q ++ y → (p ≡ q) × (x ≡ y)
one_piece A limits (Chunk c) (Chunk d) x y ip iq same = let both = block_is c d x y ip.1 iq.1 same in
    (ap Chunk both.0, both.1)
one_piece A limits (Chunk c) Pause x y ip iq same =
    absurd (not_block c x (closing ++ y) ip.1 (same ∙ append_assoc interruption closing y))
one_piece A limits (Chunk c) (Break j) x y ip iq same =
    absurd (not_block c x (inner_bytes j ++ y) ip.1 (same ∙ append_assoc interruption (inner_bytes j) y))
one_piece A limits Pause (Chunk d) x y ip iq same =
    absurd (not_block d y (closing ++ x) iq.1 (sym same ∙ append_assoc interruption closing x))
one_piece A limits Pause Pause x y ip iq same =
    (refl, (fronts (interruption ++ closing) (interruption ++ closing) x y refl same).1)
one_piece A limits Pause (Break j) x y ip iq same =
    absurd (inner_not_end A limits j x y iq
    (behind_pause (closing ++ x) (inner_bytes j ++ y) (sym (append_assoc interruption closing x) ∙ same
    ∙ append_assoc interruption (inner_bytes j) y)))
one_piece A limits (Break i) (Chunk d) x y ip iq same =
    absurd (not_block d y (inner_bytes i ++ x) iq.1 (sym same ∙ append_assoc interruption (inner_bytes i) x))
one_piece A limits (Break i) Pause x y ip iq same =
    absurd (inner_not_end A limits i y x ip
    (behind_pause (closing ++ y) (inner_bytes i ++ x) (sym (append_assoc interruption closing y)
    ∙ sym same ∙ append_assoc interruption (inner_bytes i) x)))
one_piece A limits (Break i) (Break j) x y ip iq same =
    let both = one_inner A limits i j x y ip iq
    (behind_pause (inner_bytes i ++ x) (inner_bytes j ++ y)
    (sym (append_assoc interruption (inner_bytes i) x) ∙ same
    ∙ append_assoc interruption (inner_bytes j) y)) in
    (ap Break both.0, both.1)

piece_not_end : (A : Type 0) (limits : Limits) (p : Piece) (x y : List ℕ) → IsPiece A limits p → closing
    ++ x ≡ piece_bytes p ++ y → ⊥
piece_not_end A limits (Chunk d) x y is same = not_end d x y is.0 is.1 same
piece_not_end A limits Pause x y is same =
    no_end x (closing ++ y) (same ∙ append_assoc interruption closing y)
piece_not_end A limits (Break j) x y is same =
    no_end x (inner_bytes j ++ y) (same ∙ append_assoc interruption (inner_bytes j) y)

one_pieces : (A : Type 0) (limits : Limits) (a b : List Piece) (x y : List ℕ)
    → AllByRecursion (IsPiece A limits) a → AllByRecursion (IsPiece A limits) b
    → pieces_bytes a ++ (closing ++ x) ≡ pieces_bytes b ++ (closing ++ y) → (a ≡ b) × (x ≡ y)
one_pieces A limits [] [] x y ia ib same = (refl, (fronts closing closing x y refl same).1)
one_pieces A limits [] (q ∷ b) x y ia ib same =
    absurd (piece_not_end A limits q x (pieces_bytes b ++ (closing ++ y)) ib.0 (same
    ∙ append_assoc (piece_bytes q) (pieces_bytes b) (closing ++ y)))
one_pieces A limits (p ∷ a) [] x y ia ib same =
    absurd (piece_not_end A limits p y (pieces_bytes a ++ (closing ++ x)) ia.0 (sym same
    ∙ append_assoc (piece_bytes p) (pieces_bytes a) (closing ++ x)))
one_pieces A limits (p ∷ a) (q ∷ b) x y ia ib same =
    let first = one_piece A limits p q (pieces_bytes a ++ (closing ++ x)) (pieces_bytes b
    ++ (closing ++ y)) ia.0 ib.0
    (sym (append_assoc (piece_bytes p) (pieces_bytes a) (closing ++ x)) ∙ same
    ∙ append_assoc (piece_bytes q) (pieces_bytes b) (closing ++ y)) in
    let others = one_pieces A limits a b x y ia.1 ib.1 first.1 in
    let heads : p ≡ q = first.0 in
    let tails : a ≡ b = others.0 in
    (cc, others.1)

-- ---- frames

one_head : {A : Type 0} (a b : List ℕ) (first second : Head A) → a ≡ b → IsHeader a first → IsHeader b second
    → first ≡ second
one_head a b first second same ha hb = one_value b first second (subst (λ x. IsHeader x first) same ha) hb

one_frame : {A : Type 0} (limits : Limits) (f g : Frame) (p q : Part A) (x y : List ℕ) → IsFrame limits f p
    → IsFrame limits g q → frame_bytes f ++ x ≡ frame_bytes g ++ y → (p ≡ q) × (x ≡ y)
one_frame {A} limits f g p q x y hf hg same =
    let first = block_is f.header g.header (pieces_bytes f.pieces ++ (closing ++ x)) (pieces_bytes g.pieces
    ++ (closing ++ y)) (omega (arith, hf.header.small)) (omega (arith, hg.header.small))
    (sym (regroup (sized f.header) (pieces_bytes f.pieces) x) ∙ same
    ∙ regroup (sized g.header) (pieces_bytes g.pieces) y) in
    let others = one_pieces A limits f.pieces g.pieces x y hf.each hg.each first.1 in
    let heads = one_head f.header g.header hf.head hg.head first.0 hf.header.reads hg.header.reads in (
      hf.part_is ∙ ap (λ (h : Head A). part_of h (flat_map piece_data f.pieces)) heads
          ∙ ap (λ (ps : List Piece). part_of hg.head (flat_map piece_data ps)) others.0
          ∙ sym hg.part_is,
      others.1,
    )

abbrev frames_bytes : List Frame → List ℕ
frames_bytes frames = flat_map frame_bytes frames

frame_not_end : {A : Type 0} (limits : Limits) (f : Frame) (p : Part A) (x y : List ℕ) → IsFrame limits f p
    → closing ++ x ≡ frame_bytes f ++ y → ⊥
frame_not_end limits f p x y h same =
    not_end f.header x ((pieces_bytes f.pieces ++ closing) ++ y) h.header.some (omega (arith, h.header.small))
    (same ∙ append_assoc (sized f.header) (pieces_bytes f.pieces ++ closing) y)

one_frames : {A : Type 0} (limits : Limits) (fs gs : List Frame) (ps qs : List (Part A)) (x y : List ℕ)
    → AreFrames limits fs ps → AreFrames limits gs qs
    → frames_bytes fs ++ (closing ++ x) ≡ frames_bytes gs ++ (closing ++ y) → (ps ≡ qs) × (x ≡ y)
one_frames limits [] [] [] [] x y hf hg same = (refl, (fronts closing closing x y refl same).1)
one_frames limits [] gs (p ∷ ps) qs x y hf hg same = absurd hf
one_frames limits (f ∷ fs) gs [] qs x y hf hg same = absurd hf
one_frames limits fs [] ps (q ∷ qs) x y hf hg same = absurd hg
one_frames limits fs (g ∷ gs) ps [] x y hf hg same = absurd hg
one_frames limits [] (g ∷ gs) [] (q ∷ qs) x y hf hg same =
    absurd (frame_not_end limits g q x (frames_bytes gs ++ (closing ++ y)) hg.0 (same
    ∙ append_assoc (frame_bytes g) (frames_bytes gs) (closing ++ y)))
one_frames limits (f ∷ fs) [] (p ∷ ps) [] x y hf hg same =
    absurd (frame_not_end limits f p y (frames_bytes fs ++ (closing ++ x)) hf.0 (sym same
    ∙ append_assoc (frame_bytes f) (frames_bytes fs) (closing ++ x)))
one_frames limits (f ∷ fs) (g ∷ gs) (p ∷ ps) (q ∷ qs) x y hf hg same =
    let first = one_frame limits f g p q (frames_bytes fs ++ (closing ++ x)) (frames_bytes gs
    ++ (closing ++ y)) hf.0 hg.0
    (sym (append_assoc (frame_bytes f) (frames_bytes fs) (closing ++ x)) ∙ same
    ∙ append_assoc (frame_bytes g) (frames_bytes gs) (closing ++ y)) in
    let others = one_frames limits fs gs ps qs x y hf.1 hg.1 first.1 in
    let heads : p ≡ q = first.0 in
    let tails : ps ≡ qs = others.0 in
    (cc, others.1)

-- ---- bundles

-- a whole bundle and what follows, part by part
spelled_out : {A : Type 0} (limits : Limits) (bytes x : List ℕ) (parts : List (Part A))
    → (w : IsWhole limits bytes parts) → bytes ++ x ≡ magic
    ++ (sized w.has.block ++ (frames_bytes w.has.frames ++ (closing ++ x)))
spelled_out limits bytes x parts w =
    let start : List ℕ = magic ++ sized w.has.block in
    let all : List ℕ = frames_bytes w.has.frames in
    ap (λ (t : List ℕ). t ++ x) w.spelled ∙ append_assoc w.front closing x
    ∙ ap (λ (t : List ℕ). t ++ (closing ++ x)) w.has.spelled ∙ append_assoc start all (closing ++ x)
    ∙ append_assoc magic (sized w.has.block) (all ++ (closing ++ x))

-- bytes begin with one whole bundle at most
pub one_bundle : (A : Type 0) (limits : Limits) → AreReadInOneWay A limits
one_bundle A limits a b x y ps qs wa wb same =
    let all_a : List ℕ = frames_bytes wa.has.frames ++ (closing ++ x) in
    let all_b : List ℕ = frames_bytes wb.has.frames ++ (closing ++ y) in
    let behind = (fronts magic magic (sized wa.has.block ++ all_a) (sized wb.has.block ++ all_b) refl
    (sym (spelled_out limits a x ps wa) ∙ same ∙ spelled_out limits b y qs wb)).1 in
    let fa : length wa.has.block < 2 ^ 31 = wa.has.block_small in
    let fb : length wb.has.block < 2 ^ 31 = wb.has.block_small in
    let blocks = block_is wa.has.block wb.has.block all_a all_b fa fb behind in
    let read = one_frames limits wa.has.frames wb.has.frames ps qs x y wa.has.are wb.has.are blocks.1 in
    let sizes : length (a ++ x) ≡ length (b ++ y) = ap length same in
    let ends : length x ≡ length y = ap length read.1 in
    let len : length a ≡ length b = omega (arith, sizes, ends, length-append a x, length-append b y) in
    ((fronts a b x y len same).0, read.0, read.1)
