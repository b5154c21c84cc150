-- Two readings of the same bytes are one.
use Rattle.std.proofs.Common.{◌≡◌, ℕ, ◌<◌, ◌^◌, List, [], ◌∷◌, ◌++◌, length, refl, sym, ap, ◌∙◌, append_assoc}
use Rattle.std.proofs.Common.{arith}
use Rattle.std.specs.Prelude.{pos, negsuc}
use Rattle.std.specs.List.{flat_map, AllByRecursion}
use Rattle.std.specs.Int.{w32, cast_unsigned}
use Rattle.std.proofs.lemmas.Int.{ints}
use Rattle.std.proofs.lemmas.List.{length-append}
use Rattle.hg_chunks.proofs.Sizes.{fronts, size_is}
use Rattle.hg_chunks.specs.Size.{size_bytes}
use Rattle.hg_chunks.specs.Payload.{Item, Chunk, Interruption, item_bytes, item_data, IsItem, IsChunk}
use Rattle.hg_chunks.specs.Payload.{IsPayload, chunk_bytes, closing}
use Rattle.hg_chunks.specs.Reading.{IsStopped, partial_size, partial_chunk, closes, bad_size, ReadsItems}

-- the chunks at the fronts are one
chunk_is : (c d x y : List ℕ) → IsChunk c → IsChunk d → chunk_bytes c ++ x ≡ chunk_bytes d ++ y → (c ≡ d)
    × (x ≡ y)
chunk_is c d x y ic id same =
    let grouped : size_bytes (pos (length c)) ++ (c ++ x) ≡ size_bytes (pos (length d))
    ++ (d ++ y) = sym (append_assoc (size_bytes (pos (length c))) c x) ∙ same
    ∙ append_assoc (size_bytes (pos (length d))) d y in
    let fc : length c < 2 ^ 32 = omega (arith, ic.1) in
    let fd : length d < 2 ^ 32 = omega (arith, id.1) in
    let sizes = size_is (pos (length c)) (pos (length d)) (c ++ x) (d ++ y) fc fd grouped in
    let len : length c ≡ length d = sizes.0 in
    fronts c d x y len sizes.1

-- a chunk is no interruption
not_chunk : (c x y : List ℕ) → IsChunk c → chunk_bytes c ++ x ≡ size_bytes (negsuc 0) ++ y → ⊥
not_chunk c x y ic same =
    let grouped : size_bytes (pos (length c)) ++ (c ++ x) ≡ size_bytes (negsuc 0)
    ++ y = sym (append_assoc (size_bytes (pos (length c))) c x) ∙ same in
    let fc : length c < 2 ^ 32 = omega (arith, ic.1) in
    let sizes = size_is (pos (length c)) (negsuc 0) (c ++ x) y fc (omega arith) grouped in
    let is : length c ≡ 4294967295 = sizes.0 in
    omega (arith, is, ic.1)

-- no whole item stands at the front of such a rest
stopped_chunk : (c x rest : List ℕ) → IsChunk c → IsStopped rest → chunk_bytes c ++ x ≡ rest → ⊥
stopped_chunk c x rest ic (partial_size short) same =
    let len : length (chunk_bytes c ++ x) ≡ length rest = ap length same in
    omega (arith, len, short, length-append (chunk_bytes c) x, length-append (size_bytes (pos (length c))) c)
stopped_chunk c x rest ic (partial_chunk size part small spelled less) same =
    let grouped : size_bytes (pos (length c)) ++ (c ++ x) ≡ size_bytes (pos size)
    ++ part = sym (append_assoc (size_bytes (pos (length c))) c x) ∙ same ∙ spelled in
    let fc : length c < 2 ^ 32 = omega (arith, ic.1) in
    let fs : size < 2 ^ 32 = omega (arith, small) in
    let sizes = size_is (pos (length c)) (pos size) (c ++ x) part fc fs grouped in
    let len : length c ≡ size = sizes.0 in
    let all : length (c ++ x) ≡ length part = ap length sizes.1 in
    omega (arith, len, all, less, length-append c x)
stopped_chunk c x rest ic (closes more spelled) same =
    let grouped : size_bytes (pos (length c)) ++ (c ++ x) ≡ size_bytes (pos 0)
    ++ more = sym (append_assoc (size_bytes (pos (length c))) c x) ∙ same ∙ spelled in
    let fc : length c < 2 ^ 32 = omega (arith, ic.1) in
    let sizes = size_is (pos (length c)) (pos 0) (c ++ x) more fc (omega arith) grouped in
    let none : length c ≡ 0 = sizes.0 in
    omega (arith, none, ic.0)
stopped_chunk c x rest ic (bad_size size more some small spelled) same =
    let grouped : size_bytes (pos (length c)) ++ (c ++ x) ≡ size_bytes (negsuc size)
    ++ more = sym (append_assoc (size_bytes (pos (length c))) c x) ∙ same ∙ spelled in
    let fc : length c < 2 ^ 32 = omega (arith, ic.1) in
    let fs : cast_unsigned w32 (negsuc size) < 2 ^ 32 = omega (arith, ints) in
    let sizes = size_is (pos (length c)) (negsuc size) (c ++ x) more fc fs grouped in
    omega (arith, ints, sizes.0, ic.1, small)

stopped_pause : (x rest : List ℕ) → IsStopped rest → size_bytes (negsuc 0) ++ x ≡ rest → ⊥
stopped_pause x rest (partial_size short) same =
    let len : length (size_bytes (negsuc 0) ++ x) ≡ length rest = ap length same in
    omega (arith, len, short, length-append (size_bytes (negsuc 0)) x)
stopped_pause x rest (partial_chunk size part small spelled less) same =
    let fs : size < 2 ^ 32 = omega (arith, small) in
    let sizes = size_is (negsuc 0) (pos size) x part (omega arith) fs (same ∙ spelled) in
    omega (arith, ints, sizes.0, small)
stopped_pause x rest (closes more spelled) same =
    let sizes = size_is (negsuc 0) (pos 0) x more (omega arith) (omega arith) (same ∙ spelled) in
    omega (arith, ints, sizes.0)
stopped_pause x rest (bad_size size more some small spelled) same =
    let fs : cast_unsigned w32 (negsuc size) < 2 ^ 32 = omega (arith, ints) in
    let sizes = size_is (negsuc 0) (negsuc size) x more (omega arith) fs (same ∙ spelled) in
    omega (arith, ints, sizes.0, some, small)

abbrev all_bytes : List Item → List ℕ
all_bytes items = flat_map item_bytes items

one : (a b : List Item) (x y : List ℕ) → AllByRecursion IsItem a → AllByRecursion IsItem b → IsStopped x
    → IsStopped y → all_bytes a ++ x ≡ all_bytes b ++ y → (a ≡ b) × (x ≡ y)
one [] [] x y ia ib sx sy same = (refl, same)
one [] (Chunk d ∷ b) x y ia ib sx sy same =
    absurd (stopped_chunk d (all_bytes b ++ y) x ib.0 sx
    (sym (same ∙ append_assoc (chunk_bytes d) (all_bytes b) y)))
one [] (Interruption ∷ b) x y ia ib sx sy same =
    absurd (stopped_pause (all_bytes b ++ y) x sx
    (sym (same ∙ append_assoc (size_bytes (negsuc 0)) (all_bytes b) y)))
one (Chunk c ∷ a) [] x y ia ib sx sy same =
    absurd (stopped_chunk c (all_bytes a ++ x) y ia.0 sy (sym (append_assoc (chunk_bytes c) (all_bytes a) x)
    ∙ same))
one (Interruption ∷ a) [] x y ia ib sx sy same =
    absurd (stopped_pause (all_bytes a ++ x) y sy (sym (append_assoc (size_bytes (negsuc 0)) (all_bytes a) x)
    ∙ same))
one (Chunk c ∷ a) (Chunk d ∷ b) x y ia ib sx sy same =
    let first = chunk_is c d (all_bytes a ++ x) (all_bytes b ++ y) ia.0 ib.0
    (sym (append_assoc (chunk_bytes c) (all_bytes a) x) ∙ same
    ∙ append_assoc (chunk_bytes d) (all_bytes b) y) in
    let others = one a b x y ia.1 ib.1 sx sy first.1 in
    let heads : c ≡ d = first.0 in
    let tails : a ≡ b = others.0 in
    (cc, others.1)
one (Chunk c ∷ a) (Interruption ∷ b) x y ia ib sx sy same =
    absurd (not_chunk c (all_bytes a ++ x) (all_bytes b ++ y) ia.0
    (sym (append_assoc (chunk_bytes c) (all_bytes a) x) ∙ same
    ∙ append_assoc (size_bytes (negsuc 0)) (all_bytes b) y))
one (Interruption ∷ a) (Chunk d ∷ b) x y ia ib sx sy same =
    absurd (not_chunk d (all_bytes b ++ y) (all_bytes a ++ x) ib.0
    (sym (sym (append_assoc (size_bytes (negsuc 0)) (all_bytes a) x) ∙ same
    ∙ append_assoc (chunk_bytes d) (all_bytes b) y)))
one (Interruption ∷ a) (Interruption ∷ b) x y ia ib sx sy same =
    let first = fronts (size_bytes (negsuc 0)) (size_bytes (negsuc 0)) (all_bytes a ++ x) (all_bytes b
    ++ y) refl (sym (append_assoc (size_bytes (negsuc 0)) (all_bytes a) x) ∙ same
    ∙ append_assoc (size_bytes (negsuc 0)) (all_bytes b) y) in
    let others = one a b x y ia.1 ib.1 sx sy first.1 in
    let tails : a ≡ b = others.0 in
    (cc, others.1)

-- Bytes are read in one way.
pub one_reading_lem : (bytes : List ℕ) (a b : List Item) (x y : List ℕ) → ReadsItems bytes a x → ReadsItems bytes b y
    → (a ≡ b) × (x ≡ y)
one_reading_lem bytes a b x y p q = one a b x y p.each q.each p.stopped q.stopped (sym p.spelled ∙ q.spelled)

-- A whole payload at the front of a list is one payload, with one data.
pub one_payload_lem : (a b x y : List ℕ) (first second : List ℕ) → IsPayload a first → IsPayload b second → a
    ++ x ≡ b ++ y → (a ≡ b) × (first ≡ second) × (x ≡ y)
one_payload_lem a b x y first second p q same =
    let grouped : all_bytes p.items ++ (closing ++ x) ≡ all_bytes q.items
    ++ (closing ++ y) = sym (append_assoc (all_bytes p.items) closing x)
    ∙ ap (λ (bytes : List ℕ). bytes ++ x) (sym p.spelled) ∙ same
    ∙ ap (λ (bytes : List ℕ). bytes ++ y) q.spelled ∙ append_assoc (all_bytes q.items) closing y in
    let read = one p.items q.items (closing ++ x) (closing ++ y) p.each q.each (closes x refl)
    (closes y refl) grouped in
    let ends = fronts closing closing x y refl read.1 in (
      p.spelled ∙ ap (λ (items : List Item). all_bytes items ++ closing) read.0 ∙ sym q.spelled,
      p.joins ∙ ap (λ (items : List Item). flat_map item_data items) read.0 ∙ sym q.joins,
      ends.1,
    )
