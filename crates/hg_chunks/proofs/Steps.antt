-- What one step of a payload's reader takes.
use Rattle.std.proofs.Common.{◌≡◌, true, false, take, drop, ◌-◌, ℕ, zero, suc, ◌+◌, ◌<◌, ◌≤◌, ◌^◌, List, []}
use Rattle.std.proofs.Common.{◌∷◌, ◌++◌, length, refl, sym, ap, ◌∙◌, append_assoc, arith, inl, inr}
use Rattle.std.specs.Prelude.{ℤ, pos, negsuc}
use Rattle.std.specs.List.{flat_map, AllByRecursion}
use Rattle.std.specs.Int.{w32, is_negative}
use mir.Val.{to_z, of_z}
use lib.IntN.{nat_abs}
use Rattle.std.specs.Int.RustNames.{FitsSigned}
use Rattle.std.proofs.lemmas.Int.{ints}
use Rattle.std.proofs.lemmas.List.{append-nil, length-append}
use Rattle.std.proofs.lemmas.Grind.{flat_map-append}
use Rattle.std.proofs.Math.Seq.{take-add}
use Rattle.hg_chunks.specs.declared.fault.ChunkFault.{ChunkFault}
use Rattle.hg_chunks.specs.declared.fault.ChunkFault.TheVariants.{BadSize, TooLarge, NoMemory}
use Rattle.hg_chunks.specs.declared.fault.Step.{Step}
use Rattle.hg_chunks.specs.declared.fault.Step.TheVariants.{More}
use Rattle.hg_chunks.specs.declared.payload.Stage.TheVariants as stage
use Rattle.hg_chunks.specs.declared.payload.Left.{Left}
use Rattle.hg_chunks.specs.declared.payload.PayloadIn.{PayloadIn}
use Rattle.hg_chunks.specs.Size.{size_bytes}
use Rattle.hg_chunks.specs.Payload.{chunk_bytes, IsChunk, IsOpen, IsPartialChunk, IsBadSize, IsTooLarge}
use Rattle.hg_chunks.specs.PayloadIn.{HasTakenItems, IsInside, IsFault, TakesChunks, StopsWithin, FailsWithin}

-- ---- nothing whole was taken

pub waits : {A : Type 0} → (p : PayloadIn A) (whole rest bytes : List ℕ) → HasTakenItems p whole (rest ++ bytes)
    → IsOpen p.limit whole (rest ++ bytes) → StopsWithin More p whole rest bytes
waits p whole rest bytes holds goes_on = (
  [],
  [],
  rest ++ bytes,
  record { spelled = refl; each = tt; holds = rw append-nil holds },
  (refl, rw append-nil goes_on),
)

pub breaks : {A : Type 0} → (fault : ChunkFault) (p : PayloadIn A) (whole rest bytes : List ℕ)
    → HasTakenItems p whole (rest ++ bytes) → IsFault fault p.limit whole (rest ++ bytes)
    → FailsWithin fault p whole rest bytes
breaks fault p whole rest bytes holds wrong = (
  [],
  rest ++ bytes,
  record { spelled = refl; each = tt; holds = rw append-nil holds },
  rw append-nil wrong,
)

-- a fault stays
pub still_broken : {A : Type 0} → (p : PayloadIn A) (fault : ChunkFault) (whole rest : List ℕ)
    → p.stage ≡ stage.Failed fault → HasTakenItems p whole rest → FailsWithin fault p whole rest []
still_broken p fault whole rest failed holds =
    let wrong : IsFault fault p.limit whole rest = rw failed at holds.2 in
    breaks fault p whole rest [] (rw append-nil holds) (rw append-nil wrong)

-- ---- a byte of a size

pub no_true : false ≡ true → ⊥
no_true e = cc

pub short_more : (old new : List ℕ) (b : ℕ) → length old < 4 → (length old ≡ 3 → ⊥) → new ≡ old ++ b ∷ []
    → length new < 4
short_more old new b short other e = rw e (omega (arith, short, other, length-append old (b ∷ [])))

pub size_waits : {A : Type 0} → (p q : PayloadIn A) (byte : ℕ) (whole rest : List ℕ) → p.stage ≡ stage.Size
    → q.stage ≡ p.stage → q.limit ≡ p.limit → q.«data».items ≡ p.«data».items
    → q.size ≡ p.size ++ byte ∷ [] → length q.size < 4 → HasTakenItems p whole rest
    → StopsWithin More q whole rest (byte ∷ [])
size_waits p q byte whole rest at_size same_stage same_limit same_data size short holds =
    let at : (p.«data».items ≡ whole) × (rest ≡ p.size) = rw at_size at holds.2 in
    let now : rest ++ byte ∷ [] ≡ q.size = rw (at.1, size) refl in
    let short_now : length (rest ++ byte ∷ []) < 4 = rw now short in
    waits q whole rest (byte ∷ [])
    (rw same_limit holds.0, short, rw (same_stage ∙ at_size) (same_data ∙ at.0, now)) (inl short_now)

neg_size : (z : ℤ) → is_negative z ≡ true → (z ≡ negsuc 0 → ⊥) → FitsSigned w32 z → (n : ℕ)
    × (z ≡ negsuc (n + 1)) × (n + 1 < 2 ^ 31)
neg_size (pos n) lt ne fits = absurd (grind (arith, ints))
neg_size (negsuc zero) lt ne fits = absurd (ne refl)
neg_size (negsuc (suc n)) lt ne fits = (n, ap negsuc (omega arith), omega (arith, ints))

pub pos_size : (z : ℤ) → is_negative z ≡ false → (z ≡ pos 0 → ⊥) → FitsSigned w32 z → (n : ℕ) × (z ≡ pos n)
    × (0 < n) × (n < 2 ^ 31)
pos_size (pos zero) le ne fits = absurd (ne refl)
pos_size (pos (suc n)) le ne fits = (suc n, refl, omega arith, omega (arith, ints))
pos_size (negsuc n) le ne fits = absurd (no_true (sym le))

-- `size as usize`
pub abs_size : (z : ℤ) → FitsSigned w32 z → is_negative z ≡ false → z ≡ pos (nat_abs (to_z w32 (of_z w32 z)))
abs_size (pos n) fits at = ap pos (omega (arith, ints))
abs_size (negsuc n) fits at = absurd (no_true (sym at))

-- a size is whole now
pub size_ends : {A : Type 0} → (p : PayloadIn A) (byte : ℕ) (z : ℤ) (whole rest : List ℕ)
    → p.stage ≡ stage.Size → p.size ++ byte ∷ [] ≡ size_bytes z → HasTakenItems p whole rest
    → (p.«data».items ≡ whole) × (rest ++ byte ∷ [] ≡ size_bytes z)
size_ends p byte z whole rest at_size size holds =
    let at : (p.«data».items ≡ whole) × (rest ≡ p.size) = rw at_size at holds.2 in
    (at.0, rw at.1 size)

pub bad_size : {A : Type 0} → (p q : PayloadIn A) (byte : ℕ) (z : ℤ) (whole rest : List ℕ)
    → p.stage ≡ stage.Size → q.stage ≡ stage.Failed BadSize → q.limit ≡ p.limit → q.size ≡ []
    → p.size ++ byte ∷ [] ≡ size_bytes z → is_negative z ≡ true → (z ≡ negsuc 0 → ⊥) → FitsSigned w32 z
    → HasTakenItems p whole rest → FailsWithin BadSize q whole rest (byte ∷ [])
bad_size p q byte z whole rest at_size failed same_limit empty size negative other fits holds =
    let ended = size_ends p byte z whole rest at_size size holds in
    let n = neg_size z negative other fits in
    let wrong : IsBadSize (rest ++ byte ∷ []) = record {
      size = n.0;
      spelled = ended.1
          ∙ ap size_bytes n.1;
      small = n.2;
    } in
    breaks BadSize q whole rest (byte ∷ []) (rw same_limit holds.0, rw empty (omega arith), rw failed wrong)
    wrong

pub too_large : {A : Type 0} → (p q : PayloadIn A) (byte : ℕ) (z : ℤ) (whole rest : List ℕ)
    → p.stage ≡ stage.Size → q.stage ≡ stage.Failed TooLarge → q.limit ≡ p.limit → q.size ≡ []
    → p.size ++ byte ∷ [] ≡ size_bytes z → is_negative z ≡ false → (z ≡ pos 0 → ⊥) → FitsSigned w32 z
    → ((n : ℕ) → z ≡ pos n → p.limit < length p.«data».items + n)
    → HasTakenItems p whole rest → FailsWithin TooLarge q whole rest (byte ∷ [])
too_large p q byte z whole rest at_size failed same_limit empty size natural nonzero fits passes holds =
    let ended = size_ends p byte z whole rest at_size size holds in
    let n = pos_size z natural nonzero fits in
    let over : q.limit < length whole + n.0 = rw (same_limit, ← ended.0) (passes n.0 n.1) in
    let wrong : IsTooLarge q.limit whole (rest ++ byte ∷ []) = record {
      size = n.0;
      positive = n.2;
      small = n.3;
      passes = over;
      spelled = ended.1 ∙ ap size_bytes n.1;
    } in
    breaks TooLarge q whole rest (byte ∷ []) (rw same_limit holds.0, rw empty (omega arith), rw failed wrong)
    wrong

pub chunk_starts : {A : Type 0} → (p q : PayloadIn A) (byte : ℕ) (z : ℤ) (whole rest : List ℕ) (left : Left)
    → p.stage ≡ stage.Size → q.stage ≡ stage.Chunk left → q.limit ≡ p.limit → q.size ≡ []
    → q.«data».items ≡ p.«data».items → p.size ++ byte ∷ [] ≡ size_bytes z → z ≡ pos left.bytes
    → left.bytes < 2 ^ 31 → length p.«data».items + left.bytes ≤ p.limit
    → HasTakenItems p whole rest → StopsWithin More q whole rest (byte ∷ [])
chunk_starts p q byte z whole rest left at_size inside same_limit empty same_data size is small fits holds =
    let ended = size_ends p byte z whole rest at_size size holds in
    let spelled : rest ++ byte ∷ [] ≡ size_bytes (pos left.bytes) ++ [] = ended.1 ∙ ap size_bytes is
    ∙ sym (append-nil (size_bytes (pos left.bytes))) in
    let allowed : length whole + left.bytes ≤ q.limit = rw (same_limit, ← ended.0) fits in
    let here : IsInside q.limit q.«data».items whole (rest ++ byte ∷ []) left.bytes = record {
      part = [];
      size = left.bytes;
      left_positive = left.some;
      sum = omega arith;
      small = small;
      allowed = allowed;
      spelled = spelled;
      got_is = same_data ∙ ended.0 ∙ sym (append-nil whole);
    } in
    let goes_on : IsPartialChunk q.limit whole (rest ++ byte ∷ []) = record {
      size = left.bytes;
      part = [];
      positive = left.some;
      small = small;
      allowed = allowed;
      spelled = spelled;
      less = left.some;
    } in
    waits q whole rest (byte ∷ []) (rw same_limit holds.0, rw empty (omega arith), rw inside (empty, here))
    (inr goes_on)

-- ---- bytes of a chunk

pub data_waits : {A : Type 0} → (p q : PayloadIn A) (bytes whole rest : List ℕ) (left after : Left)
    → p.stage ≡ stage.Chunk left → q.stage ≡ stage.Chunk after → q.limit ≡ p.limit → q.size ≡ p.size
    → q.«data».items ≡ p.«data».items ++ bytes → length bytes + after.bytes ≡ left.bytes → HasTakenItems p whole rest
    → StopsWithin More q whole rest bytes
data_waits p q bytes whole rest left after at_chunk inside same_limit same_size got sum holds =
    let at : (p.size ≡ []) × IsInside p.limit p.«data».items whole rest left.bytes = rw at_chunk at holds.2 in
    let i = at.1 in
    let spelled : rest ++ bytes ≡ size_bytes (pos i.size)
    ++ (i.part ++ bytes) = ap (λ (x : List ℕ). x ++ bytes) i.spelled
    ∙ append_assoc (size_bytes (pos i.size)) i.part bytes in
    let sum_now : length (i.part ++ bytes) + after.bytes ≡ i.size = omega
    (arith, i.sum, length-append i.part bytes) in
    let here : IsInside q.limit q.«data».items whole (rest ++ bytes) after.bytes = record {
      part = i.part ++ bytes;
      size = i.size;
      left_positive = after.some;
      sum = sum_now;
      small = i.small;
      allowed = rw same_limit i.allowed;
      spelled = spelled;
      got_is = got ∙ ap (λ (x : List ℕ). x ++ bytes) i.got_is ∙ append_assoc whole i.part bytes;
    } in
    let goes_on : IsPartialChunk q.limit whole (rest ++ bytes) = record {
      size = i.size;
      part = i.part
          ++ bytes;
      positive = omega (arith, i.left_positive, i.sum);
      small = i.small;
      allowed = rw same_limit i.allowed;
      spelled = spelled;
      less = omega (arith, sum_now, after.some);
    } in
    waits q whole rest bytes (rw same_limit holds.0, rw same_size holds.1, rw inside (same_size ∙ at.0, here))
    (inr goes_on)

-- inside a chunk the payload may go on
pub open_inside : (limit : ℕ) (got whole rest : List ℕ) (left : ℕ) → IsInside limit got whole rest left
    → IsOpen limit whole rest
open_inside limit got whole rest left i =
    inr (record {
      size = i.size;
      part = i.part;
      positive = omega (arith, i.left_positive, i.sum);
      small = i.small;
      allowed = i.allowed;
      spelled = i.spelled;
      less = omega (arith, i.sum, i.left_positive);
    })

-- memory was refused
pub data_refused : {A : Type 0} → (p q : PayloadIn A) (whole rest : List ℕ) (left : Left)
    → p.stage ≡ stage.Chunk left → q.stage ≡ stage.Failed NoMemory → q.limit ≡ p.limit → q.size ≡ p.size
    → HasTakenItems p whole rest → FailsWithin NoMemory q whole rest []
data_refused p q whole rest left at_chunk failed same_limit same_size holds =
    let at : (p.size ≡ []) × IsInside p.limit p.«data».items whole rest left.bytes = rw at_chunk at holds.2 in
    let goes_on : IsOpen q.limit whole (rest ++ []) = rw (same_limit, append-nil)
    (open_inside p.limit p.«data».items whole rest left.bytes at.1) in
    breaks NoMemory q whole rest [] (rw same_limit holds.0, rw same_size holds.1, rw failed goes_on) goes_on

-- the chunk is whole now
pub data_ends : {A : Type 0} → (p q : PayloadIn A) (bytes whole rest : List ℕ) (left : Left)
    → p.stage ≡ stage.Chunk left → q.stage ≡ stage.Size → q.limit ≡ p.limit → q.size ≡ p.size
    → q.«data».items ≡ p.«data».items ++ bytes → length bytes ≡ left.bytes → HasTakenItems p whole rest
    → StopsWithin More q whole rest bytes
data_ends p q bytes whole rest left at_chunk at_size same_limit same_size got sum holds =
    let at : (p.size ≡ []) × IsInside p.limit p.«data».items whole rest left.bytes = rw at_chunk at holds.2 in
    let i = at.1 in
    let chunk : List ℕ = i.part ++ bytes in
    let len : length chunk ≡ i.size = omega (arith, i.sum, length-append i.part bytes) in
    let spelled : rest ++ bytes ≡ flat_map chunk_bytes (chunk ∷ [])
    ++ ([] ++ []) = ap (λ (x : List ℕ). x ++ bytes) i.spelled
    ∙ append_assoc (size_bytes (pos i.size)) i.part bytes
    ∙ ap (λ (n : ℕ). size_bytes (pos n) ++ chunk) (sym len) ∙ sym (append-nil (chunk_bytes chunk))
    ∙ sym (append-nil (chunk_bytes chunk ++ [])) in
    let joined : whole ++ flat_map (λ (c : List ℕ). c) (chunk ∷ []) ≡ whole
    ++ chunk = ap (λ (c : List ℕ). whole ++ c) (append-nil chunk) in
    let got_now : q.«data».items ≡ whole ++ flat_map (λ (c : List ℕ). c) (chunk ∷ []) = got
    ∙ ap (λ (x : List ℕ). x ++ bytes) i.got_is ∙ append_assoc whole i.part bytes ∙ sym joined in
    let fits : length (whole ++ flat_map (λ (c : List ℕ). c) (chunk ∷ [])) ≤ q.limit = rw (joined, same_limit)
    (omega (arith, i.allowed, len, length-append whole chunk)) in
    let empty : q.size ≡ [] = same_size ∙ at.0 in (
      chunk ∷ [],
      [],
      [],
      record {
        spelled = spelled;
        each = ((omega (arith, i.left_positive, i.sum, len), omega (arith, i.small, len)), tt);
        holds = (fits, rw empty (omega arith), rw at_size (got_now, sym empty));
      },
      (refl, inl (omega arith)),
    )

-- ---- one call after another

All-append : (xs ys : List (List ℕ)) → AllByRecursion IsChunk xs → AllByRecursion IsChunk ys
    → AllByRecursion IsChunk (xs ++ ys)
All-append [] ys hx hy = hy
All-append (x ∷ xs) ys hx hy = (hx.0, All-append xs ys hx.1 hy)

-- the chunks of two calls
pub Takes-then : {A : Type 0}
    → (p q : PayloadIn A) (whole rest a b after tail end : List ℕ) (first second : List (List ℕ))
    → TakesChunks p whole rest a [] after first
    → TakesChunks q (whole ++ flat_map (λ chunk. chunk) first) after b tail end second
    → TakesChunks q whole rest (a ++ b) tail end (first ++ second)
Takes-then p q whole rest a b after tail end first second s t =
    let joined : (whole ++ flat_map (λ (c : List ℕ). c) first) ++ flat_map (λ (c : List ℕ). c) second ≡ whole
    ++ flat_map (λ (c : List ℕ). c) (first ++ second) =
    append_assoc whole (flat_map (λ (c : List ℕ). c) first) (flat_map (λ (c : List ℕ). c) second)
    ∙ ap (λ (x : List ℕ). whole ++ x) (sym (flat_map-append (λ (c : List ℕ). c) first second)) in
    record {
      spelled = sym (append_assoc rest a b) ∙ ap (λ (x : List ℕ). x ++ b) s.spelled
          ∙ append_assoc (flat_map chunk_bytes first) after b
          ∙ ap (λ (x : List ℕ). flat_map chunk_bytes first ++ x) t.spelled
          ∙ sym (append_assoc (flat_map chunk_bytes first) (flat_map chunk_bytes second) (tail ++ end))
          ∙ ap (λ (x : List ℕ). x ++ (tail ++ end)) (sym (flat_map-append chunk_bytes first second));
      each = All-append first second s.each t.each;
      holds = rw (← joined) t.holds;
    }

joins : (whole : List ℕ) (first second : List (List ℕ)) → (whole ++ flat_map (λ chunk. chunk) first)
    ++ flat_map (λ chunk. chunk) second ≡ whole ++ flat_map (λ chunk. chunk) (first ++ second)
joins whole first second =
    append_assoc whole (flat_map (λ (c : List ℕ). c) first) (flat_map (λ (c : List ℕ). c) second)
    ∙ ap (λ (x : List ℕ). whole ++ x) (sym (flat_map-append (λ (c : List ℕ). c) first second))

pub Stops-then : {A : Type 0} → (step : Step) (p q : PayloadIn A) (whole rest a b : List ℕ)
    → StopsWithin More p whole rest a → ((w r : List ℕ) → HasTakenItems p w r → StopsWithin step q w r b)
    → StopsWithin step q whole rest (a ++ b)
Stops-then step p q whole rest a b s next =
    let t = next (whole ++ flat_map (λ (c : List ℕ). c) s.0) s.2 s.3.holds in
    let no_tail : s.1 ≡ [] = s.4.0 in
    let first : TakesChunks p whole rest a [] s.2 s.0 = rw no_tail at s.3 in (
      s.0 ++ t.0,
      t.1,
      t.2,
      Takes-then p q whole rest a b s.2 t.1 t.2 s.0 t.0 first t.3,
      rw (← joins whole s.0 t.0) t.4,
    )

pub Fails-then : {A : Type 0} → (fault : ChunkFault) (p q : PayloadIn A) (whole rest a b : List ℕ)
    → StopsWithin More p whole rest a → ((w r : List ℕ) → HasTakenItems p w r → FailsWithin fault q w r b)
    → FailsWithin fault q whole rest (a ++ b)
Fails-then fault p q whole rest a b s next =
    let t = next (whole ++ flat_map (λ (c : List ℕ). c) s.0) s.2 s.3.holds in
    let no_tail : s.1 ≡ [] = s.4.0 in
    let first : TakesChunks p whole rest a [] s.2 s.0 = rw no_tail at s.3 in (
      s.0 ++ t.0,
      t.1,
      Takes-then p q whole rest a b s.2 [] t.1 s.0 t.0 first t.2,
      rw (← joins whole s.0 t.0) t.3,
    )

-- the bytes of a slice, after those before it
pub take_range : (s : List ℕ) (i n : ℕ) → take (i + n) s ≡ take i s ++ take (i + n - i) (drop i s)
take_range s i n = let e : i + n - i ≡ n = omega arith in rw e (take-add i n s)
