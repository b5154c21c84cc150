-- A place in a changegroup holds one chunk, or has one fault.
use Rattle.std.proofs.Common.{◌≡◌, ◌⊎◌, ℕ, ◌+◌, ◌^◌, ◌<◌, ◌≤◌, List, [], ◌∷◌, ◌++◌, length, refl, sym, ap}
use Rattle.std.proofs.Common.{subst, ◌∙◌, append_assoc, arith, inl, inr}
use Rattle.std.specs.Prelude.{ℤ, pos, negsuc}
use Rattle.std.specs.List.{AllByRecursion, flat_map}
use Rattle.std.specs.Int.{w32}
use Rattle.std.specs.Int.RustNames.{FitsSigned}
use Rattle.std.proofs.lemmas.Int.{ints}
use Rattle.std.proofs.lemmas.List.{length-append}
use Rattle.hg_cgroup.specs.declared.fault.GroupFault.{GroupFault}
use Rattle.hg_cgroup.specs.declared.fault.GroupFault.TheVariants.{UnknownVersion, BadLength, ShortHeader}
use Rattle.hg_cgroup.specs.declared.fault.GroupFault.TheVariants.{Truncated, Leftover, NoMemory}
use Rattle.hg_cgroup.specs.Chunk.{length_bytes, chunk_bytes, empty_chunk, IsContent, HasBadLength}
use Rattle.hg_cgroup.specs.Chunk.{HasShortContent, IsChunkFault}
use Rattle.hg_cgroup.proofs.Lengths.{length-length_bytes, length_first, fronts}

small_fits : (n : ℕ) → n < 2 ^ 31 → FitsSigned w32 (pos n)
small_fits n small = omega (arith, ints)

negative_fits : (n : ℕ) → n < 2 ^ 31 → FitsSigned w32 (negsuc n)
negative_fits n small = omega (arith, ints)

pos_once : (m n : ℕ) → pos m ≡ pos n → m ≡ n
pos_once m n same = cc

-- two lengths that are not negative, and what follows them
sizes_once : (m n : ℕ) (x y : List ℕ) → m < 2 ^ 31 → n < 2 ^ 31 → length_bytes (pos m)
    ++ x ≡ length_bytes (pos n) ++ y → (m ≡ n) × (x ≡ y)
sizes_once m n x y small_m small_n same =
    let both = length_first (pos m) (pos n) x y (small_fits m small_m) (small_fits n small_n) same in
    (pos_once m n both.0, both.1)

-- no length of a chunk is bad
good_length : (n : ℕ) (x : List ℕ) → n < 2 ^ 31 → (n ≡ 0) ⊎ (4 < n) → HasBadLength (length_bytes (pos n) ++ x)
    → ⊥
good_length n x small good bad =
    elim bad.bad as (λ _. ⊥) [
      | inl few ↦
          let spelled : length_bytes (pos n) ++ x ≡ length_bytes (pos few.0) ++ bad.more = bad.spelled
          ∙ ap (λ (z : ℤ). length_bytes z ++ bad.more) few.3 in
          let same = sizes_once n few.0 x bad.more small (omega (arith, few.2)) spelled in
          elim good as (λ _. ⊥) [
            | inl none ↦ omega (arith, none, same.0, few.1)
            | inr more ↦ omega (arith, more, same.0, few.2)
          ]
      | inr below ↦
          let spelled : length_bytes (pos n) ++ x ≡ length_bytes (negsuc below.0) ++ bad.more = bad.spelled
          ∙ ap (λ (z : ℤ). length_bytes z ++ bad.more) below.2 in
          let same = length_first (pos n) (negsuc below.0) x bad.more (small_fits n small)
          (negative_fits below.0 below.1) spelled in
          let other = same.0 in
          cc
    ]

-- the chunk's length, and what follows it
chunk_headed : (content x : List ℕ) → chunk_bytes content ++ x ≡ length_bytes (pos (length content + 4))
    ++ (content ++ x)
chunk_headed content x = append_assoc (length_bytes (pos (length content + 4))) content x

pub chunk_once : (a b x y : List ℕ) → IsContent a → IsContent b → chunk_bytes a ++ x ≡ chunk_bytes b ++ y
    → (a ≡ b) × (x ≡ y)
chunk_once a b x y is_a is_b same =
    let sizes = sizes_once (length a + 4) (length b + 4) (a ++ x) (b ++ y) is_a.fits is_b.fits
    (sym (chunk_headed a x) ∙ (same ∙ chunk_headed b y)) in
    fronts a b x y (omega (arith, sizes.0)) sizes.1

pub chunk_or_empty : (a x y : List ℕ) → IsContent a → chunk_bytes a ++ x ≡ empty_chunk ++ y → ⊥
chunk_or_empty a x y is same =
    let sizes = sizes_once (length a + 4) 0 (a ++ x) y is.fits (omega arith) (sym (chunk_headed a x)
    ∙ same) in
    omega (arith, sizes.0)

-- a chunk that is enough has no fault
pub chunk_or_fault : (fault : GroupFault) (least : ℕ) (a x : List ℕ) → IsContent a → least ≤ length a
    → IsChunkFault fault least (chunk_bytes a ++ x) → ⊥
chunk_or_fault UnknownVersion least a x is enough wrong = wrong
chunk_or_fault BadLength least a x is enough wrong =
    good_length (length a + 4) (a ++ x) is.fits (inr (omega (arith, is.some)))
    (subst HasBadLength (chunk_headed a x) wrong)
chunk_or_fault ShortHeader least a x is enough wrong =
    let sizes = sizes_once (length a + 4) (wrong.wanted + 4) (a ++ x) wrong.more is.fits wrong.fits
    (sym (chunk_headed a x) ∙ wrong.spelled) in
    omega (arith, sizes.0, wrong.short, enough)
chunk_or_fault Truncated least a x is enough (inl few) =
    omega (
      arith,
      few,
      length-append (chunk_bytes a) x,
      length-append (length_bytes (pos (length a + 4))) a,
      length-length_bytes (pos (length a + 4)),
    )
chunk_or_fault Truncated least a x is enough (inr wrong) =
    let sizes = sizes_once (length a + 4) (wrong.wanted + 4) (a ++ x) wrong.more is.fits wrong.fits
    (sym (chunk_headed a x) ∙ wrong.spelled) in
    omega (arith, sizes.0, wrong.less, ap length sizes.1, length-append a x)
chunk_or_fault Leftover least a x is enough wrong = wrong
chunk_or_fault NoMemory least a x is enough wrong = wrong

-- nor has an empty one
pub empty_or_fault : (fault : GroupFault) (least : ℕ) (x : List ℕ)
    → IsChunkFault fault least (empty_chunk ++ x) → ⊥
empty_or_fault UnknownVersion least x wrong = wrong
empty_or_fault BadLength least x wrong = good_length 0 x (omega arith) (inl refl) wrong
empty_or_fault ShortHeader least x wrong =
    let sizes = sizes_once 0 (wrong.wanted + 4) x wrong.more (omega arith) wrong.fits wrong.spelled in
    omega (arith, sizes.0)
empty_or_fault Truncated least x (inl few) =
    omega (arith, few, length-append empty_chunk x, length-length_bytes (pos 0))
empty_or_fault Truncated least x (inr wrong) =
    let sizes = sizes_once 0 (wrong.wanted + 4) x wrong.more (omega arith) wrong.fits wrong.spelled in
    omega (arith, sizes.0)
empty_or_fault Leftover least x wrong = wrong
empty_or_fault NoMemory least x wrong = wrong

-- ---- one fault

length_and : (z : ℤ) (x : List ℕ) (few : length (length_bytes z ++ x) < 4) → ⊥
length_and z x few = omega (arith, few, length-append (length_bytes z) x, length-length_bytes z)

bad_or_short : (least : ℕ) (x : List ℕ) → HasBadLength x → HasShortContent least x → ⊥
bad_or_short least x a b =
    good_length (b.wanted + 4) b.more b.fits (inr (omega (arith, b.some))) (subst HasBadLength b.spelled a)

bad_or_cut : (least : ℕ) (x : List ℕ) → HasBadLength x → IsChunkFault Truncated least x → ⊥
bad_or_cut least x a (inl few) = length_and a.size a.more (subst (λ (y : List ℕ). length y < 4) a.spelled few)
bad_or_cut least x a (inr b) =
    good_length (b.wanted + 4) b.more b.fits (inr (omega (arith, b.some))) (subst HasBadLength b.spelled a)

short_or_cut : (least : ℕ) (x : List ℕ) → HasShortContent least x → IsChunkFault Truncated least x → ⊥
short_or_cut least x a (inl few) =
    length_and (pos (a.wanted + 4)) a.more (subst (λ (y : List ℕ). length y < 4) a.spelled few)
short_or_cut least x a (inr b) =
    let sizes = sizes_once (a.wanted + 4) (b.wanted + 4) a.more b.more a.fits b.fits (sym a.spelled
    ∙ b.spelled) in
    omega (arith, sizes.0, a.short, b.enough)

pub fault_once : (f g : GroupFault) (least : ℕ) (x : List ℕ) → IsChunkFault f least x → IsChunkFault g least x
    → f ≡ g
fault_once UnknownVersion g least x a b = absurd a
fault_once Leftover g least x a b = absurd a
fault_once NoMemory g least x a b = absurd a
fault_once BadLength UnknownVersion least x a b = absurd b
fault_once BadLength BadLength least x a b = refl
fault_once BadLength ShortHeader least x a b = absurd (bad_or_short least x a b)
fault_once BadLength Truncated least x a b = absurd (bad_or_cut least x a b)
fault_once BadLength Leftover least x a b = absurd b
fault_once BadLength NoMemory least x a b = absurd b
fault_once ShortHeader UnknownVersion least x a b = absurd b
fault_once ShortHeader BadLength least x a b = absurd (bad_or_short least x b a)
fault_once ShortHeader ShortHeader least x a b = refl
fault_once ShortHeader Truncated least x a b = absurd (short_or_cut least x a b)
fault_once ShortHeader Leftover least x a b = absurd b
fault_once ShortHeader NoMemory least x a b = absurd b
fault_once Truncated UnknownVersion least x a b = absurd b
fault_once Truncated BadLength least x a b = absurd (bad_or_cut least x b a)
fault_once Truncated ShortHeader least x a b = absurd (short_or_cut least x b a)
fault_once Truncated Truncated least x a b = refl
fault_once Truncated Leftover least x a b = absurd b
fault_once Truncated NoMemory least x a b = absurd b

-- ---- chunk after chunk

-- no whole chunk that is enough stands there
abbrev pub Stops : ℕ → List ℕ → Type 0
Stops least x = ((more : List ℕ) × (x ≡ empty_chunk ++ more))
    ⊎ ((fault : GroupFault) × IsChunkFault fault least x)

abbrev pub IsEnough : ℕ → List ℕ → Type 0
IsEnough least content = IsContent content × (least ≤ length content)

pub not_chunk : (least : ℕ) (a x more : List ℕ) → IsEnough least a → x ≡ chunk_bytes a ++ more → Stops least x
    → ⊥
not_chunk least a x more is spelled (inl ended) = chunk_or_empty a more ended.0 is.0 (sym spelled ∙ ended.1)
not_chunk least a x more is spelled (inr broken) =
    chunk_or_fault broken.0 least a more is.0 is.1 (subst (IsChunkFault broken.0 least) spelled broken.1)

pub chunks_once : (least : ℕ) (heads bs : List (List ℕ)) (x y : List ℕ)
    → AllByRecursion (IsEnough least) heads → AllByRecursion (IsEnough least) bs → flat_map chunk_bytes heads
    ++ x ≡ flat_map chunk_bytes bs ++ y
    → Stops least x → Stops least y → (heads ≡ bs) × (x ≡ y)
chunks_once least [] [] x y all_a all_b same stop_x stop_y = (refl, same)
chunks_once least [] (b ∷ bs) x y all_a all_b same stop_x stop_y =
    absurd (not_chunk least b x (flat_map chunk_bytes bs ++ y) all_b.0 (same
    ∙ append_assoc (chunk_bytes b) (flat_map chunk_bytes bs) y) stop_x)
chunks_once least (a ∷ heads) [] x y all_a all_b same stop_x stop_y =
    absurd (not_chunk least a y (flat_map chunk_bytes heads ++ x) all_a.0 (sym same
    ∙ append_assoc (chunk_bytes a) (flat_map chunk_bytes heads) x) stop_y)
chunks_once least (a ∷ heads) (b ∷ bs) x y all_a all_b same stop_x stop_y =
    let both = chunk_once a b (flat_map chunk_bytes heads ++ x) (flat_map chunk_bytes bs
    ++ y) all_a.0.0 all_b.0.0
    (sym (append_assoc (chunk_bytes a) (flat_map chunk_bytes heads) x)
    ∙ (same ∙ append_assoc (chunk_bytes b) (flat_map chunk_bytes bs) y)) in
    let others = chunks_once least heads bs x y all_a.1 all_b.1 both.1 stop_x stop_y in
    let first = both.0 in
    let last = others.0 in
    (cc, others.1)
