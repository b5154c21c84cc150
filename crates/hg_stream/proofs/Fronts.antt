-- What stands at the front of a stream: a whole block after its size, or a size that has no block. It is
-- one.
use Rattle.std.proofs.Common.{◌≡◌, ℕ, ◌+◌, ◌<◌, ◌≤◌, ◌^◌, List, [], ◌++◌, length, ◌⊎◌, inl, inr, refl, sym}
use Rattle.std.proofs.Common.{ap, ◌∙◌, append_assoc, arith, subst}
use Rattle.std.specs.Prelude.{ℤ, pos, negsuc}
use Rattle.std.specs.Int.{w32}
use Rattle.std.specs.Int.RustNames.{FitsSigned}
use Rattle.std.proofs.lemmas.Int.{ints}
use Rattle.std.proofs.lemmas.List.{length-append}
use Rattle.hg_types.specs.declared.limits.Limits.{Limits}
use Rattle.hg_chunks.specs.Size.{size_bytes}
use Rattle.hg_chunks.proofs.CallerLemmas.{fronts, one_size_lem}
use Rattle.hg_stream.specs.Block.{sized}
use Rattle.hg_stream.specs.Frames.{max_header}
use Rattle.hg_stream.specs.Places.{header_room}
use Rattle.hg_stream.proofs.Runs.{Place, AtParams, AtHeader, AtChunk, AtInnerHeader, AtInnerChunk}

-- ---- fronts

pub data Front : Type 0 where
  Block : List ℕ → Front
  Alone : ℤ → Front

abbrev pub front_bytes : Front → List ℕ
front_bytes (Block block) = sized block
front_bytes (Alone size) = size_bytes size

-- a block of that size is refused at the place
abbrev pub Refuses : {A : Type 0} → Limits → Place A → ℕ → Type 0
Refuses limits AtParams size = limits.params < size
Refuses limits (AtHeader parts) size = header_room limits parts < size
Refuses limits (AtChunk parts head payload) size = (0 < size) × (limits.payload < length payload + size)
Refuses limits (AtInnerHeader parts head payload) size = max_header < size
Refuses limits (AtInnerChunk parts head payload inner) size =
    (0 < size) × (limits.payload < length inner + size)

-- a block is not refused there, and a size without a block is refused or negative
abbrev pub IsFront : {A : Type 0} → Limits → Place A → Front → Type 0
IsFront limits place (Block block) = (length block < 2 ^ 31) × (Refuses limits place (length block) → ⊥)
IsFront limits place (Alone (pos size)) = (size < 2 ^ 31) × Refuses limits place size
IsFront limits place (Alone (negsuc size)) = size < 2 ^ 31

-- a size that is not refused, and less than its block
pub record IsShortOf {A : Type 0} (limits : Limits) (place : Place A) (rest : List ℕ) : Type 0 where
  pub size : ℕ
  pub part : List ℕ
  pub small : size < 2 ^ 31
  pub allowed : Refuses limits place size → ⊥
  pub less : length part < size
  pub spelled : rest ≡ size_bytes (pos size) ++ part

-- no front yet
abbrev pub IsNoFront : {A : Type 0} → Limits → Place A → List ℕ → Type 0
IsNoFront limits place rest = (length rest < 4) ⊎ IsShortOf limits place rest

-- ---- one size

abbrev size_of : Front → ℤ
size_of (Block block) = pos (length block)
size_of (Alone size) = size

abbrev behind_size : Front → List ℕ
behind_size (Block block) = block
behind_size (Alone size) = []

opened : (f : Front) (x : List ℕ) → front_bytes f ++ x ≡ size_bytes (size_of f) ++ (behind_size f ++ x)
opened (Block block) x = append_assoc (size_bytes (pos (length block))) block x
opened (Alone size) x = refl

pos_fits : (n : ℕ) → n < 2 ^ 31 → FitsSigned w32 (pos n)
pos_fits n lt = omega (arith, ints)

negsuc_fits : (n : ℕ) → n < 2 ^ 31 → FitsSigned w32 (negsuc n)
negsuc_fits n lt = omega (arith, ints)

fits : {A : Type 0} (limits : Limits) (p : Place A) (f : Front) → IsFront limits p f
    → FitsSigned w32 (size_of f)
fits limits p (Block block) is = pos_fits (length block) is.0
fits limits p (Alone (pos n)) is = pos_fits n is.0
fits limits p (Alone (negsuc n)) is = negsuc_fits n is

-- ---- one front

pos_is : (m n : ℕ) → pos m ≡ pos n → m ≡ n
pos_is m n same = cc

not_negative : (m n : ℕ) → pos m ≡ negsuc n → ⊥
not_negative m n same = cc

refused : {A : Type 0} (limits : Limits) (p : Place A) (m n : ℕ) → (Refuses limits p m → ⊥)
    → Refuses limits p n → pos m ≡ pos n → ⊥
refused limits p m n allowed passes same =
    allowed (subst (λ (k : ℕ). Refuses limits p k) (sym (pos_is m n same)) passes)

by_size : {A : Type 0} (limits : Limits) (p : Place A) (f g : Front) (x y : List ℕ) → IsFront limits p f
    → IsFront limits p g
    → size_of f ≡ size_of g → behind_size f ++ x ≡ behind_size g ++ y → (f ≡ g) × (x ≡ y)
by_size limits p (Block c) (Block d) x y hf hg size rest =
    let both = fronts c d x y (pos_is (length c) (length d) size) rest in
    (ap Block both.0, both.1)
by_size limits p (Block c) (Alone (pos n)) x y hf hg size rest =
    absurd (refused limits p (length c) n hf.1 hg.1 size)
by_size limits p (Block c) (Alone (negsuc n)) x y hf hg size rest = absurd (not_negative (length c) n size)
by_size limits p (Alone (pos m)) (Block d) x y hf hg size rest =
    absurd (refused limits p (length d) m hg.1 hf.1 (sym size))
by_size limits p (Alone (negsuc m)) (Block d) x y hf hg size rest =
    absurd (not_negative (length d) m (sym size))
by_size limits p (Alone m) (Alone n) x y hf hg size rest = (ap Alone size, rest)

-- bytes have one front, and one rest after it
pub one_front : {A : Type 0} (limits : Limits) (p : Place A) (f g : Front) (x y : List ℕ) → IsFront limits p f
    → IsFront limits p g
    → front_bytes f ++ x ≡ front_bytes g ++ y → (f ≡ g) × (x ≡ y)
one_front limits p f g x y hf hg same =
    let sizes = one_size_lem (size_of f) (size_of g) (behind_size f ++ x) (behind_size g ++ y)
    (fits limits p f hf) (fits limits p g hg) (sym (opened f x) ∙ same ∙ opened g y) in
    by_size limits p f g x y hf hg sizes.0 sizes.1

-- ---- no front

four : (f : Front) (x rest : List ℕ) → front_bytes f ++ x ≡ rest → 4 ≤ length rest
four f x rest same =
    let len : length (front_bytes f ++ x) ≡ length rest = ap length same in
    let all : length (front_bytes f ++ x) ≡ length (size_bytes (size_of f) ++ (behind_size f ++ x)) =
    ap length (opened f x) in
    omega (arith, len, all, length-append (size_bytes (size_of f)) (behind_size f ++ x))

short_of : {A : Type 0} (limits : Limits) (p : Place A) (f : Front) (n : ℕ) (x part : List ℕ)
    → IsFront limits p f → (Refuses limits p n → ⊥) → length part < n
    → size_of f ≡ pos n → behind_size f ++ x ≡ part → ⊥
short_of limits p (Block c) n x part hf allowed less size rest =
    let len : length (c ++ x) ≡ length part = ap length rest in
    let whole : length c ≡ n = pos_is (length c) n size in
    omega (arith, len, whole, less, length-append c x)
short_of limits p (Alone (pos m)) n x part hf allowed less size rest =
    refused limits p n m allowed hf.1 (sym size)
short_of limits p (Alone (negsuc m)) n x part hf allowed less size rest = not_negative n m (sym size)

-- no front stands in less than one
pub none_yet : {A : Type 0} (limits : Limits) (p : Place A) (f : Front) (x rest : List ℕ) → IsFront limits p f
    → IsNoFront limits p rest → front_bytes f ++ x ≡ rest → ⊥
none_yet limits p f x rest hf (inl short) same = let all = four f x rest same in omega (arith, all, short)
none_yet limits p f x rest hf (inr s) same =
    let sizes = one_size_lem (size_of f) (pos s.size) (behind_size f ++ x) s.part (fits limits p f hf)
    (pos_fits s.size s.small) (sym (opened f x) ∙ same ∙ s.spelled) in
    short_of limits p f s.size x s.part hf s.allowed s.less sizes.0 sizes.1
