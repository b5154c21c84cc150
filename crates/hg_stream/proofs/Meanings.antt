-- What the front of a stream means at its place: where it leads, or what it decides. It means one thing.
use Rattle.std.proofs.Common.{◌≡◌, ℕ, zero, suc, List, [], ◌∷◌, ◌++◌, Result, Ok, Err, sym, ap, ◌∙◌, subst}
use Rattle.std.specs.Prelude.{ℤ, pos, negsuc}
use Rattle.hg_types.specs.declared.limits.Limits.{Limits}
use Rattle.hg_types.specs.declared.part.Part.{Part}
use Rattle.hg_chunks.specs.declared.fault.ChunkFault.TheVariants as chunk_fault
use Rattle.hg_params.specs.declared.head.Head.{Head}
use Rattle.hg_params.specs.declared.stream_params.StreamParam.{StreamParam}
use Rattle.hg_params.specs.declared.fault.ParamFault.{ParamFault}
use Rattle.hg_params.specs.Header.{IsHeader, IsHeaderFault}
use Rattle.hg_params.specs.StreamParams.{AreStreamParams, IsStreamParamsFault}
use Rattle.hg_params.proofs.CallerLemmas.{one_value, no_fault, one_fault, one_list, no_params_fault}
use Rattle.hg_params.proofs.CallerLemmas.{one_params_fault}
use Rattle.hg_stream.specs.declared.fault.StreamFault.TheVariants.{NegativeSize, Params, Header, Chunk}
use Rattle.hg_stream.specs.declared.fault.StreamFault.TheVariants.{NestedInterrupt, ClientAbort, Unsupported}
use Rattle.hg_stream.specs.declared.fault.StreamFault.TheVariants.{TooLarge}
use Rattle.hg_stream.specs.declared.interrupting.Verdict.{Verdict}
use Rattle.hg_stream.specs.declared.interrupting.Verdict.TheVariants.{Dropped, Aborts, Refused}
use Rattle.hg_stream.specs.Interrupting.{verdict_of}
use Rattle.hg_stream.specs.Frames.{part_of}
use Rattle.hg_stream.proofs.Runs.{Place, AtParams, AtHeader, AtChunk, AtInnerHeader, AtInnerChunk, Decision}
use Rattle.hg_stream.proofs.Runs.{Closed, Faulty}
use Rattle.hg_stream.proofs.Fronts.{Front, Block, Alone, front_bytes, IsFront, IsNoFront, one_front, none_yet}

-- ---- meanings

-- where a front leads, or what it decides
pub data Outcome (A : Type 0) : Type 0 where
  Goes : Place A → Outcome A
  Ends : Decision → Outcome A

-- what a header says: a head, or a fault
abbrev pub SaysHead : (A : Type 0) → List ℕ → Result (Head A) ParamFault → Type 0
SaysHead A block (Ok head) = IsHeader block head
SaysHead A block (Err fault) = IsHeaderFault block fault

abbrev pub SaysParams : (A : Type 0) → List ℕ → Result (List (StreamParam A)) ParamFault → Type 0
SaysParams A block (Ok params) = AreStreamParams block params
SaysParams A block (Err fault) = IsStreamParamsFault block fault

abbrev pub after_params : {A : Type 0} → Result (List (StreamParam A)) ParamFault → Outcome A
after_params (Ok params) = Goes (AtHeader [])
after_params (Err fault) = Ends (Faulty (Params fault))

abbrev pub after_header : {A : Type 0} → List (Part A) → Result (Head A) ParamFault → Outcome A
after_header parts (Ok head) = Goes (AtChunk parts head [])
after_header parts (Err fault) = Ends (Faulty (Header fault))

abbrev pub after_verdict : {A : Type 0} → List (Part A) → Head A → List ℕ → Verdict → Outcome A
after_verdict parts head payload Dropped = Goes (AtInnerChunk parts head payload [])
after_verdict parts head payload Aborts = Ends (Faulty ClientAbort)
after_verdict parts head payload Refused = Ends (Faulty Unsupported)

abbrev pub after_inner : {A : Type 0} → List (Part A) → Head A → List ℕ → Result (Head A) ParamFault
    → Outcome A
after_inner parts head payload (Ok inner_head) = after_verdict parts head payload (verdict_of inner_head)
after_inner parts head payload (Err fault) = Ends (Faulty (Header fault))

-- a size that no block can have
abbrev pub refused_size : {A : Type 0} → ℤ → Outcome A
refused_size (pos size) = Ends (Faulty TooLarge)
refused_size (negsuc size) = Ends (Faulty NegativeSize)

-- a size that no chunk can have; -1 is none of a chunk's sizes
abbrev pub refused_chunk : {A : Type 0} → Outcome A → ℤ → Outcome A
refused_chunk interrupted (pos size) = Ends (Faulty (Chunk chunk_fault.TooLarge))
refused_chunk interrupted (negsuc zero) = interrupted
refused_chunk interrupted (negsuc (suc size)) = Ends (Faulty (Chunk chunk_fault.BadSize))

abbrev pub alone_means : {A : Type 0} → Place A → ℤ → Outcome A
alone_means AtParams size = refused_size size
alone_means (AtHeader parts) size = refused_size size
alone_means (AtChunk parts head payload) size = refused_chunk (Goes (AtInnerHeader parts head payload)) size
alone_means (AtInnerHeader parts head payload) size = refused_size size
alone_means (AtInnerChunk parts head payload inner) size = refused_chunk (Ends (Faulty NestedInterrupt)) size

abbrev pub BlockMeans : {A : Type 0} → Place A → List ℕ → Outcome A → Type 0
BlockMeans {A} AtParams block outcome = (says : Result (List (StreamParam A)) ParamFault)
    × SaysParams A block says × (outcome ≡ after_params says)
BlockMeans (AtHeader parts) [] outcome = outcome ≡ Ends Closed
BlockMeans {A} (AtHeader parts) (byte ∷ bytes) outcome = (says : Result (Head A) ParamFault)
    × SaysHead A (byte ∷ bytes) says × (outcome ≡ after_header parts says)
BlockMeans (AtChunk parts head payload) [] outcome =
    outcome ≡ Goes (AtHeader (parts ++ part_of head payload ∷ []))
BlockMeans (AtChunk parts head payload) (byte ∷ bytes) outcome =
    outcome ≡ Goes (AtChunk parts head (payload ++ (byte ∷ bytes)))
BlockMeans (AtInnerHeader parts head payload) [] outcome = outcome ≡ Goes (AtChunk parts head payload)
BlockMeans {A} (AtInnerHeader parts head payload) (byte ∷ bytes) outcome = (says : Result (Head A) ParamFault)
    × SaysHead A (byte ∷ bytes) says × (outcome ≡ after_inner parts head payload says)
BlockMeans (AtInnerChunk parts head payload inner) [] outcome = outcome ≡ Goes (AtChunk parts head payload)
BlockMeans (AtInnerChunk parts head payload inner) (byte ∷ bytes) outcome =
    outcome ≡ Goes (AtInnerChunk parts head payload (inner ++ (byte ∷ bytes)))

abbrev pub Means : {A : Type 0} → Place A → Front → Outcome A → Type 0
Means place (Block block) outcome = BlockMeans place block outcome
Means place (Alone size) outcome = outcome ≡ alone_means place size

-- ---- one meaning

one_head : (A : Type 0) (block : List ℕ) (r s : Result (Head A) ParamFault) → SaysHead A block r
    → SaysHead A block s → r ≡ s
one_head A block (Ok a) (Ok b) p q = ap (λ (x : Head A). Ok x) (one_value block a b p q)
one_head A block (Ok a) (Err e) p q = absurd (no_fault block a e p q)
one_head A block (Err d) (Ok b) p q = absurd (no_fault block b d q p)
one_head A block (Err d) (Err e) p q = ap (λ (x : ParamFault). Err x) (one_fault block d e p q)

one_params : (A : Type 0) (block : List ℕ) (r s : Result (List (StreamParam A)) ParamFault)
    → SaysParams A block r → SaysParams A block s → r ≡ s
one_params A block (Ok a) (Ok b) p q = ap (λ (x : List (StreamParam A)). Ok x) (one_list block a b p q)
one_params A block (Ok a) (Err e) p q = absurd (no_params_fault block a e p q)
one_params A block (Err d) (Ok b) p q = absurd (no_params_fault block b d q p)
one_params A block (Err d) (Err e) p q = ap (λ (x : ParamFault). Err x) (one_params_fault block d e p q)

by_head : {A : Type 0} (block : List ℕ) (after : Result (Head A) ParamFault → Outcome A) (m n : Outcome A)
    (r s : Result (Head A) ParamFault)
    → SaysHead A block r → SaysHead A block s → m ≡ after r → n ≡ after s → m ≡ n
by_head {A} block after m n r s p q is_m is_n = is_m ∙ ap after (one_head A block r s p q) ∙ sym is_n

by_params : {A : Type 0} (block : List ℕ) (m n : Outcome A) (r s : Result (List (StreamParam A)) ParamFault)
    → SaysParams A block r → SaysParams A block s → m ≡ after_params r → n ≡ after_params s → m ≡ n
by_params {A} block m n r s p q is_m is_n = is_m ∙ ap after_params (one_params A block r s p q) ∙ sym is_n

block_meaning : {A : Type 0} (place : Place A) (block : List ℕ) (m n : Outcome A) → BlockMeans place block m
    → BlockMeans place block n → m ≡ n
block_meaning AtParams block m n p q = by_params block m n p.0 q.0 p.1 q.1 p.2 q.2
block_meaning (AtHeader parts) [] m n p q = p ∙ sym q
block_meaning (AtHeader parts) (byte ∷ bytes) m n p q =
    by_head (byte ∷ bytes) (after_header parts) m n p.0 q.0 p.1 q.1 p.2 q.2
block_meaning (AtChunk parts head payload) [] m n p q = p ∙ sym q
block_meaning (AtChunk parts head payload) (byte ∷ bytes) m n p q = p ∙ sym q
block_meaning (AtInnerHeader parts head payload) [] m n p q = p ∙ sym q
block_meaning (AtInnerHeader parts head payload) (byte ∷ bytes) m n p q =
    by_head (byte ∷ bytes) (after_inner parts head payload) m n p.0 q.0 p.1 q.1 p.2 q.2
block_meaning (AtInnerChunk parts head payload inner) [] m n p q = p ∙ sym q
block_meaning (AtInnerChunk parts head payload inner) (byte ∷ bytes) m n p q = p ∙ sym q

pub one_meaning : {A : Type 0} (place : Place A) (front : Front) (m n : Outcome A) → Means place front m
    → Means place front n → m ≡ n
one_meaning place (Block block) m n p q = block_meaning place block m n p q
one_meaning place (Alone size) m n p q = p ∙ sym q

-- ---- what bytes are read as

-- the bytes are a front that means that
pub record IsRead {A : Type 0} (limits : Limits) (place : Place A) (bytes : List ℕ)
    (outcome : Outcome A) : Type 0 where
  pub front : Front
  pub is : IsFront limits place front
  pub means : Means place front outcome
  pub spelled : bytes ≡ front_bytes front

-- bytes begin with one front at a place, with one meaning
pub one_outcome : {A : Type 0} (limits : Limits) (p : Place A) (a b x y : List ℕ) (m n : Outcome A)
    → IsRead limits p a m → IsRead limits p b n → a ++ x ≡ b ++ y
    → (a ≡ b) × (m ≡ n) × (x ≡ y)
one_outcome limits p a b x y m n ra rb same =
    let both = one_front limits p ra.front rb.front x y ra.is rb.is
    (ap (λ (t : List ℕ). t ++ x) (sym ra.spelled) ∙ same ∙ ap (λ (t : List ℕ). t ++ y) rb.spelled) in (
      ra.spelled ∙ ap front_bytes both.0
          ∙ sym rb.spelled,
      one_meaning p rb.front m n (subst (λ (f : Front). Means p f m) both.0 ra.means)
          rb.means,
      both.1,
    )

-- and no part of a block or chunk begins with one
pub no_outcome : {A : Type 0} (limits : Limits) (p : Place A) (a x rest : List ℕ) (m : Outcome A)
    → IsRead limits p a m → IsNoFront limits p rest → a ++ x ≡ rest → ⊥
no_outcome limits p a x rest m ra h same =
    none_yet limits p ra.front x rest ra.is h (ap (λ (t : List ℕ). t ++ x) (sym ra.spelled) ∙ same)
