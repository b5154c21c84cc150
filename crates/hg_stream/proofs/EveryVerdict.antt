-- Any bytes are still read within the limit on the stream, or have a front with a verdict.
use Rattle.std.proofs.Common.{◌≡◌, ℕ, zero, suc, ◌<◌, ◌≤◌, List, [], ◌∷◌, ◌++◌, length, refl, sym, ap, ◌∙◌}
use Rattle.std.proofs.Common.{append_assoc, arith, inl, inr, subst, ◌⊎◌, All, Option, Some, None}
use Rattle.std.proofs.lemmas.Bool.{cases_lt}
use Rattle.std.proofs.lemmas.List.{length-append}
use Rattle.hg_types.specs.declared.limits.Limits.{Limits}
use Rattle.hg_types.specs.declared.part.Part.{Part}
use Rattle.hg_stream.specs.declared.fault.StreamFault.{StreamFault}
use Rattle.hg_stream.specs.declared.fault.StreamFault.TheVariants.{TooLarge}
use Rattle.hg_stream.specs.Frames.{IsWhole}
use Rattle.hg_stream.specs.Places.{IsReading}
use Rattle.hg_stream.specs.Faults.{by_grammar, by_length}
use Rattle.hg_stream.specs.Laws.{IsSettled, IsVerdict, IsReadOrSettled, IsReadOrJudged}
use Rattle.hg_stream.proofs.Prefixes.{IsStillRead, front_of_reading, front_is_read}
use Rattle.hg_stream.proofs.EveryStep.{IsByte}
use Rattle.hg_stream.proofs.EveryStream.{every_stream}

-- the first so many bytes, the byte after them, and what is left
record IsCut (place : ℕ) (bytes : List ℕ) : Type 0 where
  front : List ℕ
  last : ℕ
  behind : List ℕ
  full : length front ≡ place
  spelled : bytes ≡ front ++ last ∷ behind

cut_at : (place : ℕ) (bytes : List ℕ) → place < length bytes → IsCut place bytes
cut_at place [] within = absurd (omega arith)
cut_at zero (byte ∷ bytes) within =
    record { front = []; last = byte; behind = bytes; full = refl; spelled = refl }
cut_at (suc place) (byte ∷ bytes) within =
    let cut = cut_at place bytes (omega (arith, within)) in
    record {
      front = byte ∷ cut.front;
      last = cut.last;
      behind = cut.behind;
      full = ap suc cut.full;
      spelled = ap (λ (x : List ℕ). byte ∷ x) cut.spelled;
    }

one_then : (front behind : List ℕ) (last : ℕ) → front ++ last ∷ behind ≡ (front ++ last ∷ []) ++ behind
one_then front behind last = sym (append_assoc front (last ∷ []) behind)

-- one byte past the limit the grammar reads on, or ends
past : {A : Type 0} (limits : Limits) (bytes front behind : List ℕ) (last : ℕ) (read : List (Part A))
    → length front ≡ limits.stream → IsStillRead A limits front
    → IsReading limits (front ++ last ∷ []) read ⊎ IsWhole limits (front ++ last ∷ []) read
    → bytes ≡ (front ++ last ∷ []) ++ behind → IsReadOrJudged A limits bytes
past limits bytes front behind last read full before there spelled =
    inr (
      front ++ last ∷ [],
      behind,
      before.0,
      Some TooLarge,
      by_length front last read before.1 there refl (omega (arith, full, length-append front (last ∷ [])))
          refl,
      spelled,
    )

-- bytes that are still read
read_bytes : {A : Type 0} (limits : Limits) (bytes : List ℕ) (parts : List (Part A))
    → IsReading limits bytes parts → IsReadOrJudged A limits bytes
read_bytes {A} limits bytes parts reading = by_size (cases_lt limits.stream (length bytes))
  where
    by_size : (limits.stream < length bytes) ⊎ (length bytes ≤ limits.stream) → IsReadOrJudged A limits bytes
    by_size (inl long) =
        let cut = cut_at limits.stream bytes long in
        let again : bytes ≡ (cut.front ++ cut.last ∷ []) ++ cut.behind = cut.spelled
        ∙ one_then cut.front cut.behind cut.last in
        let before = front_of_reading limits cut.front (cut.last ∷ cut.behind) parts
        (subst (λ x. IsReading limits x parts) cut.spelled reading) in
        let there = front_of_reading limits (cut.front ++ cut.last ∷ []) cut.behind parts
        (subst (λ x. IsReading limits x parts) again reading) in
        past limits bytes cut.front cut.behind cut.last there.0 cut.full before (inl there.1) again
    by_size (inr within) = inl (parts, reading, within)

-- what is settled within the limit, or one byte past it where that is a fault
settled_within : {A : Type 0} (v : Option StreamFault) (limits : Limits) (front : List ℕ)
    (parts : List (Part A)) → IsSettled v limits front parts → length front ≤ limits.stream
    → IsVerdict v limits front parts
settled_within None limits front parts settled within = (settled, within)
settled_within (Some fault) limits front parts settled within = by_grammar settled (omega (arith, within))

-- what is settled one byte past the limit
settled_past : {A : Type 0} (v : Option StreamFault) (limits : Limits) (bytes front behind : List ℕ)
    (last : ℕ) (parts : List (Part A)) → IsSettled v limits (front ++ last ∷ []) parts
    → length front ≡ limits.stream
    → bytes ≡ (front ++ last ∷ []) ++ behind → IsReadOrJudged A limits bytes
settled_past None limits bytes front behind last parts settled full spelled =
    past limits bytes front behind last parts full (front_is_read limits front last [] parts None settled)
    (inr settled) spelled
settled_past (Some fault) limits bytes front behind last parts settled full spelled =
    inr (
      front ++ last ∷ [],
      behind,
      parts,
      Some fault,
      by_grammar settled (omega (arith, full, length-append front (last ∷ []))),
      spelled,
    )

-- what is settled past the limit, by how much
settled_behind : {A : Type 0} (v : Option StreamFault) (limits : Limits) (bytes front more behind : List ℕ)
    (last : ℕ) (parts : List (Part A)) → IsSettled v limits (front ++ last ∷ more) parts
    → length front ≡ limits.stream → bytes ≡ (front ++ last ∷ more) ++ behind → IsReadOrJudged A limits bytes
settled_behind v limits bytes front [] behind last parts settled full spelled =
    settled_past v limits bytes front behind last parts settled full spelled
settled_behind v limits bytes front (byte ∷ more) behind last parts settled full spelled =
    let again = one_then front (byte ∷ more) last in
    let before = front_is_read limits front last (byte ∷ more) parts v settled in
    let there = front_is_read limits (front ++ last ∷ []) byte more parts v
    (subst (λ x. IsSettled v limits x parts) again settled) in
    past limits bytes front ((byte ∷ more) ++ behind) last there.0 full before (inl there.1)
    (spelled ∙ ap (λ (x : List ℕ). x ++ behind) again
    ∙ append_assoc (front ++ last ∷ []) (byte ∷ more) behind)

settled_bytes : {A : Type 0} (v : Option StreamFault) (limits : Limits) (bytes front behind : List ℕ)
    (parts : List (Part A)) → IsSettled v limits front parts → bytes ≡ front ++ behind
    → IsReadOrJudged A limits bytes
settled_bytes {A} v limits bytes front behind parts settled spelled =
    by_size (cases_lt limits.stream (length front))
  where
    by_size : (limits.stream < length front) ⊎ (length front ≤ limits.stream) → IsReadOrJudged A limits bytes
    by_size (inl long) =
        let cut = cut_at limits.stream front long in
        settled_behind v limits bytes cut.front cut.behind behind cut.last parts
        (subst (λ x. IsSettled v limits x parts) cut.spelled settled) cut.full
        (spelled ∙ ap (λ (x : List ℕ). x ++ behind) cut.spelled)
    by_size (inr within) = inr (
      front,
      behind,
      parts,
      v,
      settled_within v limits front parts settled within,
      spelled,
    )

judged : {A : Type 0} (limits : Limits) (bytes : List ℕ) → IsReadOrSettled A limits bytes
    → IsReadOrJudged A limits bytes
judged limits bytes (inl (parts, reading)) = read_bytes limits bytes parts reading
judged limits bytes (inr (front, behind, parts, v, settled, spelled)) =
    settled_bytes v limits bytes front behind parts settled spelled

pub every_verdict : {A : Type 0} (limits : Limits) (bytes : List ℕ) → All IsByte bytes
    → IsReadOrJudged A limits bytes
every_verdict limits bytes each = judged limits bytes (every_stream limits bytes each)
