-- Two readings of the same bytes are one.
use Rattle.std.proofs.Common.{◌≡◌, ◌⊎◌, inl, inr, ℕ, List, [], ◌∷◌, ◌++◌, length, drop, refl, sym, ap, ◌∙◌, arith}
use Rattle.std.proofs.Common.{subst}
use Rattle.std.proofs.Common.{append_assoc, length-append}
use Rattle.std.specs.List.{AllByRecursion}
use Rattle.hg_store.specs.declared.head.Head.{Head}
use Rattle.hg_store.specs.Entries.{Entry}
use Rattle.hg_store.specs.declared.head.Version.{Version}
use Rattle.hg_store.specs.declared.numbers.Numbers.{Numbers}
use Rattle.hg_store.specs.Files.{IsStore}
use Rattle.hg_store.specs.Head.{first_digest, version_of}
use Rattle.hg_store.proofs.Heads.{heads_are}
use Rattle.hg_store.specs.Records.{IsRecord, IsDamaged, IsEnd, IsNext, IsTorn, ReadsRecords, cut_off, digest_of}
use Rattle.hg_store.specs.Records.{frame, frames, label, no_gate, numbers_bytes, numbers_of, open_gate, other_digest}
use Rattle.hg_store.specs.Records.{over, short, shut}
use Rattle.hg_store.proofs.Frames.{frame_is, frame_fields, fronts, labels_are, length-digest, length-label, not_shut}
use Rattle.hg_store.proofs.Frames.{numbers_are}

gates : (a b : ℕ) (x y bytes : List ℕ) → bytes ≡ a ∷ x → bytes ≡ b ∷ y → a ≡ b
gates a b x y bytes p q = let both : a ∷ x ≡ b ∷ y = sym p ∙ q in cc

-- no whole record stands at an end
pub ended : (version : Version) (before : List ℕ) (r : Entry) (x tail : List ℕ) → IsEnd tail
    → frame version before r ++ x ≡ tail → ⊥
ended version before r x tail (over none) same = omega (arith, ap length same, ap length none)
ended version before r x tail (shut behind spelled) same =
    not_shut version (sym (gates (open_gate version) 0
    ((label version r ++ (digest_of version before r ++ r.bundle)) ++ x) behind tail (sym same) spelled))

-- after an open gate
behind_gate : (version : Version) (x y : List ℕ) → open_gate version ∷ x ≡ open_gate version ∷ y → x ≡ y
behind_gate version x y same = ap (drop 1) same

numbers_first : (version : Version) (r : Entry) (x : List ℕ)
    → label version r ++ x ≡ numbers_bytes version (numbers_of r) ++ (r.stamp.name ++ x)
numbers_first version r x = append_assoc (numbers_bytes version (numbers_of r)) r.stamp.name x

-- nor where less than it stands
pub whole_or_torn : (version : Version) (told : List ℕ) (found : Entry) (after bytes : List ℕ)
    → bytes ≡ open_gate version ∷ label version found ++ (told ++ (found.bundle ++ after))
    → IsRecord version found → length told ≡ 20 → IsTorn version bytes → ⊥
whole_or_torn version told found after bytes spelled ir len (short part is less) =
    let rest : List ℕ = told ++ (found.bundle ++ after) in
    omega (
      arith,
      ap length spelled,
      ap length is,
      less,
      length-append (label version found) rest,
      length-label version found,
    )
whole_or_torn version told found after bytes spelled ir len (cut_off numbers part fits is less) =
    let rest : List ℕ = told ++ (found.bundle ++ after) in
    let sizes = numbers_are version (numbers_of found) numbers (found.stamp.name ++ rest) part ir fits
    (sym (numbers_first version found rest)
    ∙ behind_gate version (label version found ++ rest) (numbers_bytes version numbers ++ part) (sym spelled ∙ is)) in
    let size : length found.bundle ≡ numbers.size = ap (λ (n : Numbers). n.size) sizes.0 in
    let named : length found.stamp.name ≡ numbers.named = ap (λ (n : Numbers). n.named) sizes.0 in
    omega (
      arith,
      ap length sizes.1,
      size,
      named,
      less,
      len,
      length-append found.stamp.name rest,
      length-append told (found.bundle ++ after),
      length-append found.bundle after,
    )

pub torn : (version : Version) (before : List ℕ) (r : Entry) (x tail : List ℕ) → IsRecord version r
    → IsTorn version tail → frame version before r ++ x ≡ tail → ⊥
torn version before r x tail ir less same =
    whole_or_torn version (digest_of version before r) r x tail (sym same ∙ frame_fields version before r x) ir
    (length-digest version before r) less

pub stopped : (version : Version) (before : List ℕ) (r : Entry) (x tail : List ℕ) → IsRecord version r → IsEnd tail ⊎ IsTorn version tail → frame version before r ++ x ≡ tail → ⊥
stopped version before r x tail ir (inl ends) same = ended version before r x tail ends same
stopped version before r x tail ir (inr less) same = torn version before r x tail ir less same

one : (version : Version) (before : List ℕ) (a b : List Entry) (x y : List ℕ) → AllByRecursion (IsRecord version) a
    → AllByRecursion (IsRecord version) b → IsEnd x ⊎ IsTorn version x → IsEnd y ⊎ IsTorn version y → frames version before a ++ x ≡ frames version before b ++ y
    → (a ≡ b) × (x ≡ y)
one version before [] [] x y ia ib ex ey same = (refl, same)
one version before [] (s ∷ b) x y ia ib ex ey same =
    absurd (stopped version before s (frames version (digest_of version before s) b ++ y) x ib.0 ex
    (sym (same ∙ append_assoc (frame version before s) (frames version (digest_of version before s) b) y)))
one version before (r ∷ a) [] x y ia ib ex ey same =
    absurd (stopped version before r (frames version (digest_of version before r) a ++ x) y ia.0 ey
    (sym (append_assoc (frame version before r) (frames version (digest_of version before r) a) x) ∙ same))
one version before (r ∷ a) (s ∷ b) x y ia ib ex ey same =
    let first = frame_is version before r s (frames version (digest_of version before r) a ++ x) (frames version (digest_of version before s) b ++ y)
    ia.0 ib.0 (sym (append_assoc (frame version before r) (frames version (digest_of version before r) a) x) ∙ same
    ∙ append_assoc (frame version before s) (frames version (digest_of version before s) b) y) in
    let heads : r ≡ s = first.0 in
    let rest : frames version (digest_of version before r) a ++ x ≡ frames version (digest_of version before r) b ++ y =
    first.1 ∙ ap (λ (q : Entry). frames version (digest_of version before q) b ++ y) (sym heads) in
    let others = one version (digest_of version before r) a b x y ia.1 ib.1 ex ey rest in
    let tails : a ≡ b = others.0 in
    (cc, others.1)

-- A store is read in one way.
pub one_reading_lem : (file : List ℕ) (a b : Head) (rs ss : List Entry) (x y : List ℕ) → IsStore file a rs x
    → IsStore file b ss y → (a ≡ b) × (rs ≡ ss) × (x ≡ y)
one_reading_lem file a b rs ss x y p q =
    let heads = heads_are a b p.behind q.behind p.begins.allowed q.begins.allowed
    (sym p.begins.spelled ∙ q.begins.spelled) in
    let reads : ReadsRecords (version_of a) (first_digest a) p.behind ss y =
    subst (λ (l : List ℕ). ReadsRecords (version_of a) (first_digest a) l ss y) (sym heads.1)
    (subst (λ (h : Head). ReadsRecords (version_of h) (first_digest h) q.behind ss y) (sym heads.0) q.reads) in
    let others = one (version_of a) (first_digest a) rs ss x y p.reads.each reads.each p.reads.ends reads.ends
    (sym p.reads.spelled ∙ reads.spelled) in
    (heads.0, others.0, others.1)

-- What stands at a gate is one of four things.
pub end_or_torn : (version : Version) (bytes : List ℕ) → IsEnd bytes → IsTorn version bytes → ⊥
end_or_torn version bytes (over none) (short part spelled less) = omega (arith, ap length none, ap length spelled)
end_or_torn version bytes (over none) (cut_off numbers part fits spelled less) =
    omega (arith, ap length none, ap length spelled)
end_or_torn version bytes (shut behind is) (short part spelled less) =
    not_shut version (gates 0 (open_gate version) behind part bytes is spelled)
end_or_torn version bytes (shut behind is) (cut_off numbers part fits spelled less) =
    not_shut version (gates 0 (open_gate version) behind (numbers_bytes version numbers ++ part) bytes is spelled)

pub end_or_damage : (version : Version) (before bytes : List ℕ) → IsEnd bytes ⊎ IsTorn version bytes
    → IsDamaged version before bytes → ⊥
end_or_damage version before bytes (inl (over none)) (no_gate gate behind spelled other big) =
    omega (arith, ap length none, ap length spelled)
end_or_damage version before bytes (inl (over none)) (other_digest told found after spelled ir len other) =
    omega (arith, ap length none, ap length spelled)
end_or_damage version before bytes (inl (shut behind is)) (no_gate gate more spelled other big) =
    other (sym (gates 0 gate behind more bytes is spelled))
end_or_damage version before bytes (inl (shut behind is)) (other_digest told found after spelled ir len other) =
    not_shut version (gates 0 (open_gate version) behind _ bytes is spelled)
end_or_damage version before bytes (inr (short part is less)) (no_gate gate more spelled other big) =
    big (sym (gates (open_gate version) gate part more bytes is spelled))
end_or_damage version before bytes (inr (cut_off numbers part fits is less)) (no_gate gate more spelled other big) =
    big (sym (gates (open_gate version) gate _ more bytes is spelled))
end_or_damage version before bytes (inr less) (other_digest told found after spelled ir len other) =
    whole_or_torn version told found after bytes spelled ir len less

pub record_or_none : (version : Version) (before bytes : List ℕ) (found : Entry) (after next : List ℕ)
    → IsNext version before bytes found after next
    → (IsEnd bytes ⊎ IsTorn version bytes) ⊎ IsDamaged version before bytes → ⊥
record_or_none version before bytes found after next is (inl ends) =
    stopped version before found after bytes is.is ends (sym is.spelled)
record_or_none version before bytes found after next is (inr (no_gate gate more spelled other big)) =
    big (sym (gates (open_gate version) gate _ more bytes is.spelled spelled))
record_or_none version before bytes found after next is (inr (other_digest told other behind spelled ir len differs)) =
    let fields : open_gate version ∷ label version found ++ (digest_of version before found ++ (found.bundle ++ after))
    ≡ open_gate version ∷ label version other ++ (told ++ (other.bundle ++ behind)) =
    sym (frame_fields version before found after) ∙ sym is.spelled ∙ spelled in
    let labels = labels_are version found other (digest_of version before found ++ (found.bundle ++ after))
    (told ++ (other.bundle ++ behind)) is.is ir (behind_gate version _ _ fields) in
    let digests = fronts (digest_of version before found) told (found.bundle ++ after) (other.bundle ++ behind)
    (length-digest version before found ∙ sym len) labels.2 in
    let bundles = fronts found.bundle other.bundle after behind labels.1 digests.1 in
    let same : found ≡ other = λ i. record { stamp = labels.0 i; bundle = bundles.0 i } in
    differs (sym digests.0 ∙ ap (λ (r : Entry). digest_of version before r) same)
