-- What is written at the end of a file, one write after another, and what stays at its front.
use Rattle.std.proofs.Common.{◌≡◌, ℕ, ◌+◌, ◌-◌, ◌<◌, ◌≤◌, List, [], ◌∷◌, ◌++◌, length, take, drop, get_or}
use Rattle.std.proofs.Common.{refl, sym, ap, ◌∙◌, arith, subst}
use Rattle.std.proofs.Common.{append_assoc, length-append, take-append-drop}
use Rattle.std.proofs.lemmas.List.{drop-append-le, take_all, take_more}
use Rattle.std.specs.List.{AllByRecursion}
use Rattle.hg_store.specs.Entries.{Entry}
use Rattle.hg_store.specs.declared.head.Version.TheVariants.{Second}
use Rattle.hg_store.specs.Device.{Elapses, Only}
use Rattle.hg_store.specs.code.Fronts.{Begin, Begins, KeepsFront}
use Rattle.hg_store.specs.Records.{IsRecord, digest_of, frame, frames, last_digest, numbers_bytes, numbers_of}
use Rattle.hg_store.specs.Records.{open_gate}
use Rattle.hg_store.specs.code.Batches.{ungated}
use Rattle.hg_store.proofs.Frames.{batch_more, each-push, frames-append, length-frame, some_bytes}
use Rattle.hg_store.proofs.Moments.{started, goes_on, one_behind}

module _ {D : Type 0} (moment : D → ℕ) (left_since : D → ℕ → List ℕ → Type 0) (may_leave : D → List ℕ
    → Type 0)
    (front : List ℕ) where
  -- before the first write
  pub kept_at_first : (old : D) → ((c : List ℕ) → left_since old (moment old) c → may_leave old c)
      → Begin front (may_leave old) → KeepsFront moment left_since may_leave front old old
  kept_at_first old only_now here = record {
    outcomes = here;
    any_moment = started moment left_since old (Begins front) (λ c left. here c (only_now c left));
  }

  -- one write after another
  pub kept_on : (old mid new : D) → KeepsFront moment left_since may_leave front old mid
      → KeepsFront moment left_since may_leave front mid new → KeepsFront moment left_since may_leave front
      old new
  kept_on old mid new first second = record {
    outcomes = second.outcomes;
    any_moment = one_behind moment left_since old mid new (Begins front) (Begins front) (Begins front)
        first.any_moment second.any_moment (λ c begins. begins) (λ c begins. begins);
  }

  -- and then a sync
  pub kept_synced : (old mid new : D) → KeepsFront moment left_since may_leave front old mid
      → ((c : List ℕ) → may_leave new c → may_leave mid c)
      → Elapses (moment mid) (moment new) (left_since mid) (left_since new) (may_leave new)
      → KeepsFront moment left_since may_leave front old new
  kept_synced old mid new first less time = record {
    outcomes = λ c left. first.outcomes c (less c left);
    any_moment = goes_on moment left_since old mid new (Begins front) (may_leave new) first.any_moment time
        (λ c left. first.outcomes c (less c left));
  }

-- where nothing else is left, it begins with itself
pub only_begins : (file : List ℕ) (outcomes : List ℕ → Type 0) → Only file outcomes → Begin file outcomes
only_begins file outcomes only c left =
    ap (take (length file)) (only c left) ∙ take_all (length file) file (omega arith)

drop_one : (xs ys : List ℕ) → drop 1 (xs ++ ys) ≡ drop 1 xs ++ drop (1 - length xs) ys
drop_one [] ys = refl
drop_one (x ∷ xs) ys =
    let none : 0 ≡ 1 - length (x ∷ xs) = omega arith in ap (λ (n : ℕ). xs ++ drop n ys) none

-- a record that was written in two pieces, but so many bytes of its front
pub record_written : (before : List ℕ) (r : Entry) (skipped : ℕ) (old middle new head digest : List ℕ) → skipped ≤ 1
    → head ≡ open_gate Second ∷ numbers_bytes Second (numbers_of r) → digest ≡ digest_of Second before r
    → middle ≡ old ++ (drop skipped head ++ r.stamp.name) → new ≡ middle ++ (digest ++ r.bundle)
    → new ≡ old ++ drop skipped (frame Second before r)
record_written before r skipped old middle new head digest few head_is digest_is middle_is new_is =
    let back : List ℕ = digest_of Second before r ++ r.bundle in
    let whole : (head ++ r.stamp.name) ++ back ≡ frame Second before r =
    ap (λ (h : List ℕ). (h ++ r.stamp.name) ++ back) head_is in
    let at_first : skipped ≤ length head = omega (arith, few, ap length head_is) in
    let at_name : skipped ≤ length (head ++ r.stamp.name) =
    omega (arith, at_first, length-append head r.stamp.name) in
    new_is
    ∙ (λ i. middle_is i ++ (digest_is i ++ r.bundle))
    ∙ append_assoc old (drop skipped head ++ r.stamp.name) back
    ∙ ap (λ (l : List ℕ). old ++ (l ++ back)) (sym (drop-append-le skipped head r.stamp.name at_first))
    ∙ ap (λ (l : List ℕ). old ++ l) (sym (drop-append-le skipped (head ++ r.stamp.name) back at_name))
    ∙ ap (λ (l : List ℕ). old ++ drop skipped l) whole

-- The records of a batch so far but the gate of the first, with one more.
pub more_written : (rest before : List ℕ) (batch : List Entry) (i skipped : ℕ)
    (seen grown digest next : List ℕ) (r : Entry) → i < length batch → r ≡ get_or batch i r
    → seen ≡ rest ++ drop 1 (frames Second before (take i batch))
    → digest ≡ last_digest Second before (take i batch)
    → skipped ≡ 1 - length (frames Second before (take i batch)) → next ≡ digest_of Second digest r
    → grown ≡ seen ++ drop skipped (frame Second digest r)
    → (grown ≡ rest ++ drop 1 (frames Second before (take (i + 1) batch)))
    × (next ≡ last_digest Second before (take (i + 1) batch))
    × (0 ≡ 1 - length (frames Second before (take (i + 1) batch)))
more_written rest before batch i skipped seen grown digest next r lt is seen_is digest_is skipped_is next_is grown_is =
    let so_far : List ℕ = frames Second before (take i batch) in
    let more = batch_more Second before batch i so_far (so_far ++ frame Second digest r) digest next r lt is refl
    digest_is next_is refl in (
      grown_is ∙ ap (λ (s : List ℕ). s ++ drop skipped (frame Second digest r)) seen_is
          ∙ append_assoc rest (drop 1 so_far) (drop skipped (frame Second digest r))
          ∙ ap (λ (n : ℕ). rest ++ (drop 1 so_far ++ drop n (frame Second digest r))) skipped_is
          ∙ ap (λ (l : List ℕ). rest ++ l) (sym (drop_one so_far (frame Second digest r)))
          ∙ ap (λ (l : List ℕ). rest ++ drop 1 l) more.0,
      more.1,
      omega (
        arith,
        ap length more.0,
        length-append so_far (frame Second digest r),
        length-frame Second digest r,
      ),
    )

-- each record so far can be written, and one more
pub each_more : (batch : List Entry) (i : ℕ) (r : Entry) → i < length batch → r ≡ get_or batch i r
    → AllByRecursion (IsRecord Second) (take i batch) → IsRecord Second r
    → AllByRecursion (IsRecord Second) (take (i + 1) batch)
each_more batch i r lt is each one =
    let e : take (i + 1) batch ≡ take i batch ++ r ∷ [] = take_more batch i r lt
    ∙ ap (λ (x : Entry). take i batch ++ x ∷ []) (sym is) in
    subst (AllByRecursion (IsRecord Second)) (sym e) (each-push Second (take i batch) r each one)

-- the first records of a batch have no more bytes than all
pub frames_grow : (before : List ℕ) (batch : List Entry) (i : ℕ)
    → length (frames Second before (take i batch)) ≤ length (frames Second before batch)
frames_grow before batch i =
    let first : List Entry = take i batch in
    let both : length (frames Second before batch) ≡ length (frames Second before first)
    + length (frames Second (last_digest Second before first) (drop i batch)) =
    ap (λ (l : List Entry). length (frames Second before l)) (sym (take-append-drop i batch))
    ∙ ap length (frames-append Second before first (drop i batch))
    ∙ length-append (frames Second before first) (frames Second (last_digest Second before first) (drop i batch)) in
    omega (arith, both)

-- the bytes of the records so far, with one more
pub size_more : (before : List ℕ) (batch : List Entry) (i size grown : ℕ) (r : Entry) → i < length batch
    → r ≡ get_or batch i r → size ≡ length (frames Second before (take i batch))
    → grown ≡ size + (34 + length r.stamp.name + length r.bundle)
    → grown ≡ length (frames Second before (take (i + 1) batch))
size_more before batch i size grown r lt is size_is grown_is =
    let so_far : List ℕ = frames Second before (take i batch) in
    let digest : List ℕ = last_digest Second before (take i batch) in
    let more = batch_more Second before batch i so_far (so_far ++ frame Second digest r) digest _ r lt is refl refl
    refl refl in
    omega (
      arith,
      size_is,
      grown_is,
      ap length more.0,
      length-append so_far (frame Second digest r),
      length-frame Second digest r,
    )

-- The records of a batch in a buffer with a shut gate after them, but the gate of the first.
pub ungated_is : (before : List ℕ) (batch : List Entry) (bytes behind : List ℕ) → 0 < length batch
    → bytes ≡ frames Second before batch ++ 0 ∷ [] → behind ≡ drop 1 bytes
    → (behind ≡ ungated Second before batch) × (1 ≤ length behind)
ungated_is before batch bytes behind some bytes_is behind_is =
    let all : List ℕ = frames Second before batch in
    let enough : 1 ≤ length all = some_bytes Second before batch some in
    let same : behind ≡ drop 1 all ++ 0 ∷ [] = behind_is ∙ ap (drop 1) bytes_is ∙ drop-append-le 1 all (0 ∷ []) enough in (
      same,
      omega (arith, ap length same, length-append (drop 1 all) (0 ∷ [])),
    )
