-- A store that is read from its first byte on, one record after the other.
use Rattle.std.proofs.Common.{◌≡◌, ◌⊎◌, inl, inr, ℕ, ◌+◌, ◌≤◌, List, [], ◌∷◌, ◌++◌, length}
use Rattle.std.proofs.Common.{refl, sym, ap, ◌∙◌, subst, arith, append_assoc, length-append}
use Rattle.std.proofs.lemmas.List.{append-nil}
use Rattle.std.specs.List.{AllByRecursion}
use Rattle.hg_store.specs.Entries.{Entry}
use Rattle.hg_store.specs.Files.{IsDamagedStore, IsOldStore, IsStore, IsTornStore, digest_behind, stored}
use Rattle.hg_store.specs.Head.{IsHead, first_digest, head_bytes, version_of}
use Rattle.hg_store.specs.Records.{IsDamaged, IsEnd, IsRecord, IsTorn, digest_of, frame, frames}
use Rattle.hg_store.specs.Records.{last_digest, over, shut}
use Rattle.hg_store.specs.declared.head.Head.{Head}
use Rattle.hg_store.specs.declared.head.Version.{Version}
use Rattle.hg_store.specs.declared.head.Version.TheVariants.{First}
use Rattle.hg_store.proofs.Frames.{frames-push, last_digest-push, length-frame}

-- ---- what was read is a store

pub store_of : (head : Head) (records : List Entry) (bytes tail : List ℕ) → IsHead head
    → AllByRecursion (IsRecord (version_of head)) records → bytes ≡ stored head records ++ tail
    → IsEnd tail ⊎ IsTorn (version_of head) tail → IsStore bytes head records tail
store_of head records bytes tail allowed each is ends =
    let frames_of : List ℕ = frames (version_of head) (first_digest head) records in
    record {
      behind = frames_of ++ tail;
      begins = record { spelled = is ∙ append_assoc (head_bytes head) frames_of tail; allowed = allowed };
      reads = record { each = each; ends = ends; spelled = refl };
    }

-- a head of version 1
pub old_of : (head : Head) (bytes : List ℕ) → IsHead head → bytes ≡ head_bytes head → version_of head ≡ First
    → IsOldStore bytes
old_of head bytes allowed is old = (
  head,
  [],
  [],
  store_of head [] bytes [] allowed tt
      (is ∙ sym (append-nil (head_bytes head)) ∙ sym (append-nil (head_bytes head ++ []))) (inl (over refl)),
  old,
)

pub torn_of : (head : Head) (records : List Entry) (bytes tail : List ℕ) (whole : ℕ) → IsHead head
    → AllByRecursion (IsRecord (version_of head)) records → bytes ≡ stored head records ++ tail
    → whole ≡ length records → IsTorn (version_of head) tail → IsTornStore bytes whole
torn_of head records bytes tail whole allowed each is count torn = record {
  head = head;
  records = records;
  tail = tail;
  store = store_of head records bytes tail allowed each is (inr torn);
  count = count;
  torn = torn;
}

pub damaged_of : (head : Head) (records : List Entry) (bytes tail : List ℕ) (whole : ℕ) (digest : List ℕ) → IsHead head
    → AllByRecursion (IsRecord (version_of head)) records → bytes ≡ stored head records ++ tail
    → whole ≡ length records → digest ≡ digest_behind head records → IsDamaged (version_of head) digest tail
    → IsDamagedStore bytes whole
damaged_of head records bytes tail whole digest allowed each is count chained damaged =
    let frames_of : List ℕ = frames (version_of head) (first_digest head) records in
    record {
      head = head;
      behind = frames_of ++ tail;
      begins = record { spelled = is ∙ append_assoc (head_bytes head) frames_of tail; allowed = allowed };
      records = records;
      tail = tail;
      each = each;
      spelled = refl;
      count = count;
      damaged = subst (λ (d : List ℕ). IsDamaged (version_of head) d tail) chained damaged;
    }

-- ---- one record more

more_frames : (version : Version) (before : List ℕ) (records : List Entry)
    → length records ≤ length (frames version before records)
more_frames version before [] = omega arith
more_frames version before (r ∷ records) = omega (
  arith,
  more_frames version (digest_of version before r) records,
  length-append (frame version before r) (frames version (digest_of version before r) records),
  length-frame version before r,
)

-- there are no more records than bytes
pub fewer_records : (head : Head) (records : List Entry) → length records ≤ length (stored head records)
fewer_records head records =
    let frames_of : List ℕ = frames (version_of head) (first_digest head) records in
    omega (
      arith,
      more_frames (version_of head) (first_digest head) records,
      length-append (head_bytes head) frames_of,
    )

module _ (head : Head) (records : List Entry) (found : Entry) (digest : List ℕ)
    (chained : digest ≡ digest_behind head records) where
  pub stored_push : stored head (records ++ found ∷ []) ≡ stored head records ++ frame (version_of head) digest found
  stored_push =
      let v : Version = version_of head in
      let start : List ℕ = first_digest head in
      ap (λ (l : List ℕ). head_bytes head ++ l) (frames-push v start records found)
      ∙ sym (append_assoc (head_bytes head) (frames v start records) (frame v (last_digest v start records) found))
      ∙ ap (λ (d : List ℕ). stored head records ++ frame v d found) (sym chained)

  pub read_more : (bytes items grown after : List ℕ) → bytes ≡ stored head records ++ []
      → items ≡ frame (version_of head) digest found ++ after → after ≡ [] → grown ≡ bytes ++ items
      → grown ≡ stored head (records ++ found ∷ []) ++ []
  read_more bytes items grown after is items_is none grown_is =
      grown_is ∙ ap (λ (l : List ℕ). l ++ items) (is ∙ append-nil (stored head records))
      ∙ ap (λ (l : List ℕ). stored head records ++ l)
      (items_is ∙ ap (λ (l : List ℕ). frame (version_of head) digest found ++ l) none
      ∙ append-nil (frame (version_of head) digest found))
      ∙ sym stored_push ∙ sym (append-nil (stored head (records ++ found ∷ [])))

  pub place_more : (items after : List ℕ) (end next : ℕ) → items ≡ frame (version_of head) digest found ++ after
      → after ≡ [] → end ≡ length (stored head records) → next ≡ end + length items
      → next ≡ length (stored head (records ++ found ∷ []))
  place_more items after end next items_is none place next_is = omega (
    arith,
    next_is,
    place,
    ap length items_is,
    length-append (frame (version_of head) digest found) after,
    ap length none,
    ap length stored_push,
    length-append (stored head records) (frame (version_of head) digest found),
  )

  pub chained_more : (next : List ℕ) → next ≡ digest_of (version_of head) digest found
      → next ≡ digest_behind head (records ++ found ∷ [])
  chained_more next is =
      is ∙ ap (λ (d : List ℕ). digest_of (version_of head) d found) chained
      ∙ sym (last_digest-push (version_of head) (first_digest head) records found)

-- ---- what stands behind the records

-- where they end, they end so with more bytes, unless the file ended there
pub end_more : (old more grown : List ℕ) → IsEnd old → grown ≡ old ++ more → (length old ≡ 0 → length grown ≡ 0)
    → IsEnd grown
end_more old more grown (over none) is still = over (empty grown (still (ap length none)))
  where
    empty : (l : List ℕ) → length l ≡ 0 → l ≡ []
    empty [] zero_is = refl
    empty (x ∷ l) some = absurd (omega (arith, some))
end_more old more grown (shut behind first) is still =
    shut (behind ++ more) (is ∙ ap (λ (l : List ℕ). l ++ more) first)

-- all of it was read
pub spelled_more : (front bytes old more tail grown : List ℕ) → bytes ≡ front ++ old → tail ≡ old ++ more
    → grown ≡ bytes ++ more → grown ≡ front ++ tail
spelled_more front bytes old more tail grown is tail_is grown_is =
    grown_is ∙ ap (λ (l : List ℕ). l ++ more) is ∙ append_assoc front old more
    ∙ ap (λ (l : List ℕ). front ++ l) (sym tail_is)
