-- How the reading of a file goes on, and how it ends.
use Rattle.std.proofs.Common.{◌≡◌, ◌⊎◌, inl, inr, Bool, true, false, ℕ, zero, suc, ◌+◌, ◌-◌, ◌<◌, List, [], ◌∷◌, ◌++◌, length, take, drop, refl, sym, ap, ◌∙◌, subst, arith}
use Rattle.std.proofs.Common.{append_assoc, length-append}
use Rattle.std.proofs.lemmas.List.{drop_at, take_at}
use Rattle.std.specs.List.{AllByRecursion}
use Rattle.hg_store.specs.Records.{digest_of, IsRecord, frame, frames, last_digest, IsEnd, IsTorn, IsNext, IsDamaged, ReadsRecords}
use Rattle.hg_store.specs.Entries.{Entry}
use Rattle.hg_store.specs.declared.head.Version.{Version}
use Rattle.sha1.specs.Sha1.{sha1}
use Rattle.hg_store.specs.declared.head.Head.{Head}
use Rattle.hg_store.specs.Files.{IsDamagedStore, IsStore, digest_behind, stored}
use Rattle.hg_store.specs.Head.{HasHead, first_digest, head_bytes, head_size, version_of}
use Rattle.hg_store.proofs.Heads.{length-head}
use Rattle.hg_store.proofs.Frames.{frames-push, last_digest-push, each-push, length-frame}

-- The bytes of a file are these records and a rest, whose first record would stand after that digest.
pub record HasRead (version : Version) (start file : List ℕ) (records : List Entry) (digest rest : List ℕ) : Type 0 where
  pub each : AllByRecursion (IsRecord version) records
  pub spelled : file ≡ frames version start records ++ rest
  pub digest_is : digest ≡ last_digest version start records

pub begun : (version : Version) (start file : List ℕ) → HasRead version start file [] start file
begun version start file = record { each = tt; spelled = refl; digest_is = refl }

pub one_more : (version : Version) (start file : List ℕ) (records : List Entry) (digest rest : List ℕ) (r : Entry) (after next : List ℕ)
    → HasRead version start file records digest rest → rest ≡ frame version digest r ++ after → IsRecord version r
    → next ≡ digest_of version digest r → HasRead version start file (records ++ r ∷ []) next after
one_more version start file records digest rest r after next has is ir digest_is = record {
  each = each-push version records r has.each ir;
  spelled = has.spelled ∙ ap (λ (l : List ℕ). frames version start records ++ l) is
      ∙ ap (λ (d : List ℕ). frames version start records ++ (frame version d r ++ after)) has.digest_is
      ∙ sym (append_assoc (frames version start records) (frame version (last_digest version start records) r) after)
      ∙ ap (λ (l : List ℕ). l ++ after) (sym (frames-push version start records r));
  digest_is = digest_is ∙ ap (λ (d : List ℕ). digest_of version d r) has.digest_is
      ∙ sym (last_digest-push version start records r);
}

-- the same, with the record as it was kept
pub one_kept : (version : Version) (start file : List ℕ) (records grown : List Entry) (digest rest : List ℕ) (r kept : Entry) (after next : List ℕ)
    → HasRead version start file records digest rest → IsNext version digest rest r after next → kept ≡ r
    → grown ≡ records ++ kept ∷ [] → HasRead version start file grown next after
one_kept version start file records grown digest rest r kept after next has is kept_is grown_is =
    subst (λ (rs : List Entry). HasRead version start file rs next after)
    (sym (grown_is ∙ ap (λ (x : Entry). records ++ x ∷ []) kept_is))
    (one_more version start file records digest rest r after next has is.spelled is.is is.digest)

pub is_shorter : (version : Version) (digest rest : List ℕ) (r : Entry) (after : List ℕ) → rest ≡ frame version digest r ++ after → length after < length rest
is_shorter version digest rest r after is =
    omega (arith, ap length is, length-append (frame version digest r) after, length-frame version digest r)

module _ (version : Version) (start file : List ℕ) (records : List Entry) (digest rest : List ℕ)
    (has : HasRead version start file records digest rest) where
  pub no_longer : length (frames version start records) + length rest ≡ length file
  no_longer = omega (arith, ap length has.spelled, length-append (frames version start records) rest)

  pub end_is : (end : ℕ) → end ≡ length file - length rest → end ≡ length (frames version start records)
  end_is end is = omega (arith, is, no_longer)

  pub rest_is : (end : ℕ) → end ≡ length file - length rest → drop end file ≡ rest
  rest_is end is = ap (drop end) has.spelled ∙ drop_at (frames version start records) rest end (sym (end_is end is))

  pub all_read : (end : ℕ) → end ≡ length file - length rest → IsEnd rest ⊎ IsTorn version rest
      → ReadsRecords version start file records (drop end file)
  all_read end is ends = record {
    each = has.each;
    ends = subst (λ (l : List ℕ). IsEnd l ⊎ IsTorn version l) (sym (rest_is end is)) ends;
    spelled = has.spelled ∙ ap (λ (l : List ℕ). frames version start records ++ l) (sym (rest_is end is));
  }

  pub torn_at : (end : ℕ) → end ≡ length file - length rest → IsTorn version rest → IsTorn version (drop end file)
  torn_at end is less = subst (IsTorn version) (sym (rest_is end is)) less

  pub ends_at : (end : ℕ) → end ≡ length file - length rest → IsEnd rest → IsEnd (drop end file)
  ends_at end is ends = subst IsEnd (sym (rest_is end is)) ends

-- where no record follows the end or a torn record stands
pub stops_at : (version : Version) (is_torn : Bool) (rest : List ℕ) → (is_torn ≡ true → IsTorn version rest) → (is_torn ≡ false → IsEnd rest)
    → IsEnd rest ⊎ IsTorn version rest
stops_at version true rest torn ends = inr (torn refl)
stops_at version false rest torn ends = inl (ends refl)

drop_past : (n m : ℕ) (xs ys : List ℕ) → n ≡ length xs + m → drop n (xs ++ ys) ≡ drop m ys
drop_past n m [] ys is = let e : n ≡ m = omega (arith, is) in ap (λ (k : ℕ). drop k ys) e
drop_past zero m (x ∷ xs) ys is = absurd (omega (arith, is))
drop_past (suc n) m (x ∷ xs) ys is = drop_past n m xs ys (omega (arith, is))

-- after the head that a file was read to have
module _ (file : List ℕ) (head : Head) (has : HasHead file head) (size : ℕ) (size_is : size ≡ head_size (version_of head))
  where
    long : length (head_bytes head) ≡ size
    long = length-head head has.1.allowed ∙ sym size_is

    pub behind_head : drop size file ≡ has.0
    behind_head = ap (drop size) has.1.spelled ∙ drop_at (head_bytes head) has.0 size long

    pub head_at : take size file ≡ head_bytes head
    head_at = ap (take size) has.1.spelled ∙ take_at (head_bytes head) has.0 size long

    pub start_is : (first start : List ℕ) → first ≡ take size file → start ≡ sha1 first → start ≡ first_digest head
    start_is first start front digest = digest ∙ ap sha1 (front ∙ head_at)

    pub tail_is : (end : ℕ) (behind : List ℕ) → behind ≡ drop size file → drop (size + end) file ≡ drop end behind
    tail_is end behind is =
        ap (drop (size + end)) has.1.spelled
        ∙ drop_past (size + end) end (head_bytes head) has.0 (omega (arith, long))
        ∙ ap (drop end) (sym behind_head ∙ sym is)

    module _ (version : Version) (version_is : version ≡ version_of head) (first start : List ℕ)
        (front : first ≡ take size file) (digest : start ≡ sha1 first) where
      begins : start ≡ first_digest head
      begins = start_is first start front digest

      pub digest_at : (records : List Entry) (last : List ℕ) → last ≡ last_digest version start records
          → last ≡ digest_behind head records
      digest_at records last is =
          is ∙ ap (λ (v : Version). last_digest v start records) version_is
          ∙ ap (λ (d : List ℕ). last_digest (version_of head) d records) begins

      pub end_at : (records : List Entry) (end : ℕ) → end ≡ length (frames version start records)
          → size + end ≡ length (stored head records)
      end_at records end is =
          let same : length (frames version start records)
          ≡ length (frames (version_of head) (first_digest head) records) =
          ap (λ (v : Version). length (frames v start records)) version_is
          ∙ ap (λ (d : List ℕ). length (frames (version_of head) d records)) begins in
          omega (
            arith,
            is,
            same,
            long,
            length-append (head_bytes head) (frames (version_of head) (first_digest head) records),
          )

      pub torn_is : (tail shown : List ℕ) → shown ≡ tail → IsTorn version tail → IsTorn (version_of head) shown
      torn_is tail shown is torn =
          subst (IsTorn (version_of head)) (sym is) (subst (λ (v : Version). IsTorn v tail) version_is torn)

      pub store_is : (behind : List ℕ) (records : List Entry) (end : ℕ) → behind ≡ drop size file
          → ReadsRecords version start behind records (drop end behind)
          → IsStore file head records (drop (size + end) file)
      store_is behind records end back reads =
          let of_head : ReadsRecords (version_of head) start behind records (drop end behind) =
          subst (λ (v : Version). ReadsRecords v start behind records (drop end behind)) version_is reads in
          let from : ReadsRecords (version_of head) (first_digest head) behind records (drop end behind) =
          subst (λ (d : List ℕ). ReadsRecords (version_of head) d behind records (drop end behind)) begins of_head in
          let is : ReadsRecords (version_of head) (first_digest head) behind records (drop (size + end) file) =
          subst (ReadsRecords (version_of head) (first_digest head) behind records) (sym (tail_is end behind back)) from in
          let at : behind ≡ has.0 = back ∙ behind_head in
          record {
            behind = has.0;
            begins = has.1;
            reads = subst (λ (l : List ℕ). ReadsRecords (version_of head) (first_digest head) l records
                (drop (size + end) file)) at is;
          }

      pub damage_is : (behind : List ℕ) (whole : ℕ) (records : List Entry) (tail : List ℕ)
          → behind ≡ drop size file → whole ≡ length records → AllByRecursion (IsRecord version) records
          → behind ≡ frames version start records ++ tail
          → IsDamaged version (last_digest version start records) tail → IsDamagedStore file whole
      damage_is behind whole records tail back count each spelled damaged =
          let of_head : AllByRecursion (IsRecord (version_of head)) records
          × (behind ≡ frames (version_of head) start records ++ tail)
          × IsDamaged (version_of head) (last_digest (version_of head) start records) tail =
          subst (λ (v : Version). AllByRecursion (IsRecord v) records × (behind ≡ frames v start records ++ tail)
          × IsDamaged v (last_digest v start records) tail) version_is (each, spelled, damaged) in
          record {
            head = head;
            behind = has.0;
            begins = has.1;
            records = records;
            tail = tail;
            each = of_head.0;
            spelled = sym (back ∙ behind_head) ∙ of_head.1
                ∙ ap (λ (d : List ℕ). frames (version_of head) d records ++ tail) begins;
            count = count;
            damaged = subst (λ (d : List ℕ). IsDamaged (version_of head) (last_digest (version_of head) d records) tail)
                begins of_head.2;
          }
