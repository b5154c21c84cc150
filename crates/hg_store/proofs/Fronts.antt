-- A front of a file of records, cut anywhere.
use Rattle.std.proofs.Common.{◌≡◌, ◌⊎◌, inl, inr, ℕ, zero, suc, ◌+◌, ◌-◌, ◌<◌, ◌≤◌, List, [], ◌∷◌, ◌++◌}
use Rattle.std.proofs.Common.{length, take, drop, refl, sym, ap, ◌∙◌, arith, append_assoc, length-append, length-take}
use Rattle.std.specs.List.{AllByRecursion}
use Rattle.std.proofs.lemmas.Bool.{cases_lt}
use Rattle.std.proofs.lemmas.List.{take-append-le, append-nil}
use Rattle.hg_store.specs.declared.head.Head.{Head}
use Rattle.hg_store.specs.declared.head.HeadFault.TheVariants.{TooShort}
use Rattle.hg_store.specs.declared.head.Version.{Version}
use Rattle.hg_store.specs.declared.head.Version.TheVariants.{First, Second}
use Rattle.hg_store.specs.Entries.{Entry}
use Rattle.hg_store.specs.Files.{FrontIsStore, stored}
use Rattle.hg_store.specs.Head.{HasShortHead, IsHead, IsRefusedFor, first_digest, head_bytes, head_size, magic, version_byte, version_of}
use Rattle.hg_store.specs.Records.{IsEnd, IsRecord, IsTorn, ReadsRecords, cut_off, digest_of, frame, frames, label, numbers_bytes, numbers_of, numbers_size, open_gate, over, short, shut}
use Rattle.hg_store.proofs.Frames.{length-frame, length-numbers}
use Rattle.hg_store.proofs.Heads.{length-head}

-- The first n bytes of these records and a shut gate are read as the first of them.
record FrontReads (version : Version) (start : List ℕ) (records : List Entry) (n : ℕ) (front : List ℕ) : Type 0 where
  pub count : ℕ
  pub tail : List ℕ
  pub reads : ReadsRecords version start front (take count records) tail
  pub few : count ≤ length records
  pub whole : length (frames version start (take count records)) ≤ n
  pub most : (count ≡ length records) ⊎ (n < length (frames version start (take (count + 1) records)))

-- after whole records
take_behind : (n m : ℕ) (xs ys : List ℕ) → n ≡ length xs + m → take n (xs ++ ys) ≡ xs ++ take m ys
take_behind n m [] ys is = let e : n ≡ m = omega (arith, is) in ap (λ (k : ℕ). take k ys) e
take_behind zero m (x ∷ xs) ys is = absurd (omega (arith, is))
take_behind (suc n) m (x ∷ xs) ys is = ap (λ (l : List ℕ). x ∷ l) (take_behind n m xs ys (omega (arith, is)))

-- the front of a record that is cut off
pub cut_frame : (version : Version) (before : List ℕ) (r : Entry) (n : ℕ) → IsRecord version r
    → n < length (frame version before r)
    → IsEnd (take n (frame version before r)) ⊎ IsTorn version (take n (frame version before r))
cut_frame version before r zero ir less = inl (over refl)
cut_frame version before r (suc n) ir less =
    let fields : List ℕ = label version r ++ (digest_of version before r ++ r.bundle) in
    elim (cases_lt n (numbers_size version)) [
      | inl few ↦ inr (short (take n fields) refl (omega (arith, few, length-take {A = ℕ} n fields)))
      | inr some ↦
          let rest : List ℕ = r.stamp.name ++ (digest_of version before r ++ r.bundle) in
          let left : ℕ = n - numbers_size version in
          let spelled : take n fields ≡ numbers_bytes version (numbers_of r) ++ take left rest =
          ap (take n) (append_assoc (numbers_bytes version (numbers_of r)) r.stamp.name
          (digest_of version before r ++ r.bundle))
          ∙ take_behind n left (numbers_bytes version (numbers_of r)) rest
          (omega (arith, some, length-numbers version (numbers_of r))) in
          inr (cut_off (numbers_of r) (take left rest) ir (ap (λ (l : List ℕ). open_gate version ∷ l) spelled)
          (omega (arith, less, some, length-frame version before r, length-take {A = ℕ} left rest)))
    ]

shut_end : (n : ℕ) → IsEnd (take n (0 ∷ []))
shut_end zero = over refl
shut_end (suc n) = shut (take n []) refl

front_lem : (version : Version) (start : List ℕ) (records : List Entry) (n : ℕ) → AllByRecursion (IsRecord version) records
    → FrontReads version start records n (take n (frames version start records ++ 0 ∷ []))
front_lem version start [] n each = record {
  count = 0;
  tail = take n (0 ∷ []);
  reads = record { each = tt; ends = inl (shut_end n); spelled = refl };
  few = omega arith;
  whole = omega arith;
  most = inl refl;
}
front_lem version start (r ∷ rs) n each = elim (cases_lt n (length (frame version start r))) [
  | inl less ↦ record {
    count = 0;
    tail = take n (frame version start r);
    reads = record {
      each = tt;
      ends = cut_frame version start r n each.0 less;
      spelled = ap (take n) (append_assoc (frame version start r) (frames version (digest_of version start r) rs) (0 ∷ []))
          ∙ take-append-le n (frame version start r) (frames version (digest_of version start r) rs ++ 0 ∷ []) (omega (arith, less));
    };
    few = omega arith;
    whole = omega arith;
    most = inr (omega (arith, less, ap length (append-nil (frame version start r))));
  }
  | inr enough ↦
      let rest = front_lem version (digest_of version start r) rs (n - length (frame version start r)) each.1 in
      record {
        count = suc rest.count;
        tail = rest.tail;
        reads = record {
          each = (each.0, rest.reads.each);
          ends = rest.reads.ends;
          spelled = ap (take n) (append_assoc (frame version start r) (frames version (digest_of version start r) rs) (0 ∷ []))
              ∙ take_behind n (n - length (frame version start r)) (frame version start r)
              (frames version (digest_of version start r) rs ++ 0 ∷ []) (omega (arith, enough))
              ∙ ap (λ (l : List ℕ). frame version start r ++ l) rest.reads.spelled
              ∙ sym (append_assoc (frame version start r) (frames version (digest_of version start r) (take rest.count rs)) rest.tail);
        };
        few = omega (arith, rest.few);
        whole = omega (
          arith,
          rest.whole,
          enough,
          length-append (frame version start r) (frames version (digest_of version start r) (take rest.count rs)),
        );
        most = most_of r rs n rest.count enough rest.most;
      }
]
  where
    most_of : (q : Entry) (qs : List Entry) (m k : ℕ) → length (frame version start q) ≤ m
        → (k ≡ length qs) ⊎ (m - length (frame version start q) < length (frames version (digest_of version start q) (take (k + 1) qs)))
        → (suc k ≡ length (q ∷ qs)) ⊎ (m < length (frames version start (take (suc k + 1) (q ∷ qs))))
    most_of q qs m k le (inl all) = inl (ap suc all)
    most_of q qs m k le (inr less) =
        let e : suc k + 1 ≡ suc (k + 1) = omega arith in
        let same : length (frames version start (take (suc k + 1) (q ∷ qs)))
        ≡ length (frame version start q ++ frames version (digest_of version start q) (take (k + 1) qs)) =
        ap (λ (j : ℕ). length (frames version start (take j (q ∷ qs)))) e in
        inr (omega (
          arith,
          less,
          le,
          same,
          length-append (frame version start q) (frames version (digest_of version start q) (take (k + 1) qs)),
        ))

-- The same of a whole store.
pub front_is_store : (head : Head) (records : List Entry) (n : ℕ) → IsHead head
    → AllByRecursion (IsRecord (version_of head)) records → head_size (version_of head) ≤ n
    → FrontIsStore head records n (take n (stored head records ++ 0 ∷ []))
front_is_store head records n allowed each enough =
    let start : List ℕ = first_digest head in
    let size : ℕ = head_size (version_of head) in
    let rest = front_lem (version_of head) start records (n - size) each in
    record {
      count = rest.count;
      tail = rest.tail;
      store = record {
        behind = take (n - size) (frames (version_of head) start records ++ 0 ∷ []);
        begins = record {
          spelled = ap (take n) (append_assoc (head_bytes head) (frames (version_of head) start records) (0 ∷ []))
              ∙ take_behind n (n - size) (head_bytes head) (frames (version_of head) start records ++ 0 ∷ [])
              (omega (arith, enough, length-head head allowed));
          allowed = allowed;
        };
        reads = rest.reads;
      };
      few = rest.few;
      whole = omega (
        arith,
        rest.whole,
        enough,
        length-head head allowed,
        length-append (head_bytes head) (frames (version_of head) start (take rest.count records)),
      );
      most = most_of rest.count rest.most;
    }
  where
    most_of : (k : ℕ) → (k ≡ length records) ⊎ (n - head_size (version_of head) < length (frames (version_of head) (first_digest head) (take (k + 1) records)))
        → (k ≡ length records) ⊎ (n < length (stored head (take (k + 1) records)))
    most_of k (inl all) = inl all
    most_of k (inr less) =
        inr (omega (
          arith,
          less,
          enough,
          length-head head allowed,
          length-append (head_bytes head) (frames (version_of head) (first_digest head) (take (k + 1) records)),
        ))

-- a front that is shorter than a head
short_front : (head : Head) (records : List Entry) (n : ℕ) (version : Version) → version_of head ≡ version
    → n < head_size version → 38 ≤ n → HasShortHead (take n (stored head records ++ 0 ∷ []))
short_front head records n First is less enough = absurd (omega (arith, less, enough))
short_front head records n Second is less enough =
    let file : List ℕ = stored head records ++ 0 ∷ [] in
    let m : ℕ = n - 9 in
    let e : n ≡ suc (suc (suc (suc (suc (suc (suc (suc (suc m)))))))) = omega (arith, enough) in
    record {
      behind = take m (drop 9 file);
      spelled = ap (λ (k : ℕ). take k file) e
          ∙ ap (λ (v : Version). magic ++ version_byte v ∷ take m (drop 9 file)) is;
      short = omega (arith, less, length-take {A = ℕ} n file);
    }

pub no_store : (head : Head) (records : List Entry) (n : ℕ) → n < head_size (version_of head)
    → IsRefusedFor TooShort (take n (stored head records ++ 0 ∷ []))
no_store head records n less = elim (cases_lt n 38) [
  | inl few ↦ inl (omega (arith, few, length-take {A = ℕ} n (stored head records ++ 0 ∷ [])))
  | inr enough ↦ inr (short_front head records n (version_of head) refl less enough)
]
