-- Lists that begin with records.
use Rattle.std.proofs.Common.{◌≡◌, ℕ, ◌+◌, ◌<◌, ◌^◌, List, [], ◌∷◌, ◌++◌, length, take, drop, refl, sym, ap, ◌∙◌, arith}
use Rattle.std.proofs.Common.{append_assoc, length-append}
use Rattle.std.specs.Int.{w32, w64, from_be_bytes}
use Rattle.std.specs.List.{AllByRecursion}
use Rattle.std.proofs.lemmas.Nat.{from_be_bytes-to_be_bytes_4, from_be_bytes-to_be_bytes_8}
use Rattle.std.proofs.lemmas.List.{take_at, drop_at, append-nil, take_more}
use Rattle.std.proofs.Common.{◌≤◌, get_or}
use Rattle.sha1.specs.Sha1.{sha1, digest_bytes}
use Rattle.hg_store.specs.declared.head.Head.{Head}
use Rattle.hg_store.specs.declared.head.Version.{Version}
use Rattle.hg_store.specs.declared.head.Version.TheVariants.{First, Second}
use Rattle.hg_store.specs.declared.numbers.Numbers.{Numbers}
use Rattle.hg_store.specs.Entries.{Entry}
use Rattle.hg_store.specs.Files.{digest_behind, stored}
use Rattle.hg_store.specs.Head.{first_digest, head_bytes, version_of}
use Rattle.hg_store.specs.Records.{AreNumbers, IsRecord, chained_label, digest_of, frame, frames, label, last_digest, numbers_bytes, numbers_of, numbers_size, open_gate, size_bytes, time_bytes}

-- Of two equal lists the fronts of one length are equal, and so is what follows them.
pub fronts : (a b x y : List ℕ) → length a ≡ length b → a ++ x ≡ b ++ y → (a ≡ b) × (x ≡ y)
fronts a b x y len same = (
  sym (take_at a x (length b) len) ∙ ap (take (length b)) same ∙ take_at b y (length b) refl,
  sym (drop_at a x (length b) len) ∙ ap (drop (length b)) same ∙ drop_at b y (length b) refl,
)

-- Of two equal lists that begin with sizes the sizes are equal, and so is what follows them.
pub size_is : (m n : ℕ) (x y : List ℕ) → m < 2 ^ 32 → n < 2 ^ 32 → size_bytes m ++ x ≡ size_bytes n ++ y
    → (m ≡ n) × (x ≡ y)
size_is m n x y fm fn same =
    let both = fronts (size_bytes m) (size_bytes n) x y refl same in (
      sym (from_be_bytes-to_be_bytes_4 m fm) ∙ ap (from_be_bytes w32) both.0
          ∙ from_be_bytes-to_be_bytes_4 n fn,
      both.1,
    )

time_is : (m n : ℕ) (x y : List ℕ) → m < 2 ^ 64 → n < 2 ^ 64 → time_bytes m ++ x ≡ time_bytes n ++ y
    → (m ≡ n) × (x ≡ y)
time_is m n x y fm fn same =
    let both = fronts (time_bytes m) (time_bytes n) x y refl same in (
      sym (from_be_bytes-to_be_bytes_8 m fm) ∙ ap (from_be_bytes w64) both.0
          ∙ from_be_bytes-to_be_bytes_8 n fn,
      both.1,
    )

-- after the open gate
behind : (a b : ℕ) (x y : List ℕ) → a ∷ x ≡ b ∷ y → x ≡ y
behind a b x y same = ap (drop 1) same

named_is : (a b : ℕ) (x y : List ℕ) → a ∷ x ≡ b ∷ y → (a ≡ b) × (x ≡ y)
named_is a b x y same = let first : a ≡ b = cc in (first, behind a b x y same)

-- an open gate is not shut
pub not_shut : (version : Version) → 0 ≡ open_gate version → ⊥
not_shut First same = omega (arith, same)
not_shut Second same = omega (arith, same)

pub length-numbers : (version : Version) (numbers : Numbers)
    → length (numbers_bytes version numbers) ≡ numbers_size version
length-numbers First numbers = refl
length-numbers Second numbers = refl

-- Of two equal lists that begin with numbers the numbers are equal, and so is what follows them.
pub numbers_are : (version : Version) (a b : Numbers) (x y : List ℕ) → AreNumbers version a → AreNumbers version b
    → numbers_bytes version a ++ x ≡ numbers_bytes version b ++ y → (a ≡ b) × (x ≡ y)
numbers_are First a b x y fa fb same =
    let size = size_is a.size b.size x y fa.0 fb.0 same in
    let time : a.time ≡ b.time = fa.1 ∙ sym fb.1 in
    let named : a.named ≡ b.named = fa.2 ∙ sym fb.2 in
    (λ i. record { size = size.0 i; time = time i; named = named i }, size.1)
numbers_are Second a b x y fa fb same =
    let size = size_is a.size b.size (time_bytes a.time ++ a.named ∷ x) (time_bytes b.time ++ b.named ∷ y)
    fa.0 fb.0 same in
    let time = time_is a.time b.time (a.named ∷ x) (b.named ∷ y) fa.1 fb.1 size.1 in
    let named = named_is a.named b.named x y time.1 in
    (λ i. record { size = size.0 i; time = time.0 i; named = named.0 i }, named.1)

-- a digest has 20 bytes
pub length-sha1 : (m : List ℕ) → length (sha1 m) ≡ 20
unfolding sha1 digest_bytes
length-sha1 m = refl

pub length-digest : (version : Version) (before : List ℕ) (r : Entry) → length (digest_of version before r) ≡ 20
length-digest version before r = length-sha1 (before ++ (chained_label version (label version r) ++ sha1 r.bundle))

pub length-label : (version : Version) (r : Entry)
    → length (label version r) ≡ numbers_size version + length r.stamp.name
length-label version r =
    omega (
      arith,
      length-append (numbers_bytes version (numbers_of r)) r.stamp.name,
      length-numbers version (numbers_of r),
    )

pub length-frame : (version : Version) (before : List ℕ) (r : Entry)
    → length (frame version before r) ≡ 21 + numbers_size version + length r.stamp.name + length r.bundle
length-frame version before r =
    let digest : List ℕ = digest_of version before r in
    omega (
      arith,
      length-append (label version r) (digest ++ r.bundle),
      length-append digest r.bundle,
      length-digest version before r,
      length-label version r,
    )

-- a record that was put after some bytes, part by part
pub frame_put : (version : Version) (before : List ℕ) (r : Entry) (out grown name digest bundle : List ℕ) (numbers : Numbers)
    → numbers ≡ numbers_of r → name ≡ r.stamp.name → digest ≡ digest_of version before r → bundle ≡ r.bundle
    → grown ≡ out ++ (open_gate version ∷ (numbers_bytes version numbers ++ name) ++ (digest ++ bundle))
    → grown ≡ out ++ frame version before r
frame_put version before r out grown name digest bundle numbers numbers_so name_so digest_so bundle_so is =
    is
    ∙ (λ i. out ++ (open_gate version ∷ (numbers_bytes version (numbers_so i) ++ name_so i) ++ (digest_so i ++ bundle_so i)))

-- the frame and what follows it, by its fields
pub frame_fields : (version : Version) (before : List ℕ) (r : Entry) (x : List ℕ)
    → frame version before r ++ x ≡ open_gate version ∷ label version r
    ++ (digest_of version before r ++ (r.bundle ++ x))
frame_fields version before r x =
    ap (λ (l : List ℕ). open_gate version ∷ l)
    (append_assoc (label version r) (digest_of version before r ++ r.bundle) x
    ∙ ap (λ (l : List ℕ). label version r ++ l) (append_assoc (digest_of version before r) r.bundle x))

-- Of two equal lists that begin with labels the labels say the same, and so does what follows them.
pub labels_are : (version : Version) (r s : Entry) (x y : List ℕ) → IsRecord version r → IsRecord version s
    → label version r ++ x ≡ label version s ++ y
    → (r.stamp ≡ s.stamp) × (length r.bundle ≡ length s.bundle) × (x ≡ y)
labels_are version r s x y ir is same =
    let numbers = numbers_are version (numbers_of r) (numbers_of s) (r.stamp.name ++ x) (s.stamp.name ++ y) ir is
    (sym (append_assoc (numbers_bytes version (numbers_of r)) r.stamp.name x) ∙ same
    ∙ append_assoc (numbers_bytes version (numbers_of s)) s.stamp.name y) in
    let names = fronts r.stamp.name s.stamp.name x y (ap (λ (n : Numbers). n.named) numbers.0) numbers.1 in
    let time : r.stamp.time ≡ s.stamp.time = ap (λ (n : Numbers). n.time) numbers.0 in
    (λ i. record { time = time i; name = names.0 i }, ap (λ (n : Numbers). n.size) numbers.0, names.1)

-- the records at the fronts are one
pub frame_is : (version : Version) (before : List ℕ) (r s : Entry) (x y : List ℕ) → IsRecord version r
    → IsRecord version s → frame version before r ++ x ≡ frame version before s ++ y → (r ≡ s) × (x ≡ y)
frame_is version before r s x y ir is same =
    let fields : open_gate version ∷ label version r ++ (digest_of version before r ++ (r.bundle ++ x))
    ≡ open_gate version ∷ label version s ++ (digest_of version before s ++ (s.bundle ++ y)) =
    sym (frame_fields version before r x) ∙ same ∙ frame_fields version before s y in
    let labels = labels_are version r s (digest_of version before r ++ (r.bundle ++ x))
    (digest_of version before s ++ (s.bundle ++ y)) ir is
    (behind (open_gate version) (open_gate version) _ _ fields) in
    let digests = fronts (digest_of version before r) (digest_of version before s) (r.bundle ++ x) (s.bundle ++ y)
    (length-digest version before r ∙ sym (length-digest version before s)) labels.2 in
    let bundles = fronts r.bundle s.bundle x y labels.1 digests.1 in
    (λ i. record { stamp = labels.0 i; bundle = bundles.0 i }, bundles.1)

-- one record more
pub frames-push : (version : Version) (before : List ℕ) (rs : List Entry) (r : Entry) → frames version before (rs ++ r ∷ [])
    ≡ frames version before rs ++ frame version (last_digest version before rs) r
frames-push version before [] r = append-nil (frame version before r)
frames-push version before (q ∷ rs) r =
    ap (λ (l : List ℕ). frame version before q ++ l) (frames-push version (digest_of version before q) rs r)
    ∙ sym (append_assoc (frame version before q) (frames version (digest_of version before q) rs)
    (frame version (last_digest version (digest_of version before q) rs) r))

pub last_digest-push : (version : Version) (before : List ℕ) (rs : List Entry) (r : Entry) → last_digest version before (rs ++ r ∷ [])
    ≡ digest_of version (last_digest version before rs) r
last_digest-push version before [] r = refl
last_digest-push version before (q ∷ rs) r = last_digest-push version (digest_of version before q) rs r

pub each-push : (version : Version) (rs : List Entry) (r : Entry) → AllByRecursion (IsRecord version) rs → IsRecord version r
    → AllByRecursion (IsRecord version) (rs ++ r ∷ [])
each-push version [] r each is = (is, tt)
each-push version (q ∷ rs) r each is = (each.0, each-push version rs r each.1 is)

-- records after others
pub frames-append : (version : Version) (before : List ℕ) (rs more : List Entry) → frames version before (rs ++ more)
    ≡ frames version before rs ++ frames version (last_digest version before rs) more
frames-append version before [] more = refl
frames-append version before (q ∷ rs) more =
    ap (λ (l : List ℕ). frame version before q ++ l) (frames-append version (digest_of version before q) rs more)
    ∙ sym (append_assoc (frame version before q) (frames version (digest_of version before q) rs)
    (frames version (last_digest version (digest_of version before q) rs) more))

pub last_digest-append : (version : Version) (before : List ℕ) (rs more : List Entry) → last_digest version before (rs ++ more)
    ≡ last_digest version (last_digest version before rs) more
last_digest-append version before [] more = refl
last_digest-append version before (q ∷ rs) more = last_digest-append version (digest_of version before q) rs more

pub each-append : (version : Version) (rs more : List Entry) → AllByRecursion (IsRecord version) rs → AllByRecursion (IsRecord version) more
    → AllByRecursion (IsRecord version) (rs ++ more)
each-append version [] more each others = others
each-append version (q ∷ rs) more each others = (each.0, each-append version rs more each.1 others)

-- the records of a batch so far, with one more
pub batch_more : (version : Version) (before : List ℕ) (batch : List Entry) (i : ℕ) (bytes grown digest next : List ℕ) (r : Entry)
    → i < length batch → r ≡ get_or batch i r → bytes ≡ frames version before (take i batch)
    → digest ≡ last_digest version before (take i batch) → next ≡ digest_of version digest r → grown ≡ bytes ++ frame version digest r
    → (grown ≡ frames version before (take (i + 1) batch)) × (next ≡ last_digest version before (take (i + 1) batch))
batch_more version before batch i bytes grown digest next r lt is bytes_are digest_is next_is grown_is =
    let e : take (i + 1) batch ≡ take i batch ++ r ∷ [] = take_more batch i r lt
    ∙ ap (λ (x : Entry). take i batch ++ x ∷ []) (sym is) in (
      grown_is ∙ ap (λ (l : List ℕ). l ++ frame version digest r) bytes_are
          ∙ ap (λ (d : List ℕ). frames version before (take i batch) ++ frame version d r) digest_is
          ∙ sym (frames-push version before (take i batch) r) ∙ ap (frames version before) (sym e),
      next_is ∙ ap (λ (d : List ℕ). digest_of version d r) digest_is ∙ sym (last_digest-push version before (take i batch) r)
          ∙ ap (last_digest version before) (sym e),
    )

-- records of a store, with others after them
pub stored-append : (head : Head) (rs more : List Entry) → stored head (rs ++ more)
    ≡ stored head rs ++ frames (version_of head) (digest_behind head rs) more
stored-append head rs more =
    ap (λ (l : List ℕ). head_bytes head ++ l) (frames-append (version_of head) (first_digest head) rs more)
    ∙ sym (append_assoc (head_bytes head) (frames (version_of head) (first_digest head) rs) (frames (version_of head) (digest_behind head rs) more))

pub some_bytes : (version : Version) (before : List ℕ) (batch : List Entry) → 0 < length batch → 1 ≤ length (frames version before batch)
some_bytes version before [] some = absurd (omega (arith, some))
some_bytes version before (r ∷ rs) some = omega arith
