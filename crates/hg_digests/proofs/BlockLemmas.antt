-- The blocks of a message with its padding, one by one.
use Rattle.std.proofs.Common.{◌≡◌, ℕ, suc, ◌<◌, ◌≤◌, ◌+◌, ◌-◌, ◌*◌, ◌/◌, ◌%◌, List, [], ◌∷◌, ◌++◌, length, take, drop, replicate, slice_set, arith, lit≤, refl, sym, ap, ◌∙◌, inl, inr, append_assoc, append-nil, length-append, length-drop}
use Rattle.std.proofs.lemmas.List.{drop-append-le, drop_all, drop-replicate, length-replicate, length-take-le, set-append_right, take-append-le, take-replicate, take_all}
use Rattle.std.proofs.lemmas.Bool.{cases_lt}
use Rattle.std.proofs.Math.Seq.{drop-append-add, drop-append_seam, take-append-add, take-append_seam}
use borrow.Rule.Slice.PartMut.{put_mid, post_of}
use Rattle.sha1.specs.Sha1.{padded_message, padding}
use Rattle.hg_digests.specs.declared.place.Place.{Place}
use Rattle.hg_digests.specs.Messages.{IsWithin, id_in, message_at, text_in}
use Rattle.hg_digests.specs.code.Blocks.{bits_of, block_of, count_of}

-- ---- lists

-- a piece that is put where zeros are
pub put-zeros : (xs ys : List ℕ) (a k n : ℕ) → length xs ≡ a → length ys ≡ k
    → put_mid a k (xs ++ replicate n 0) ys ≡ (xs ++ ys) ++ replicate (n - k) 0
put-zeros xs ys a k n lx ly =
    let front : take a (xs ++ replicate n 0) ≡ xs = rw (← lx) (take-append_seam xs (replicate n 0)) in
    let back : drop a (xs ++ replicate n 0) ≡ replicate n 0 = rw (← lx) (drop-append_seam xs (replicate n 0)) in
    rw (front, back, drop-replicate {X = ℕ} k n 0) (sym (append_assoc xs ys (replicate (n - k) 0)))

-- the first of some zeros is set
pub set-zeros : (xs : List ℕ) (u n y : ℕ) → length xs ≡ u → 0 < n → slice_set (xs ++ replicate n 0) u y ≡ xs ++ (y ∷ replicate (n - 1) 0)
set-zeros xs u n y lx some =
    let e : n ≡ suc (n - 1) = omega arith in
    let at : u - u ≡ 0 = omega arith in
    let here : slice_set (replicate n 0) (u - u) y ≡ y ∷ replicate (n - 1) 0 =
    rw at (ap (λ (k : ℕ). slice_set (replicate k 0) 0 y) e) in
    set-append_right xs (replicate n 0) u u y lx (omega arith) ∙ ap (λ (zs : List ℕ). xs ++ zs) here

-- the first bytes of two lists, of which the first one is shorter
pub take-past : (xs ys : List ℕ) (u k n : ℕ) → length xs ≡ u → n ≡ u + k → take n (xs ++ ys) ≡ xs ++ take k ys
take-past xs ys u k n lx e = rw (e, ← lx) (take-append-add xs ys k)

-- what counts of a list for its first 64 bytes
pub take-front : (xs ys : List ℕ) → take 64 (take 64 xs ++ ys) ≡ take 64 (xs ++ ys)
take-front xs ys = elim (cases_lt (length xs) 64) [
  | inl short ↦
      let same : take 64 xs ≡ xs = take_all 64 xs (omega arith) in
      rw same refl
  | inr long ↦
      let size : length (take 64 xs) ≡ 64 = length-take-le 64 xs long in
      take-append-le 64 (take 64 xs) ys (omega arith) ∙ take_all 64 (take 64 xs) (omega arith) ∙ sym (take-append-le 64 xs ys long)
]

-- ---- the padding

pub length-padding : (n : ℕ) → length (padding n) ≡ (119 - n % 64) % 64 + 9
length-padding n = omega (arith, length-append (replicate ((119 - n % 64) % 64) 0) (bits_of n), length-replicate {A = ℕ} ((119 - n % 64) % 64) 0)

pub length-padded : (m : List ℕ) → length (padded_message m) / 64 ≡ count_of (length m)
length-padded m =
    let size : length (padded_message m) ≡ length m + ((119 - length m % 64) % 64 + 9) =
    length-append m (padding (length m)) ∙ ap (λ (k : ℕ). length m + k) (length-padding (length m)) in
    omega arith

-- a block that begins within the message, or just after it
pub block-of-rest : (m : List ℕ) (k : ℕ) → k * 64 ≤ length m → block_of m k ≡ take 64 (drop (k * 64) m ++ padding (length m))
block-of-rest m k within = ap (take 64) (drop-append-le (k * 64) m (padding (length m)) within)

-- a block that begins after the message has the end of its padding
pub block-of-end : (m : List ℕ) (k : ℕ) → length m < k * 64 → k < count_of (length m) → block_of m k ≡ replicate 56 0 ++ bits_of (length m)
block-of-end m k after there =
    let n : ℕ = length m in
    let z : ℕ = (119 - n % 64) % 64 in
    let d : ℕ = k * 64 - n - 1 in
    let at : k * 64 ≡ length m + suc d = omega arith in
    let left : z - d ≡ 56 = omega arith in
    let within : d ≤ length (replicate z 0) = omega (arith, length-replicate {A = ℕ} z 0) in
    let rest : drop (k * 64) (padded_message m) ≡ replicate 56 0 ++ bits_of n =
    ap (λ (j : ℕ). drop j (padded_message m)) at ∙ drop-append-add m (padding n) (suc d) ∙ drop-append-le d (replicate z 0) (bits_of n) within
    ∙ ap (λ (zs : List ℕ). zs ++ bits_of n) (drop-replicate d z 0 ∙ ap (λ (j : ℕ). replicate j 0) left) in
    ap (take 64) rest ∙ take_all 64 (replicate 56 0 ++ bits_of n) (lit≤ tt)

-- ---- a block whose first bytes are of the message, and the others zeros

pub closed-full : (c : List ℕ) (u n : ℕ) → length c ≡ u → u ≡ 64 → c ++ replicate (64 - u) 0 ≡ take 64 (c ++ padding n)
closed-full c u n lc full =
    let none : 64 - u ≡ 0 = omega arith in
    rw none (append-nil c ∙ sym (take_all 64 c (omega arith)) ∙ sym (take-append-le 64 c (padding n) (omega arith)))

-- the mark, without room for the length
pub closed-marked : (c : List ℕ) (u n : ℕ) → length c ≡ u → u ≡ n % 64 → 56 ≤ u
    → slice_set (c ++ replicate (64 - u) 0) u 0x80 ≡ take 64 (c ++ padding n)
closed-marked c u n lc used late =
    let z : ℕ = (119 - n % 64) % 64 in
    let fits : 63 - u ≤ z = omega arith in
    let within : 63 - u ≤ length (replicate z 0) = omega (arith, length-replicate {A = ℕ} z 0) in
    let one : 64 - u - 1 ≡ 63 - u = omega arith in
    let zeros : take (63 - u) (replicate z 0 ++ bits_of n) ≡ replicate (63 - u) 0 =
    take-append-le (63 - u) (replicate z 0) (bits_of n) within ∙ take-replicate (63 - u) z 0 fits in
    let marked : take (suc (63 - u)) (padding n) ≡ 0x80 ∷ replicate (63 - u) 0 = ap (λ (zs : List ℕ). 0x80 ∷ zs) zeros in
    set-zeros c u (64 - u) 0x80 lc (omega arith) ∙ ap (λ (j : ℕ). c ++ (0x80 ∷ replicate j 0)) one
    ∙ ap (λ (zs : List ℕ). c ++ zs) (sym marked) ∙ sym (take-past c (padding n) u (suc (63 - u)) 64 lc (omega arith))

-- the mark and the length
pub closed-whole : (c : List ℕ) (u n : ℕ) → length c ≡ u → u ≡ n % 64 → u < 56
    → take 56 (slice_set (c ++ replicate (64 - u) 0) u 0x80) ++ bits_of n ≡ take 64 (c ++ padding n)
closed-whole c u n lc used early =
    let z : ℕ = (119 - n % 64) % 64 in
    let zeros_are : z ≡ 55 - u = omega arith in
    let one : 64 - u - 1 ≡ 63 - u = omega arith in
    let set : slice_set (c ++ replicate (64 - u) 0) u 0x80 ≡ c ++ (0x80 ∷ replicate (63 - u) 0) =
    set-zeros c u (64 - u) 0x80 lc (omega arith) ∙ ap (λ (j : ℕ). c ++ (0x80 ∷ replicate j 0)) one in
    let front : take 56 (c ++ (0x80 ∷ replicate (63 - u) 0)) ≡ c ++ (0x80 ∷ replicate (55 - u) 0) =
    take-past c (0x80 ∷ replicate (63 - u) 0) u (suc (55 - u)) 56 lc (omega arith)
    ∙ ap (λ (zs : List ℕ). c ++ (0x80 ∷ zs)) (take-replicate (55 - u) (63 - u) 0 (omega arith)) in
    let size : length (c ++ padding n) ≡ 64 = omega (arith, length-append c (padding n), length-padding n) in
    let left : take 56 (slice_set (c ++ replicate (64 - u) 0) u 0x80) ++ bits_of n ≡ (c ++ (0x80 ∷ replicate (55 - u) 0)) ++ bits_of n =
    ap (λ (zs : List ℕ). take 56 zs ++ bits_of n) set ∙ ap (λ (zs : List ℕ). zs ++ bits_of n) front in
    left ∙ append_assoc c (0x80 ∷ replicate (55 - u) 0) (bits_of n)
    ∙ ap (λ (j : ℕ). c ++ ((0x80 ∷ replicate j 0) ++ bits_of n)) (sym zeros_are) ∙ sym (take_all 64 (c ++ padding n) (omega arith))

-- ---- messages

pub length-text : (bytes : List ℕ) (from to : ℕ) → from ≤ to → to ≤ length bytes → length (text_in bytes from to) ≡ to - from
length-text bytes from to order within = length-take-le (to - from) (drop from bytes) (omega (arith, length-drop from bytes))

pub length-id : (bytes : List ℕ) (at : ℕ) → at + 20 ≤ length bytes → length (id_in bytes at) ≡ 20
length-id bytes at within = length-take-le 20 (drop at bytes) (omega (arith, length-drop at bytes))

pub length-message : (bytes : List ℕ) (place : Place) → IsWithin (length bytes) place
    → length (message_at bytes place) ≡ 40 + (place.to - place.from)
length-message bytes place within =
    let first = length-id bytes place.first within.0 in
    let second = length-id bytes place.second within.1 in
    let text = length-text bytes place.from place.to within.2 within.3 in
    omega (
      arith,
      length-append (id_in bytes place.first ++ id_in bytes place.second) (text_in bytes place.from place.to),
      length-append (id_in bytes place.first) (id_in bytes place.second),
    )

-- what is left of a message after its first block is of its text
pub drop-message : (bytes : List ℕ) (place : Place) (n : ℕ) → IsWithin (length bytes) place → 40 ≤ n
    → drop n (message_at bytes place) ≡ drop (n - 40) (text_in bytes place.from place.to)
drop-message bytes place n within later =
    let ids : List ℕ = id_in bytes place.first ++ id_in bytes place.second in
    let first = length-id bytes place.first within.0 in
    let second = length-id bytes place.second within.1 in
    let size : length ids ≡ 40 = omega (arith, length-append (id_in bytes place.first) (id_in bytes place.second)) in
    let at : n ≡ length ids + (n - 40) = omega arith in
    ap (λ (k : ℕ). drop k (ids ++ text_in bytes place.from place.to)) at ∙ drop-append-add ids (text_in bytes place.from place.to) (n - 40)

-- ---- what is copied into a block

pub put-end : (xs ys zs : List ℕ) → length xs ≡ 64 → ys ≡ zs → put_mid 56 8 xs ys ≡ take 56 xs ++ zs
put-end xs ys zs size e =
    let none : post_of 56 8 xs ≡ [] = drop_all 8 (drop 56 xs) (omega (arith, length-drop 56 xs)) in
    rw (none, append-nil, e) refl

pub put-ids : (a b x y : List ℕ) → x ≡ a → y ≡ b → length a ≡ 20 → length b ≡ 20
    → put_mid 20 20 (put_mid 0 20 (replicate 64 0) x) y ≡ (a ++ b) ++ replicate 24 0
put-ids a b x y ex ey la lb =
    ap (λ (z : List ℕ). put_mid 20 20 (put_mid 0 20 (replicate 64 0) z) y) ex ∙ ap (λ (z : List ℕ). put_mid 20 20 (put_mid 0 20 (replicate 64 0) a) z) ey
    ∙ ap (λ (z : List ℕ). put_mid 20 20 z b) (put-zeros [] a 0 20 64 refl la) ∙ put-zeros a b 20 20 44 la lb

pub put-rest : (rest y : List ℕ) → y ≡ rest → put_mid 0 (length rest) (replicate 64 0) y ≡ rest ++ replicate (64 - length rest) 0
put-rest rest y e = ap (λ (z : List ℕ). put_mid 0 (length rest) (replicate 64 0) z) e ∙ put-zeros [] rest 0 (length rest) 64 refl refl

-- the first block, by what closes it
pub first-block : (ids text block y result : List ℕ) (used size : ℕ) → length ids ≡ 40 → size ≡ 40 + length text
    → (size < 64 → used ≡ size) → (64 ≤ size → used ≡ 64) → block ≡ ids ++ replicate 24 0 → y ≡ take (used - 40) text
    → ((content : List ℕ) → put_mid 40 (used - 40) block y ≡ content ++ replicate (64 - used) 0 → length content ≡ used
    → result ≡ take 64 (content ++ padding size))
    → result ≡ take 64 ((ids ++ text) ++ padding size)
first-block ids text block y result used size lids ls short long eb ey closed =
    let fits : used - 40 ≤ length text = elim (cases_lt size 64) [
      | inl a ↦ let e : used ≡ size = short a in omega arith
      | inr b ↦ let e : used ≡ 64 = long b in omega arith
    ] in
    let low : 40 ≤ used = elim (cases_lt size 64) [
      | inl a ↦ let e : used ≡ size = short a in omega arith
      | inr b ↦ let e : used ≡ 64 = long b in omega arith
    ] in
    let ly : length y ≡ used - 40 = ap length ey ∙ length-take-le (used - 40) text fits in
    let left : 24 - (used - 40) ≡ 64 - used = omega arith in
    let placed : put_mid 40 (used - 40) block y ≡ (ids ++ y) ++ replicate (64 - used) 0 =
    ap (λ (z : List ℕ). put_mid 40 (used - 40) z y) eb ∙ put-zeros ids y 40 (used - 40) 24 lids ly
    ∙ ap (λ (j : ℕ). (ids ++ y) ++ replicate j 0) left in
    let all : length (ids ++ y) ≡ used = omega (arith, length-append ids y) in
    let whole : ids ++ y ≡ take 64 (ids ++ text) = elim (cases_lt size 64) [
      | inl a ↦
          let e : used ≡ size = short a in
          let text_is : take (used - 40) text ≡ text = take_all (used - 40) text (omega arith) in
          ap (λ (z : List ℕ). ids ++ z) (ey ∙ text_is) ∙ sym (take_all 64 (ids ++ text) (omega (arith, length-append ids text)))
      | inr b ↦
          let e : used - 40 ≡ 24 = omega (arith, long b) in
          ap (λ (z : List ℕ). ids ++ z) (ey ∙ ap (λ (k : ℕ). take k text) e) ∙ sym (take-past ids text 40 24 64 lids refl)
    ] in
    closed (ids ++ y) placed all ∙ ap (λ (z : List ℕ). take 64 (z ++ padding size)) whole ∙ take-front (ids ++ text) (padding size)
