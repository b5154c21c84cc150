-- Beginnings of digits: the ids that begin with one stand together, from the least of them on.
use Rattle.std.proofs.Common.{◌≡◌, ◌⊎◌, ℕ, zero, suc, ◌+◌, ◌*◌, ◌/◌, ◌%◌, ◌<◌, ◌≤◌, List, [], ◌∷◌, ◌++◌, length}
use Rattle.std.proofs.Common.{replicate, slice_index, true, false, Some, Ok}
use Rattle.std.proofs.Common.{refl, sym, ap, ◌∙◌, subst, inl, inr, arith, eqb-true}
use Rattle.std.specs.Prelude.{nat_eq}
use Rattle.std.specs.Cmp.Lexicographic.{slice_cmp}
use Rattle.std.specs.List.{list_all, starts_with}
use Rattle.std.specs.Ordering.{is_gt, nat_cmp, ordering_then}
use Rattle.std.specs.declared.cmp.Ordering.{Ordering}
use Rattle.std.specs.declared.cmp.Ordering.TheVariants.{Less, Equal, Greater}
use Rattle.std.proofs.lemmas.Bool.{and_from, and_parts, cases_lt, eq-eqb, true≢false}
use Rattle.std.proofs.lemmas.Cmp.{ranked}
use Rattle.std.proofs.lemmas.List.{get_or_past}
use Rattle.hex.specs.Hex.{decode_pairs, encode_lower, encode_with, digit_or_error, hex_digit_value, lower_digits}
use Rattle.hex.specs.Hex.{pair_value, value_at}
use Rattle.hex.proofs.HexLemmas.{IsDigits-lower_digits}
use Rattle.hex.proofs.Pairs.{cons_byte, decode_pairs-ok_pair}
use Rattle.hg_wireproto.specs.Lookup.{is_lower_digit}

-- the digit of that value
abbrev digit : ℕ → ℕ
digit n = slice_index lower_digits n

-- the key begins the digits of these bytes
abbrev pub Starts : List ℕ → List ℕ → Type 0
Starts [] id = Unit {0}
Starts (k ∷ []) [] = ⊥
Starts (k ∷ []) (b ∷ bs) = k ≡ digit (b / 16)
Starts (k ∷ l ∷ ks) [] = ⊥
Starts (k ∷ l ∷ ks) (b ∷ bs) = (k ≡ digit (b / 16)) × (l ≡ digit (b % 16)) × Starts ks bs

pub starts_from : (key id : List ℕ) → starts_with nat_eq (encode_lower id) key ≡ true → Starts key id
unfolding encode_with
starts_from [] id is = tt
starts_from (k ∷ []) [] is = absurd (let e = is in cc)
starts_from (k ∷ []) (b ∷ bs) is = eqb-true k (digit (b / 16)) (and_parts (nat_eq k (digit (b / 16))) true is).0
starts_from (k ∷ l ∷ ks) [] is = absurd (let e = is in cc)
starts_from (k ∷ l ∷ ks) (b ∷ bs) is =
    let rest = starts_with nat_eq (encode_lower bs) ks in
    let one = and_parts (nat_eq k (digit (b / 16))) _ is in
    let two = and_parts (nat_eq l (digit (b % 16))) rest one.1 in
    (eqb-true k (digit (b / 16)) one.0, eqb-true l (digit (b % 16)) two.0, starts_from ks bs two.1)

pub starts_to : (key id : List ℕ) → Starts key id → starts_with nat_eq (encode_lower id) key ≡ true
unfolding encode_with
starts_to [] id is = refl
starts_to (k ∷ []) [] is = absurd is
starts_to (k ∷ []) (b ∷ bs) is = and_from (nat_eq k (digit (b / 16))) true (eq-eqb k (digit (b / 16)) is) refl
starts_to (k ∷ l ∷ ks) [] is = absurd is
starts_to (k ∷ l ∷ ks) (b ∷ bs) is =
    and_from (nat_eq k (digit (b / 16))) _ (eq-eqb k (digit (b / 16)) is.0)
    (and_from (nat_eq l (digit (b % 16))) _ (eq-eqb l (digit (b % 16)) is.1) (starts_to ks bs is.2))

-- ---- digits

-- a lower-case digit has a value below 16
small : (k n : ℕ) → is_lower_digit k ≡ true → k ≡ digit n → n < 16
small k n lower is = elim (cases_lt n 16) [
  | inl low ↦ low
  | inr high ↦
      let zero_is : k ≡ 0 = is ∙ get_or_past lower_digits n 0 high in
      absurd (true≢false (sym (subst (λ (j : ℕ). is_lower_digit j ≡ true) zero_is lower)))
]

value_of : (k n : ℕ) → n < 16 → k ≡ digit n → hex_digit_value k ≡ Some n
value_of k n low is = ap hex_digit_value is ∙ IsDigits-lower_digits n low

-- and no other has it
same_value : (k m n : ℕ) → is_lower_digit k ≡ true → k ≡ digit m → k ≡ digit n → m ≡ n
same_value k m n lower one two =
    let a = value_of k m (small k m lower one) one in
    let b = value_of k n (small k n lower two) two in
    cc

-- ---- the order

abbrev pub IsLe : List ℕ → List ℕ → Type 0
IsLe a b = is_gt (slice_cmp nat_cmp a b) ≡ false

le_parts : (x y : ℕ) (xs ys : List ℕ) → IsLe (x ∷ xs) (y ∷ ys) → (x < y) ⊎ ((x ≡ y) × IsLe xs ys)
le_parts x y xs ys low = by (nat_cmp x y) refl
  where
    by : (o : Ordering) → nat_cmp x y ≡ o → (x < y) ⊎ ((x ≡ y) × IsLe xs ys)
    by Less is = inl (ranked x y Less (sym is))
    by Equal is = inr (
      ranked x y Equal (sym is),
      subst (λ (o : Ordering). is_gt (ordering_then o (slice_cmp nat_cmp xs ys)) ≡ false) is low,
    )
    by Greater is = absurd (true≢false (subst (λ (o : Ordering). is_gt (ordering_then o (slice_cmp nat_cmp xs ys)) ≡ false) is low))

le_first : (x y : ℕ) (xs ys : List ℕ) → x ≤ y → IsLe xs ys → IsLe (x ∷ xs) (y ∷ ys)
le_first x y xs ys first rest = by (nat_cmp x y) refl
  where
    by : (o : Ordering) → nat_cmp x y ≡ o → IsLe (x ∷ xs) (y ∷ ys)
    by Less is = ap (λ (o : Ordering). is_gt (ordering_then o (slice_cmp nat_cmp xs ys))) is
    by Equal is = ap (λ (o : Ordering). is_gt (ordering_then o (slice_cmp nat_cmp xs ys))) is ∙ rest
    by Greater is = absurd (let high : y < x = ranked x y Greater (sym is) in omega (arith, first, high))

-- what stands between two that begin with the key begins with it
pub between : (key a b c : List ℕ) → list_all is_lower_digit key ≡ true → Starts key a → Starts key c → IsLe a b
    → IsLe b c → Starts key b
between [] a b c lower one three low high = tt
between (k ∷ []) [] b c lower one three low high = absurd one
between (k ∷ l ∷ ks) [] b c lower one three low high = absurd one
between (k ∷ []) (x ∷ xs) b [] lower one three low high = absurd three
between (k ∷ l ∷ ks) (x ∷ xs) b [] lower one three low high = absurd three
between (k ∷ []) (x ∷ xs) [] (z ∷ zs) lower one three low high = absurd (let e = low in cc)
between (k ∷ l ∷ ks) (x ∷ xs) [] (z ∷ zs) lower one three low high = absurd (let e = low in cc)
between (k ∷ []) (x ∷ xs) (y ∷ ys) (z ∷ zs) lower one three low high =
    let first = and_parts (is_lower_digit k) true lower in
    let same : x / 16 ≡ z / 16 = same_value k (x / 16) (z / 16) first.0 one three in
    let below : x ≤ y = first_le x y xs ys low in
    let above : y ≤ z = first_le y z ys zs high in
    let middle : x / 16 ≡ y / 16 = omega (arith, same, below, above) in
    one ∙ ap digit middle
  where
    first_le : (x y : ℕ) (xs ys : List ℕ) → IsLe (x ∷ xs) (y ∷ ys) → x ≤ y
    first_le x y xs ys low = elim (le_parts x y xs ys low) [
      | inl less ↦ omega (arith, less)
      | inr both ↦ omega (arith, both.0)
    ]
between (k ∷ l ∷ ks) (x ∷ xs) (y ∷ ys) (z ∷ zs) lower one three low high =
    let first = and_parts (is_lower_digit k) _ lower in
    let second = and_parts (is_lower_digit l) (list_all is_lower_digit ks) first.1 in
    let upper : x / 16 ≡ z / 16 = same_value k (x / 16) (z / 16) first.0 one.0 three.0 in
    let under : x % 16 ≡ z % 16 = same_value l (x % 16) (z % 16) second.0 one.1 three.1 in
    let same : x ≡ z = omega (arith, upper, under) in
    elim (le_parts x y xs ys low) [
      | inl less ↦ elim (le_parts y z ys zs high) [
        | inl more ↦ absurd (omega (arith, same, less, more))
        | inr both ↦ absurd (omega (arith, same, less, both.0))
      ]
      | inr left ↦ elim (le_parts y z ys zs high) [
        | inl more ↦ absurd (omega (arith, same, left.0, more))
        | inr right ↦ (
          one.0 ∙ ap (λ (n : ℕ). digit (n / 16)) left.0,
          one.1 ∙ ap (λ (n : ℕ). digit (n % 16)) left.0,
          between ks xs ys zs second.1 one.2 three.2 left.1 right.1,
        )
      ]
    ]

-- ---- the least that begins with the key

zeros_le : (bs : List ℕ) → IsLe (replicate (length bs) 0) bs
zeros_le [] = refl
zeros_le (b ∷ bs) = le_first 0 b (replicate (length bs) 0) bs (omega arith) (zeros_le bs)

-- zeros behind the key, in place of what stands there
abbrev pub cut : List ℕ → List ℕ → List ℕ
cut [] id = replicate (length id) 0
cut (k ∷ []) [] = []
cut (k ∷ []) (b ∷ bs) = b / 16 * 16 ∷ replicate (length bs) 0
cut (k ∷ l ∷ ks) [] = []
cut (k ∷ l ∷ ks) (b ∷ bs) = b ∷ cut ks bs

pub cut_le : (key id : List ℕ) → IsLe (cut key id) id
cut_le [] id = zeros_le id
cut_le (k ∷ []) [] = refl
cut_le (k ∷ []) (b ∷ bs) = le_first (b / 16 * 16) b (replicate (length bs) 0) bs (omega arith) (zeros_le bs)
cut_le (k ∷ l ∷ ks) [] = refl
cut_le (k ∷ l ∷ ks) (b ∷ bs) = le_first b b (cut ks bs) bs (omega arith) (cut_le ks bs)

pub cut_starts : (key id : List ℕ) → Starts key id → Starts key (cut key id)
cut_starts [] id is = tt
cut_starts (k ∷ []) [] is = is
cut_starts (k ∷ []) (b ∷ bs) is =
    let same : b / 16 * 16 / 16 ≡ b / 16 = omega arith in
    is ∙ ap digit (sym same)
cut_starts (k ∷ l ∷ ks) [] is = is
cut_starts (k ∷ l ∷ ks) (b ∷ bs) is = (is.0, is.1, cut_starts ks bs is.2)

pair_is : (i k l m n : ℕ) → hex_digit_value k ≡ Some m → hex_digit_value l ≡ Some n
    → pair_value k l i ≡ Ok (m * 16 + n)
pair_is i k l m n one two =
    let a : value_at k i ≡ Ok m = ap (digit_or_error k i) one in
    let b : value_at l (i + 1) ≡ Ok n = ap (digit_or_error l (i + 1)) two in
    rw (a, b) refl

zeros_read : (i n : ℕ) → decode_pairs i (replicate (2 * n) 48) ≡ Ok (replicate n 0)
unfolding decode_pairs
zeros_read i zero = refl
zeros_read i (suc n) =
    let two : 2 * suc n ≡ suc (suc (2 * n)) = omega arith in
    ap (λ (m : ℕ). decode_pairs i (replicate m 48)) two
    ∙ decode_pairs-ok_pair i 48 48 0 (replicate (2 * n) 48) refl
    ∙ ap (cons_byte 0) (zeros_read (i + 2) n)

-- the digits of the key, with zeros behind them, are its digits
pub cut_read : (i : ℕ) (key id : List ℕ) (m : ℕ) → length key + m ≡ 2 * length id
    → list_all is_lower_digit key ≡ true → Starts key id
    → decode_pairs i (key ++ replicate m 48) ≡ Ok (cut key id)
cut_read i [] id m long lower is =
    let all : m ≡ 2 * length id = omega (arith, long) in
    ap (λ (n : ℕ). decode_pairs i (replicate n 48)) all ∙ zeros_read i (length id)
cut_read i (k ∷ []) [] m long lower is = absurd is
cut_read i (k ∷ []) (b ∷ bs) m long lower is =
    let first = and_parts (is_lower_digit k) true lower in
    let all : m ≡ suc (2 * length bs) = omega (arith, long) in
    let value : hex_digit_value k ≡ Some (b / 16) = value_of k (b / 16) (small k (b / 16) first.0 is) is in
    let sum : b / 16 * 16 + 0 ≡ b / 16 * 16 = omega arith in
    ap (λ (n : ℕ). decode_pairs i (k ∷ replicate n 48)) all
    ∙ decode_pairs-ok_pair i k 48 (b / 16 * 16 + 0) (replicate (2 * length bs) 48) (pair_is i k 48 (b / 16) 0 value refl)
    ∙ ap (cons_byte (b / 16 * 16 + 0)) (zeros_read (i + 2) (length bs))
    ∙ ap (λ (n : ℕ). Ok (n ∷ replicate (length bs) 0)) sum
cut_read i (k ∷ l ∷ ks) [] m long lower is = absurd is
cut_read i (k ∷ l ∷ ks) (b ∷ bs) m long lower is =
    let first = and_parts (is_lower_digit k) _ lower in
    let second = and_parts (is_lower_digit l) (list_all is_lower_digit ks) first.1 in
    let high : hex_digit_value k ≡ Some (b / 16) = value_of k (b / 16) (small k (b / 16) first.0 is.0) is.0 in
    let low : hex_digit_value l ≡ Some (b % 16) = value_of l (b % 16) (small l (b % 16) second.0 is.1) is.1 in
    let sum : b / 16 * 16 + b % 16 ≡ b = omega arith in
    decode_pairs-ok_pair i k l (b / 16 * 16 + b % 16) (ks ++ replicate m 48) (pair_is i k l (b / 16) (b % 16) high low)
    ∙ ap (cons_byte (b / 16 * 16 + b % 16)) (cut_read (i + 2) ks bs m (omega (arith, long)) second.1 is.2)
    ∙ ap (λ (n : ℕ). Ok (n ∷ cut ks bs)) sum
