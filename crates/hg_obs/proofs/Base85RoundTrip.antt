-- Decoding gives back what was encoded, group by group.
use Rattle.std.proofs.Common.{◌≡◌, ◌≢◌, ◌+◌, ◌*◌, ◌/◌, ◌%◌, ◌^◌, ◌<◌, ◌≤◌, ◌==◌, ◌&&◌, ℕ, suc, Bool, true}
use Rattle.std.proofs.Common.{false, cond, ltb, lt-ltb, ne_eqb, List, [], ◌∷◌, ◌++◌, length, Ok, Err, refl}
use Rattle.std.proofs.Common.{sym, ap, subst, ◌∙◌, arith}
use Rattle.std.specs.Int.{w32, from_be_bytes}
use Rattle.std.specs.List.{list_all, flat_map}
use Rattle.std.proofs.lemmas.List.{length-append}
use Rattle.std.proofs.lemmas.List.Concat.{flat_map-cons}
use Rattle.hg_types.specs.Bytes.{IsBytes}
use Rattle.hg_obs.specs.declared.fault.Base85Fault.TheVariants.{BadDigit, BadLength, Overflow}
use Rattle.hg_obs.specs.Base85.{digit_value, digit_at, is_digit, fives, fours, fits, group_value}
use Rattle.hg_obs.specs.Base85.{filled_value, group_bytes, group_text, decoded, decoded_groups, encoded}
use Rattle.hg_obs.proofs.Base85Tables.{digit_back, tilde}

and_true : (p q : Bool) → p ≡ true → q ≡ true → (p && q) ≡ true
and_true true q h k = k
and_true false q h k = h

digit_ok : (value : ℕ) → value < 85 → is_digit (digit_at value) ≡ true
digit_ok value less = ap (λ (n : ℕ). ltb n 85) (digit_back value less) ∙ lt-ltb value 85 less

-- ---- a number and its five digits

-- what is left of a number when its last digits are cut off
abbrev n1 : ℕ → ℕ
n1 n = n / 85

abbrev n2 : ℕ → ℕ
n2 n = n / 7225

abbrev n3 : ℕ → ℕ
n3 n = n / 614125

abbrev n4 : ℕ → ℕ
n4 n = n / 52200625

cut_1 : (n : ℕ) → n ≡ n1 n * 85 + n % 85
cut_1 n = omega arith

cut_2 : (n : ℕ) → n1 n ≡ n2 n * 85 + n1 n % 85
cut_2 n = omega arith

cut_3 : (n : ℕ) → n2 n ≡ n3 n * 85 + n2 n % 85
cut_3 n = omega arith

cut_4 : (n : ℕ) → n3 n ≡ n4 n * 85 + n3 n % 85
cut_4 n = omega arith

below_85 : (n : ℕ) → n % 85 < 85
below_85 n = omega arith

top_below : (n : ℕ) → n < 2 ^ 32 → n4 n < 85
top_below n less = omega arith

-- ---- groups of one to four bytes, as the number that they are when they are filled

record Number (n : ℕ) : Type 0 where
  x4 : digit_value (digit_at (n4 n)) ≡ n4 n
  x3 : digit_value (digit_at (n3 n % 85)) ≡ n3 n % 85
  x2 : digit_value (digit_at (n2 n % 85)) ≡ n2 n % 85
  x1 : digit_value (digit_at (n1 n % 85)) ≡ n1 n % 85
  x0 : digit_value (digit_at (n % 85)) ≡ n % 85
  ok4 : is_digit (digit_at (n4 n)) ≡ true
  ok3 : is_digit (digit_at (n3 n % 85)) ≡ true
  ok2 : is_digit (digit_at (n2 n % 85)) ≡ true
  ok1 : is_digit (digit_at (n1 n % 85)) ≡ true
  ok0 : is_digit (digit_at (n % 85)) ≡ true

number : (n : ℕ) → n < 2 ^ 32 → Number n
number n less = record {
  x4 = digit_back (n4 n) (top_below n less);
  x3 = digit_back (n3 n % 85) (below_85 (n3 n));
  x2 = digit_back (n2 n % 85) (below_85 (n2 n));
  x1 = digit_back (n1 n % 85) (below_85 (n1 n));
  x0 = digit_back (n % 85) (below_85 n);
  ok4 = digit_ok (n4 n) (top_below n less);
  ok3 = digit_ok (n3 n % 85) (below_85 (n3 n));
  ok2 = digit_ok (n2 n % 85) (below_85 (n2 n));
  ok1 = digit_ok (n1 n % 85) (below_85 (n1 n));
  ok0 = digit_ok (n % 85) (below_85 n);
}

-- the value of digits by theirs
five_values : (a b c d e : ℕ) → group_value (a ∷ b ∷ c ∷ d ∷ e ∷ [])
    ≡ (((digit_value a * 85 + digit_value b) * 85 + digit_value c) * 85 + digit_value d) * 85 + digit_value e
five_values a b c d e = omega arith

abbrev two_digits : ℕ → List ℕ
two_digits n = digit_at (n4 n) ∷ digit_at (n3 n % 85) ∷ []

abbrev three_digits : ℕ → List ℕ
three_digits n = digit_at (n4 n) ∷ digit_at (n3 n % 85) ∷ digit_at (n2 n % 85) ∷ []

abbrev four_digits : ℕ → List ℕ
four_digits n = digit_at (n4 n) ∷ digit_at (n3 n % 85) ∷ digit_at (n2 n % 85) ∷ digit_at (n1 n % 85) ∷ []

abbrev five_digits : ℕ → List ℕ
five_digits n = digit_at (n4 n) ∷ digit_at (n3 n % 85) ∷ digit_at (n2 n % 85) ∷ digit_at (n1 n % 85)
    ∷ digit_at (n % 85) ∷ []

value_2 : (n : ℕ) → n < 2 ^ 32 → filled_value (two_digits n) ≡ n3 n * 614125 + 614124
value_2 n less =
    let x = number n less in
    let four = x.x4 in
    let three = x.x3 in
    let cut = cut_4 n in
    let t = tilde in
    five_values (digit_at (n4 n)) (digit_at (n3 n % 85)) 126 126 126 ∙ omega arith

value_3 : (n : ℕ) → n < 2 ^ 32 → filled_value (three_digits n) ≡ n2 n * 7225 + 7224
value_3 n less =
    let x = number n less in
    let four = x.x4 in
    let three = x.x3 in
    let two = x.x2 in
    let cut4 = cut_4 n in
    let cut3 = cut_3 n in
    let t = tilde in
    five_values (digit_at (n4 n)) (digit_at (n3 n % 85)) (digit_at (n2 n % 85)) 126 126 ∙ omega arith

value_4 : (n : ℕ) → n < 2 ^ 32 → filled_value (four_digits n) ≡ n1 n * 85 + 84
value_4 n less =
    let x = number n less in
    let four = x.x4 in
    let three = x.x3 in
    let two = x.x2 in
    let one = x.x1 in
    let cut4 = cut_4 n in
    let cut3 = cut_3 n in
    let cut2 = cut_2 n in
    let t = tilde in
    five_values (digit_at (n4 n)) (digit_at (n3 n % 85)) (digit_at (n2 n % 85)) (digit_at (n1 n % 85)) 126
    ∙ omega arith

value_5 : (n : ℕ) → n < 2 ^ 32 → filled_value (five_digits n) ≡ n
value_5 n less =
    let x = number n less in
    let four = x.x4 in
    let three = x.x3 in
    let two = x.x2 in
    let one = x.x1 in
    let zero_th = x.x0 in
    let cut4 = cut_4 n in
    let cut3 = cut_3 n in
    let cut2 = cut_2 n in
    let cut1 = cut_1 n in
    five_values (digit_at (n4 n)) (digit_at (n3 n % 85)) (digit_at (n2 n % 85)) (digit_at (n1 n % 85))
    (digit_at (n % 85)) ∙ omega arith

-- ---- the front bytes of a number that is a little greater

bytes_1 : (a v : ℕ) → a < 256 → a * 16777216 ≤ v → v < a * 16777216 + 16777216 → v / 16777216 % 256 ≡ a
bytes_1 a v small low high = omega arith

bytes_2 : (a b v : ℕ) → b < 256 → a * 16777216 + b * 65536 ≤ v → v < a * 16777216 + b * 65536 + 65536
    → v / 65536 % 256 ≡ b
bytes_2 a b v small low high = omega arith

bytes_3 : (a b c v : ℕ) → c < 256 → a * 16777216 + b * 65536 + c * 256 ≤ v
    → v < a * 16777216 + b * 65536 + c * 256 + 256 → v / 256 % 256 ≡ c
bytes_3 a b c v small low high = omega arith

bytes_4 : (a b c d v : ℕ) → d < 256 → v ≡ a * 16777216 + b * 65536 + c * 256 + d → v % 256 ≡ d
bytes_4 a b c d v small e = omega arith

-- ---- each size of a group

record Back (bytes text : List ℕ) : Type 0 where
  digits : list_all is_digit text ≡ true
  fit : list_all fits (fives text) ≡ true
  same : flat_map group_bytes (fives text) ≡ bytes

one_byte : (a n : ℕ) → a < 256 → n ≡ a * 16777216 → Back (a ∷ []) (two_digits n)
one_byte a n small is =
    let less : n < 2 ^ 32 = omega arith in
    let x = number n less in
    let value = value_2 n less in
    let cut : n ≡ n3 n * 614125 + n % 614125 = omega arith in
    let rest : n % 614125 < 614125 = omega arith in
    let low : a * 16777216 ≤ n3 n * 614125 + 614124 = omega arith in
    let high : n3 n * 614125 + 614124 < a * 16777216 + 16777216 = omega arith in
    let below : n3 n * 614125 + 614124 < 2 ^ 32 = omega arith in
    record {
      digits = and_true _ _ x.ok4 (and_true _ _ x.ok3 refl);
      fit = and_true _ _ (ap (λ (v : ℕ). ltb v (2 ^ 32)) value ∙ lt-ltb _ _ below) refl;
      same = ap (λ (v : ℕ). v / 16777216 % 256 ∷ []) value
          ∙ ap (λ (b : ℕ). b ∷ []) (bytes_1 a (n3 n * 614125 + 614124) small low high);
    }

two_bytes : (a b n : ℕ) → a < 256 → b < 256 → n ≡ a * 16777216 + b * 65536
    → Back (a ∷ b ∷ []) (three_digits n)
two_bytes a b n small_a small_b is =
    let less : n < 2 ^ 32 = omega arith in
    let x = number n less in
    let value = value_3 n less in
    let cut : n ≡ n2 n * 7225 + n % 7225 = omega arith in
    let rest : n % 7225 < 7225 = omega arith in
    let low : a * 16777216 + b * 65536 ≤ n2 n * 7225 + 7224 = omega arith in
    let high : n2 n * 7225 + 7224 < a * 16777216 + b * 65536 + 65536 = omega arith in
    let below : n2 n * 7225 + 7224 < 2 ^ 32 = omega arith in
    let first = bytes_1 a (n2 n * 7225 + 7224) small_a (omega arith) (omega arith) in
    let second = bytes_2 a b (n2 n * 7225 + 7224) small_b low high in
    record {
      digits = and_true _ _ x.ok4 (and_true _ _ x.ok3 (and_true _ _ x.ok2 refl));
      fit = and_true _ _ (ap (λ (v : ℕ). ltb v (2 ^ 32)) value ∙ lt-ltb _ _ below) refl;
      same = ap (λ (v : ℕ). v / 16777216 % 256 ∷ v / 65536 % 256 ∷ []) value ∙ (λ i. first i ∷ second i ∷ []);
    }

three_bytes : (a b c n : ℕ) → a < 256 → b < 256 → c < 256 → n ≡ a * 16777216 + b * 65536 + c * 256
    → Back (a ∷ b ∷ c ∷ []) (four_digits n)
three_bytes a b c n small_a small_b small_c is =
    let less : n < 2 ^ 32 = omega arith in
    let x = number n less in
    let value = value_4 n less in
    let cut = cut_1 n in
    let rest = below_85 n in
    let low : a * 16777216 + b * 65536 + c * 256 ≤ n1 n * 85 + 84 = omega arith in
    let high : n1 n * 85 + 84 < a * 16777216 + b * 65536 + c * 256 + 256 = omega arith in
    let below : n1 n * 85 + 84 < 2 ^ 32 = omega arith in
    let first = bytes_1 a (n1 n * 85 + 84) small_a (omega arith) (omega arith) in
    let second = bytes_2 a b (n1 n * 85 + 84) small_b (omega arith) (omega arith) in
    let third = bytes_3 a b c (n1 n * 85 + 84) small_c low high in
    record {
      digits = and_true _ _ x.ok4 (and_true _ _ x.ok3 (and_true _ _ x.ok2 (and_true _ _ x.ok1 refl)));
      fit = and_true _ _ (ap (λ (v : ℕ). ltb v (2 ^ 32)) value ∙ lt-ltb _ _ below) refl;
      same = ap (λ (v : ℕ). v / 16777216 % 256 ∷ v / 65536 % 256 ∷ v / 256 % 256 ∷ []) value
          ∙ (λ i. first i ∷ second i ∷ third i ∷ []);
    }

-- a whole group, and what is after it
four_bytes : (a b c d n : ℕ) (bytes text : List ℕ) → a < 256 → b < 256 → c < 256 → d < 256
    → n ≡ a * 16777216 + b * 65536 + c * 256 + d → Back bytes text
    → Back (a ∷ b ∷ c ∷ d ∷ bytes) (five_digits n ++ text)
four_bytes a b c d n bytes text small_a small_b small_c small_d is rest =
    let less : n < 2 ^ 32 = omega arith in
    let x = number n less in
    let value = value_5 n less in
    let first = bytes_1 a n small_a (omega arith) (omega arith) in
    let second = bytes_2 a b n small_b (omega arith) (omega arith) in
    let third = bytes_3 a b c n small_c (omega arith) (omega arith) in
    let fourth = bytes_4 a b c d n small_d is in
    record {
      digits = and_true _ _ x.ok4
          (and_true _ _ x.ok3 (and_true _ _ x.ok2 (and_true _ _ x.ok1 (and_true _ _ x.ok0 rest.digits))));
      fit = and_true _ _ (ap (λ (v : ℕ). ltb v (2 ^ 32)) value ∙ lt-ltb _ _ less) rest.fit;
      same =
          flat_map-cons group_bytes (five_digits n) (fives text)
          ∙ ap (λ (v : ℕ). (v / 16777216 % 256 ∷ v / 65536 % 256 ∷ v / 256 % 256 ∷ v % 256 ∷ [])
          ++ flat_map group_bytes (fives text)) value
          ∙ (λ i. first i ∷ second i ∷ third i ∷ fourth i ∷ rest.same i);
    }

number_of : (a b c d : ℕ) → from_be_bytes w32 (a ∷ b ∷ c ∷ d ∷ []) ≡ a * 16777216 + b * 65536 + c * 256 + d
number_of a b c d = omega arith

back : (bytes : List ℕ) → IsBytes bytes → Back bytes (encoded bytes)
back [] small = record { digits = refl; fit = refl; same = refl }
back (a ∷ []) small = one_byte a (from_be_bytes w32 (a ∷ 0 ∷ 0 ∷ 0 ∷ [])) (small 0) (number_of a 0 0 0
    ∙ omega arith)
back (a ∷ b ∷ []) small =
    two_bytes a b (from_be_bytes w32 (a ∷ b ∷ 0 ∷ 0 ∷ [])) (small 0) (small 1) (number_of a b 0 0
    ∙ omega arith)
back (a ∷ b ∷ c ∷ []) small =
    three_bytes a b c (from_be_bytes w32 (a ∷ b ∷ c ∷ 0 ∷ [])) (small 0) (small 1) (small 2)
    (number_of a b c 0 ∙ omega arith)
back (a ∷ b ∷ c ∷ d ∷ bytes) small =
    let tail : IsBytes bytes = λ i. small (suc (suc (suc (suc i)))) in
    subst (Back (a ∷ b ∷ c ∷ d ∷ bytes)) (sym (flat_map-cons group_text (a ∷ b ∷ c ∷ d ∷ []) (fours bytes))) (
    four_bytes a b c d (from_be_bytes w32 (a ∷ b ∷ c ∷ d ∷ [])) bytes (encoded bytes) (small 0) (small 1)
    (small 2) (small 3) (number_of a b c d) (back bytes tail)
    )

-- no last group has one digit
length_of : (bytes : List ℕ) → length (encoded bytes) % 5 ≢ 1
length_of [] = λ e. absurd (omega arith)
length_of (a ∷ []) = λ e. absurd (omega arith)
length_of (a ∷ b ∷ []) = λ e. absurd (omega arith)
length_of (a ∷ b ∷ c ∷ []) = λ e. absurd (omega arith)
length_of (a ∷ b ∷ c ∷ d ∷ bytes) = λ e.
    let more = ap length (flat_map-cons group_text (a ∷ b ∷ c ∷ d ∷ []) (fours bytes))
    ∙ length-append (group_text (a ∷ b ∷ c ∷ d ∷ [])) (encoded bytes) in
    length_of bytes (omega arith)

pub round_trip : (bytes : List ℕ) → IsBytes bytes → decoded (encoded bytes) ≡ Ok bytes
round_trip bytes small =
    let is = back bytes small in
    ap (λ (c : Bool). cond c
    (cond (length (encoded bytes) % 5 == 1) (Err BadLength) (decoded_groups (encoded bytes)))
    (Err BadDigit)) is.digits
    ∙ ap (λ (c : Bool). cond c (Err BadLength) (decoded_groups (encoded bytes)))
    (ne_eqb _ 1 (length_of bytes))
    ∙ ap (λ (c : Bool). cond c (Ok (flat_map group_bytes (fives (encoded bytes)))) (Err Overflow)) is.fit
    ∙ ap (λ (l : List ℕ). Ok l) is.same
