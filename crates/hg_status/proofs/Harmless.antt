-- No byte of what is shown of a name can begin or end a tag, a value or a line.
use Rattle.std.proofs.Common.{◌≡◌, ℕ, zero, suc, ◌<◌, ◌≤◌, ◌/◌, ◌%◌, ◌+◌, Bool, true, false, List, [], ◌∷◌, ◌++◌, codes, refl, sym, arith}
use Rattle.std.specs.Prelude.{chars, flat_map, if◌then◌else◌, ◌==◌, ◌||◌, nat_lt}
use Rattle.std.specs.Char.{encode_utf8, is_ascii_control, is_control}
use Rattle.std.specs.Fmt.{digit_glyph, digits, digits_onto}
use Rattle.std.specs.List.{list_any}
use Rattle.std.specs.Str.Lossy.{utf8_lossy}
use Rattle.std.proofs.lemmas.Bool.Decides.{nat_tests}
use Rattle.hg_status.specs.Shown.{character_number, escaped_char, html_escaped, is_harmful, is_hidden, shown}

or_none : (x y z : Bool) → (x || y) ≡ false → (y ≡ false → z ≡ false) → (x || z) ≡ false
or_none true y z e f = e
or_none false y z e f = f e

or_both : (x z : Bool) → x ≡ false → z ≡ false → (x || z) ≡ false
or_both true z e f = e
or_both false z e f = f

none_append : (xs ys : List ℕ) → list_any is_harmful xs ≡ false → list_any is_harmful ys ≡ false
    → list_any is_harmful (xs ++ ys) ≡ false
none_append [] ys a b = b
none_append (x ∷ xs) ys a b =
    or_none (is_harmful x) (list_any is_harmful xs) (list_any is_harmful (xs ++ ys)) a
    (λ h. none_append xs ys h b)

low_digit : (d : ℕ) → d < 10 → is_harmful (48 + d) ≡ false
low_digit d low = grind (arith, nat_tests)

high_digit : (d : ℕ) → 10 ≤ d → d < 16 → is_harmful (87 + d) ≡ false
high_digit d low high = grind (arith, nat_tests)

glyph_by : (d : ℕ) (t : Bool) → t ≡ nat_lt d 10 → d < 16
    → is_harmful (if t then 48 + d else (if false then 55 + d else 87 + d)) ≡ false
glyph_by d true e high = low_digit d (grind (arith, nat_tests))
glyph_by d false e high = high_digit d (grind (arith, nat_tests)) high

glyph : (n : ℕ) → is_harmful (digit_glyph false (n % 16)) ≡ false
glyph n = glyph_by (n % 16) (nat_lt (n % 16) 10) refl (omega arith)

either_none : (t : Bool) (xs ys : List ℕ) → list_any is_harmful xs ≡ false → list_any is_harmful ys ≡ false
    → list_any is_harmful (if t then xs else ys) ≡ false
either_none true xs ys a b = a
either_none false xs ys a b = b

digits_by : (k n : ℕ) (acc : List ℕ) → list_any is_harmful acc ≡ false
    → list_any is_harmful (digits_onto k 16 false n acc) ≡ false
digits_by zero n acc none = none
digits_by (suc k) n acc none =
    let front = digit_glyph false (n % 16) ∷ acc in
    let one = or_both (is_harmful (digit_glyph false (n % 16))) (list_any is_harmful acc) (glyph n) none in
    either_none (n / 16 == 0) front (digits_onto k 16 false (n / 16) front) one (digits_by k (n / 16) front one)

number_none : (c : ℕ) → list_any is_harmful (character_number c) ≡ false
unfolding digits
number_none c =
    none_append (codes "\\u{") (digits 16 false c ++ codes "}") refl
    (none_append (digits 16 false c) (codes "}") (digits_by 64 c [] refl) refl)

high_byte : (b : ℕ) → 128 ≤ b → is_harmful b ≡ false
high_byte b high = grind (arith, nat_tests)

two : (a b : ℕ) → 128 ≤ a → 128 ≤ b → list_any is_harmful (a ∷ b ∷ []) ≡ false
two a b h i = or_both (is_harmful a) (list_any is_harmful (b ∷ [])) (high_byte a h)
    (or_both (is_harmful b) false (high_byte b i) refl)

three : (a b c : ℕ) → 128 ≤ a → 128 ≤ b → 128 ≤ c → list_any is_harmful (a ∷ b ∷ c ∷ []) ≡ false
three a b c h i j = or_both (is_harmful a) (list_any is_harmful (b ∷ c ∷ [])) (high_byte a h) (two b c i j)

-- the bytes of a character that is no ASCII
wide_by : (c : ℕ) (s t : Bool) → 128 ≤ c → list_any is_harmful
    (if s then ((192 + c / 64) ∷ (128 + c % 64) ∷ []) else (if t
    then ((224 + c / 4096) ∷ (128 + c / 64 % 64) ∷ (128 + c % 64) ∷ [])
    else ((240 + c / 262144) ∷ (128 + c / 4096 % 64) ∷ (128 + c / 64 % 64) ∷ (128 + c % 64) ∷ []))) ≡ false
wide_by c true t high = two (192 + c / 64) (128 + c % 64) (omega arith) (omega arith)
wide_by c false true high = three (224 + c / 4096) (128 + c / 64 % 64) (128 + c % 64) (omega arith) (omega arith) (omega arith)
wide_by c false false high =
    or_both (is_harmful (240 + c / 262144)) _ (high_byte (240 + c / 262144) (omega arith))
    (three (128 + c / 4096 % 64) (128 + c / 64 % 64) (128 + c % 64) (omega arith) (omega arith) (omega arith))

encoded_by : (c : ℕ) (q : Bool) → q ≡ nat_lt c 128 → is_ascii_control c ≡ false
    → (c == 60) ≡ false → (c == 62) ≡ false → (c == 34) ≡ false → (c == 39) ≡ false
    → list_any is_harmful (if q then c ∷ [] else (if nat_lt c 2048 then ((192 + c / 64) ∷ (128 + c % 64) ∷ [])
    else (if nat_lt c 65536 then ((224 + c / 4096) ∷ (128 + c / 64 % 64) ∷ (128 + c % 64) ∷ [])
    else ((240 + c / 262144) ∷ (128 + c / 4096 % 64) ∷ (128 + c / 64 % 64) ∷ (128 + c % 64) ∷ [])))) ≡ false
encoded_by c true e control less more double single = rw (less, more, double, single, control) refl
encoded_by c false e control less more double single = wide_by c (nat_lt c 2048) (nat_lt c 65536) (grind (arith, nat_tests))

encoded_none : (c : ℕ) → is_ascii_control c ≡ false
    → (c == 60) ≡ false → (c == 62) ≡ false → (c == 34) ≡ false → (c == 39) ≡ false
    → list_any is_harmful (encode_utf8 c) ≡ false
unfolding encode_utf8
encoded_none c control less more double single = encoded_by c (nat_lt c 128) refl control less more double single

control_by : (c : ℕ) → is_control c ≡ false → is_ascii_control c ≡ false
control_by c e = grind (arith, nat_tests)

-- a test that is not passed, of several
first_not : (x y : Bool) → (x || y) ≡ false → x ≡ false
first_not true y e = e
first_not false y e = refl

hidden_by : (c : ℕ) → is_hidden c ≡ false → is_control c ≡ false
unfolding is_hidden
hidden_by c e = first_not (is_control c) _ e

char_by : (c : ℕ) (p q r s t h : Bool) → q ≡ (c == 60) → r ≡ (c == 62) → s ≡ (c == 34) → t ≡ (c == 39)
    → h ≡ is_hidden c → list_any is_harmful
    (if p then codes "&amp;" else if q then codes "&lt;" else if r then codes "&gt;"
    else if s then codes "&quot;" else if t then codes "&#39;"
    else if h then character_number c else encode_utf8 c) ≡ false
char_by c true q r s t h a b d e f = refl
char_by c false true r s t h a b d e f = refl
char_by c false false true s t h a b d e f = refl
char_by c false false false true t h a b d e f = refl
char_by c false false false false true h a b d e f = refl
char_by c false false false false false true a b d e f = number_none c
char_by c false false false false false false a b d e f =
    encoded_none c (control_by c (hidden_by c (sym f))) (sym a) (sym b) (sym d) (sym e)

char_none : (c : ℕ) → list_any is_harmful (escaped_char c) ≡ false
unfolding escaped_char
char_none c = char_by c (c == 38) (c == 60) (c == 62) (c == 34) (c == 39) (is_hidden c) refl refl refl refl refl

all_none : (cs : List ℕ) → list_any is_harmful (flat_map escaped_char cs) ≡ false
all_none [] = refl
all_none (c ∷ cs) = none_append (escaped_char c) (flat_map escaped_char cs) (char_none c) (all_none cs)

pub shown_none : (name : List ℕ) → list_any is_harmful (shown name) ≡ false
unfolding html_escaped
shown_none name = all_none (chars (utf8_lossy name))
