-- The escapes of a batch: what is read of the front of a text, and what is written of one.
use Rattle.std.proofs.Common.{◌≡◌, ◌≢◌, ℕ, ◌+◌, ◌<◌, ◌≤◌, Bool, true, false, ltb, List, [], ◌∷◌, ◌++◌, length}
use Rattle.std.proofs.Common.{take, drop, get_or, All, Option, Some, None, refl, sym, ap, ◌∙◌, arith}
use Rattle.std.specs.Prelude.{is_some, unwrap_or, if◌then◌else◌, ◌==◌, ◌||◌}
use Rattle.std.specs.List.{list_any, position, position_or_len}
use Rattle.std.proofs.lemmas.Bool.{ltb-true, ltb-false}
use Rattle.std.proofs.lemmas.Bool.Decides.{nat_tests}
use Rattle.std.proofs.lemmas.List.{append-nil, append_assoc, drop_all, length-take, take_all, take-append-drop}
use Rattle.std.proofs.lemmas.List.Concat.{flat_map-append}
use Rattle.std.proofs.lemmas.List.Elements.{All-head, All-tail}
use Rattle.std.proofs.lemmas.List.Sums.{fails_before_first, passes_at_first, split_at_first}
use Rattle.std.proofs.lemmas.List.{get_or-take}
use Rattle.hg_wireproto.specs.Batch.{byte_of, letter_of, needs_escape, escape_by, escaped, unescape_by, unescaped}

-- ---- reading

pub first_escape : (text : List ℕ) (byte : ℕ) → 1 < length text → get_or text 0 0 ≡ 58
    → byte_of (get_or text 1 0) ≡ Some byte → unescaped text ≡ byte ∷ unescaped (drop 2 text)
unfolding unescaped
first_escape [] byte some colon is = absurd (omega (arith, some))
first_escape (b ∷ []) byte some colon is = absurd (omega (arith, some))
first_escape (b ∷ letter ∷ rest) byte some colon is =
    let more = unescaped (letter ∷ rest) in
    ap (λ (x : ℕ). if x == 58 then unescape_by x letter (byte_of letter) more (unescaped rest) else (x ∷ more))
    colon
    ∙ ap (λ (o : Option ℕ). unescape_by 58 letter o more (unescaped rest)) is

pub first_alone : (text : List ℕ) → 0 < length text → length text ≤ 1
    → unescaped text ≡ get_or text 0 0 ∷ unescaped (drop 1 text)
unfolding unescaped
first_alone [] some few = absurd (omega (arith, some))
first_alone (b ∷ []) some few = refl
first_alone (b ∷ letter ∷ rest) some few = absurd (omega (arith, few))

other_by : (b : ℕ) (same : Bool) (letter : ℕ) (more rest : List ℕ) → same ≡ false
    → (if same then unescape_by b letter (byte_of letter) more rest else (b ∷ more)) ≡ b ∷ more
other_by b true letter more rest e = cc
other_by b false letter more rest e = refl

pub first_other : (text : List ℕ) → 1 < length text → get_or text 0 0 ≢ 58
    → unescaped text ≡ get_or text 0 0 ∷ unescaped (drop 1 text)
unfolding unescaped
first_other [] some other = absurd (omega (arith, some))
first_other (b ∷ []) some other = absurd (omega (arith, some))
first_other (b ∷ letter ∷ rest) some other =
    let no : (b == 58) ≡ false = grind (arith, nat_tests) in
    other_by b (b == 58) letter (unescaped (letter ∷ rest)) (unescaped rest) no

none_by : (b letter : ℕ) (same : Bool) (more rest : List ℕ)
    → (if same then unescape_by b letter None more rest else (b ∷ more)) ≡ b ∷ more
none_by b letter true more rest = refl
none_by b letter false more rest = refl

pub first_no_letter : (text : List ℕ) → 1 < length text
    → byte_of (get_or text 1 0) ≡ (let none : Option ℕ = None in none)
    → unescaped text ≡ get_or text 0 0 ∷ unescaped (drop 1 text)
unfolding unescaped
first_no_letter [] some is = absurd (omega (arith, some))
first_no_letter (b ∷ []) some is = absurd (omega (arith, some))
first_no_letter (b ∷ letter ∷ rest) some is =
    let more = unescaped (letter ∷ rest) in
    ap (λ (o : Option ℕ). if b == 58 then unescape_by b letter o more (unescaped rest) else (b ∷ more)) is
    ∙ none_by b letter (b == 58) more (unescaped rest)

pub all_unescaped : (bytes text : List ℕ) (n : ℕ) → length text ≤ n
    → bytes ++ unescaped (drop n text) ≡ unescaped text → bytes ≡ unescaped text
unfolding unescaped
all_unescaped bytes text n past so =
    sym (append-nil bytes)
    ∙ ap (λ (rest : List ℕ). bytes ++ unescaped rest) (sym (drop_all n text past))
    ∙ so

-- ---- writing

letter_none : (o : Option ℕ) → is_some o ≡ false → o ≡ (let none : Option ℕ = None in none)
letter_none None e = refl
letter_none (Some letter) e = cc

letter_some : (o : Option ℕ) (d : ℕ) → is_some o ≡ true → o ≡ Some (unwrap_or o d)
letter_some None d e = cc
letter_some (Some letter) d e = refl

plain_front : (front : List ℕ) → All (λ b. needs_escape b ≡ false) front → escaped front ≡ front
unfolding escaped
plain_front [] plain = refl
plain_front (b ∷ bs) plain =
    ap (λ (o : Option ℕ). escape_by b o ++ escaped bs)
    (letter_none (letter_of b) (All-head (λ (x : ℕ). needs_escape x ≡ false) b bs plain))
    ∙ ap (λ (rest : List ℕ). b ∷ rest)
    (plain_front bs (All-tail (λ (x : ℕ). needs_escape x ≡ false) b bs plain))

some_none : (place : ℕ) → Some place ≡ (let none : Option ℕ = None in none) → ⊥
some_none place e = cc

none_some : (place : ℕ) → (let none : Option ℕ = None in none) ≡ Some place → ⊥
none_some place e = cc

place_at : (b : Bool) (text : List ℕ) (place : ℕ) → ltb (position_or_len needs_escape text) (length text) ≡ b
    → Some place ≡ position needs_escape text
    → (place ≡ position_or_len needs_escape text) × (position_or_len needs_escape text < length text)
place_at true text place e is = (let f = rw e at is in cc, ltb-true _ _ e)
place_at false text place e is = let f = rw e at is in absurd (some_none place f)

front_plain : (text : List ℕ)
    → All (λ b. needs_escape b ≡ false) (take (position_or_len needs_escape text) text)
front_plain text k d within =
    let n = position_or_len needs_escape text in
    let low : k < n = omega (arith, length-take n text) in
    ap needs_escape (get_or-take n text k d low) ∙ fails_before_first needs_escape text k d low

-- the first byte that needs an escape is at this place
escape_first : (text : List ℕ) → position_or_len needs_escape text < length text
    → escaped text ≡ take (position_or_len needs_escape text) text
    ++ (58 ∷ unwrap_or (letter_of (get_or text (position_or_len needs_escape text) 0)) 58
    ∷ escaped (drop (position_or_len needs_escape text + 1) text))
unfolding escaped
escape_first text within =
    let n = position_or_len needs_escape text in
    let b = get_or text n 0 in
    let front = take n text in
    let rest = drop (n + 1) text in
    ap escaped (split_at_first needs_escape text 0 within)
    ∙ flat_map-append (λ (x : ℕ). escape_by x (letter_of x)) front (b ∷ rest)
    ∙ ap (λ (f : List ℕ). f ++ escaped (b ∷ rest)) (plain_front front (front_plain text))
    ∙ ap (λ (o : Option ℕ). front ++ (escape_by b o ++ escaped rest))
    (letter_some (letter_of b) 58 (passes_at_first needs_escape text 0 within))

pub escape_at : (text : List ℕ) (place : ℕ) → Some place ≡ position needs_escape text
    → escaped text ≡ take place text
    ++ (58 ∷ unwrap_or (letter_of (get_or text place 0)) 58 ∷ escaped (drop (place + 1) text))
escape_at text place is =
    let at = place_at (ltb (position_or_len needs_escape text) (length text)) text place refl is in
    rw (at.0) (escape_first text at.1)

pub place_within : (text : List ℕ) (place : ℕ) → Some place ≡ position needs_escape text → place < length text
place_within text place is =
    let at = place_at (ltb (position_or_len needs_escape text) (length text)) text place refl is in
    omega (arith, at.0, at.1)

past_all : (b : Bool) (text : List ℕ) → ltb (position_or_len needs_escape text) (length text) ≡ b
    → (let none : Option ℕ = None in none) ≡ position needs_escape text
    → length text ≤ position_or_len needs_escape text
past_all true text e is = let f = rw e at is in absurd (none_some _ f)
past_all false text e is = ltb-false _ _ e

-- no byte needs an escape
pub escape_none : (text : List ℕ) → (let none : Option ℕ = None in none) ≡ position needs_escape text
    → escaped text ≡ text
escape_none text is =
    let n = position_or_len needs_escape text in
    let past = past_all (ltb n (length text)) text refl is in
    let whole : take n text ≡ text = take_all n text past in
    ap escaped (sym whole) ∙ plain_front (take n text) (front_plain text) ∙ whole

-- one chunk more, with its escape
pub chunk_more : (start all rest front escape letter : List ℕ) (place : ℕ)
    → Some place ≡ position needs_escape rest → start ++ escaped rest ≡ all
    → front ≡ start ++ take place rest → escape ≡ front ++ 58 ∷ []
    → letter ≡ escape ++ unwrap_or (letter_of (get_or rest place 0)) 58 ∷ []
    → letter ++ escaped (drop (place + 1) rest) ≡ all
chunk_more start all rest front escape letter place is so first second third =
    let n = unwrap_or (letter_of (get_or rest place 0)) 58 in
    let tail = escaped (drop (place + 1) rest) in
    ap (λ (t : List ℕ). t ++ tail) third
    ∙ append_assoc escape (n ∷ []) tail
    ∙ ap (λ (t : List ℕ). t ++ (n ∷ tail)) second
    ∙ append_assoc front (58 ∷ []) (n ∷ tail)
    ∙ ap (λ (t : List ℕ). t ++ (58 ∷ n ∷ tail)) first
    ∙ append_assoc start (take place rest) (58 ∷ n ∷ tail)
    ∙ ap (λ (t : List ℕ). start ++ t) (sym (escape_at rest place is))
    ∙ so

-- ---- pieces

-- bytes of which none needs an escape
pub none_escaped : (text : List ℕ) → list_any needs_escape text ≡ false → escaped text ≡ text
unfolding escaped
none_escaped [] none = refl
none_escaped (b ∷ bs) none = by (needs_escape b) refl none (none_escaped bs)
  where
    by : (is : Bool) → needs_escape b ≡ is → is || list_any needs_escape bs ≡ false
        → (list_any needs_escape bs ≡ false → escaped bs ≡ bs) → escaped (b ∷ bs) ≡ b ∷ bs
    by true e any rest = cc
    by false e any rest =
        ap (λ (o : Option ℕ). escape_by b o ++ escaped bs) (letter_none (letter_of b) e)
        ∙ ap (λ (more : List ℕ). b ∷ more) (rest any)

-- one piece more
pub piece_escaped : (n : ℕ) (start rest all next piece more : List ℕ) → piece ≡ take n rest → more ≡ drop n rest
    → next ≡ start ++ escaped piece → start ++ escaped rest ≡ all → next ++ escaped more ≡ all
unfolding escaped
piece_escaped n start rest all next piece more first second written so =
    let by = λ (b : ℕ). escape_by b (letter_of b) in
    ap (λ (t : List ℕ). t ++ escaped more) written
    ∙ append_assoc start (escaped piece) (escaped more)
    ∙ ap (λ (t : List ℕ). start ++ t) (
    ap (λ (t : List ℕ). escaped t ++ escaped more) first
    ∙ ap (λ (t : List ℕ). escaped (take n rest) ++ escaped t) second
    ∙ sym (flat_map-append by (take n rest) (drop n rest))
    ∙ ap escaped (take-append-drop n rest))
    ∙ so
