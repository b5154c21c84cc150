-- What an encoder writes into a form is read back.
use Rattle.std.proofs.Common.{◌≡◌, ℕ, ◌+◌, ◌*◌, ◌<◌, Bool, true, false, List, [], ◌∷◌, ◌++◌, map, length}
use Rattle.std.proofs.Common.{All, Option, Some, None, take, drop, refl, sym, ap, subst, ◌∙◌, eqb-true, arith}
use Rattle.std.specs.Prelude.{if◌then◌else◌, ◌==◌, ◌||◌, nat_lt, cond, unwrap_or}
use Rattle.std.specs.List.{AllZip, before_first, flat_map, join_with_byte, position_or_len}
use Rattle.std.specs.Option.{option_map}
use Rattle.std.specs.Char.{digit_value}
use Rattle.std.proofs.lemmas.Bool.{eqb-false}
use Rattle.std.proofs.lemmas.Bool.Decides.{nat_tests}
use Rattle.std.proofs.lemmas.List.{append-nil, append_assoc, take_at, drop_at, get_or_append_left, get_or_at, length-append, length_push}
use Rattle.std.proofs.lemmas.List.Elements.{All-append, All-cons}
use Rattle.std.proofs.lemmas.List.Splits.{slice_split_at, slice_split_none}
use Rattle.std.proofs.lemmas.List.Sums.{position_or_len_is}
use Rattle.percent_encoding.specs.Percent.{percent_decode}
use Rattle.percent_encoding.proofs.PercentLemmas.{percent_decode-nil, percent_decode_escape, percent_decode_not_percent}
use Rattle.hg_wireproto.specs.declared.form.Field.{Field}
use Rattle.hg_wireproto.specs.Text.{behind_first}
use Rattle.hg_wireproto.specs.Form.{is_ampersand, is_equals, spaced, plain_of, field_by, fields_by, fields_of}
use Rattle.hg_wireproto.specs.Spelling.{is_special, IsSpelled, IsPiece, IsForm}
use Rattle.hg_wireproto.specs.Spelling.IsSpelled.{nothing, itself, space, escape}

-- ---- bytes

parts_by : (p q r s : Bool) → (p || q || r || s) ≡ false → (p ≡ false) × (q ≡ false) × (r ≡ false) × (s ≡ false)
parts_by true q r s e = cc
parts_by false true r s e = cc
parts_by false false true s e = cc
parts_by false false false true e = cc
parts_by false false false false e = (refl, refl, refl, refl)

special_not : (b : ℕ) → is_special b ≡ false
    → ((b == 38) ≡ false) × ((b == 61) ≡ false) × ((b == 43) ≡ false) × ((b == 37) ≡ false)
special_not b plain = parts_by (b == 38) (b == 61) (b == 43) (b == 37) plain

not_plus : (b : ℕ) → (b == 43) ≡ false → spaced b ≡ b
not_plus b other = ap (λ (t : Bool). if t then 32 else b) other

differs_by : (d c : ℕ) (t : Bool) → (d == c) ≡ t → digit_value d < 16 → (digit_value c < 16 → ⊥)
    → (d == c) ≡ false
differs_by d c true e small never =
    absurd (never (subst (λ (x : ℕ). digit_value x < 16) (eqb-true d c e) small))
differs_by d c false e small never = e

-- a hexadecimal digit is none of the special bytes
digit_not : (d c : ℕ) → digit_value d < 16 → (digit_value c < 16 → ⊥) → (d == c) ≡ false
digit_not d c small never = differs_by d c (d == c) refl small never

no_ampersand : digit_value 38 < 16 → ⊥
no_ampersand h = absurd (omega (arith, h))

no_equals : digit_value 61 < 16 → ⊥
no_equals h = absurd (omega (arith, h))

no_plus : digit_value 43 < 16 → ⊥
no_plus h = absurd (omega (arith, h))

-- ---- one text

pub spelled_back : (text bytes : List ℕ) → IsSpelled text bytes → plain_of text ≡ bytes
unfolding plain_of
spelled_back text bytes nothing = percent_decode-nil
spelled_back text bytes (itself b rest more plain spelled) =
    let other = special_not b plain in
    ap (λ (x : ℕ). percent_decode (x ∷ map spaced rest)) (not_plus b other.2)
    ∙ percent_decode_not_percent b (map spaced rest) (eqb-false b 37 other.3)
    ∙ ap (λ (ys : List ℕ). b ∷ ys) (spelled_back rest more spelled)
spelled_back text bytes (space rest more spelled) =
    percent_decode_not_percent 32 (map spaced rest) (eqb-false 32 37 refl)
    ∙ ap (λ (ys : List ℕ). 32 ∷ ys) (spelled_back rest more spelled)
spelled_back text bytes (escape high low rest more is_high is_low spelled) =
    ap (λ (x : ℕ). percent_decode (37 ∷ x ∷ spaced low ∷ map spaced rest))
    (not_plus high (digit_not high 43 is_high no_plus))
    ∙ ap (λ (x : ℕ). percent_decode (37 ∷ high ∷ x ∷ map spaced rest))
    (not_plus low (digit_not low 43 is_low no_plus))
    ∙ percent_decode_escape 37 high low (map spaced rest) refl is_high is_low
    ∙ ap (λ (ys : List ℕ). (16 * digit_value high + digit_value low) ∷ ys) (spelled_back rest more spelled)

-- a byte that no spelling has
record Apart (c : ℕ) : Type 0 where
  plain : (b : ℕ) → is_special b ≡ false → (b == c) ≡ false
  plus : (43 == c) ≡ false
  percent : (37 == c) ≡ false
  digit : (d : ℕ) → digit_value d < 16 → (d == c) ≡ false

ampersand : Apart 38
ampersand = record {
  plain = λ b plain. (special_not b plain).0;
  plus = refl;
  percent = refl;
  digit = λ d small. digit_not d 38 small no_ampersand;
}

equals : Apart 61
equals = record {
  plain = λ b plain. (special_not b plain).1;
  plus = refl;
  percent = refl;
  digit = λ d small. digit_not d 61 small no_equals;
}

none_is : (c : ℕ) → All (λ x. (x == c) ≡ false) []
none_is c k d low = absurd (omega (arith, low))

one_is : (c b : ℕ) (bs : List ℕ) → (b == c) ≡ false → All (λ x. (x == c) ≡ false) bs
    → All (λ x. (x == c) ≡ false) (b ∷ bs)
one_is c b bs first rest = All-cons (λ (x : ℕ). (x == c) ≡ false) b bs first rest

spelled_apart : (c : ℕ) → Apart c → (text bytes : List ℕ) → IsSpelled text bytes
    → All (λ x. (x == c) ≡ false) text
spelled_apart c apart text bytes nothing = none_is c
spelled_apart c apart text bytes (itself b rest more plain spelled) =
    one_is c b rest (apart.plain b plain) (spelled_apart c apart rest more spelled)
spelled_apart c apart text bytes (space rest more spelled) =
    one_is c 43 rest apart.plus (spelled_apart c apart rest more spelled)
spelled_apart c apart text bytes (escape high low rest more is_high is_low spelled) =
    one_is c 37 (high ∷ low ∷ rest) apart.percent
    (one_is c high (low ∷ rest) (apart.digit high is_high)
    (one_is c low rest (apart.digit low is_low) (spelled_apart c apart rest more spelled)))

-- ---- one piece

first_at : (xs ys : List ℕ) → All (λ x. is_equals x ≡ false) xs
    → position_or_len is_equals (xs ++ 61 ∷ ys) ≡ length xs
first_at xs ys plain =
    position_or_len_is is_equals (xs ++ 61 ∷ ys) (length xs) 0
    (omega (arith, length-append xs (61 ∷ ys)))
    (λ k low. ap is_equals (get_or_append_left xs (61 ∷ ys) 0 k low) ∙ plain k 0 low)
    (λ within. ap is_equals (get_or_at xs 61 ys 0 (length xs) refl))

name_before : (xs ys : List ℕ) → All (λ x. is_equals x ≡ false) xs → before_first is_equals (xs ++ 61 ∷ ys) ≡ xs
name_before xs ys plain =
    ap (λ (n : ℕ). take n (xs ++ 61 ∷ ys)) (first_at xs ys plain) ∙ take_at xs (61 ∷ ys) (length xs) refl

value_behind : (xs ys : List ℕ) → All (λ x. is_equals x ≡ false) xs
    → behind_first is_equals (xs ++ 61 ∷ ys) ≡ Some ys
unfolding behind_first
value_behind xs ys plain =
    let whole = xs ++ 61 ∷ ys in
    let within : nat_lt (length xs) (length whole) ≡ true =
    let longer : length xs < length whole = omega (arith, length-append xs (61 ∷ ys)) in grind (arith, nat_tests) in
    ap (λ (n : ℕ). option_map (λ (m : ℕ). drop (m + 1) whole) (cond (nat_lt n (length whole)) (Some n) None))
    (first_at xs ys plain)
    ∙ ap (λ (b : Bool). option_map (λ (m : ℕ). drop (m + 1) whole) (cond b (Some (length xs)) None)) within
    ∙ ap (λ (rest : List ℕ). Some rest)
    (ap (drop (length xs + 1)) (sym (append_assoc xs (61 ∷ []) ys))
    ∙ drop_at (xs ++ 61 ∷ []) ys (length xs + 1) (length_push xs 61))

nonempty : {A : Type 0} (xs ys : List ℕ) (field : Field A) → field_by plain_of (xs ++ 61 ∷ ys) ≡ field
    → fields_by plain_of (xs ++ 61 ∷ ys) ≡ field ∷ []
nonempty {A} [] ys field e = ap (λ (f : Field A). f ∷ []) e
nonempty {A} (x ∷ xs) ys field e = ap (λ (f : Field A). f ∷ []) e

field_back : {A : Type 0} (name value : List ℕ) (field : Field A) → IsSpelled name field.name
    → IsSpelled value field.value → field_by plain_of (name ++ 61 ∷ value) ≡ field
field_back {A} name value field named valued =
    let plain = spelled_apart 61 equals name field.name named in
    let made : List ℕ → List ℕ → Field A = λ n v. record { name = n; value = v } in
    ap (λ (n : List ℕ). made (plain_of n) (plain_of (unwrap_or (behind_first is_equals (name ++ 61 ∷ value)) [])))
    (name_before name value plain)
    ∙ ap (λ (o : Option (List ℕ)). made (plain_of name) (plain_of (unwrap_or o []))) (value_behind name value plain)
    ∙ ap (λ (n : List ℕ). made n (plain_of value)) (spelled_back name field.name named)
    ∙ ap (λ (v : List ℕ). made field.name v) (spelled_back value field.value valued)

piece_back : {A : Type 0} (piece : List ℕ) (field : Field A) → IsPiece piece field
    → fields_by plain_of piece ≡ field ∷ []
piece_back {A} piece field p =
    ap (λ (t : List ℕ). let told : List (Field A) = fields_by plain_of t in told) p.piece_is
    ∙ nonempty p.name p.value field (field_back p.name p.value field p.name_is p.value_is)

piece_apart : {A : Type 0} (piece : List ℕ) (field : Field A) → IsPiece piece field
    → All (λ x. is_ampersand x ≡ false) piece
piece_apart piece field p =
    subst (λ (t : List ℕ). All (λ x. is_ampersand x ≡ false) t) (sym p.piece_is)
    (All-append (λ (x : ℕ). is_ampersand x ≡ false) p.name (61 ∷ p.value)
    (spelled_apart 38 ampersand p.name field.name p.name_is)
    (one_is 38 61 p.value refl (spelled_apart 38 ampersand p.value field.value p.value_is)))

-- ---- the form

pieces_back : {A : Type 0} (pieces : List (List ℕ)) (fields : List (Field A)) → AllZip IsPiece pieces fields
    → fields_of (join_with_byte 38 pieces) ≡ fields
unfolding fields_of
pieces_back {A} [] [] each = refl
pieces_back {A} [] (field ∷ fields) each = absurd each
pieces_back {A} (piece ∷ pieces) [] each = absurd each
pieces_back {A} (piece ∷ []) (field ∷ []) each =
    ap (flat_map (λ (t : List ℕ). let told : List (Field A) = fields_by plain_of t in told))
    (slice_split_none is_ampersand piece (piece_apart piece field each.0))
    ∙ append-nil (fields_by plain_of piece)
    ∙ piece_back piece field each.0
pieces_back {A} (piece ∷ []) (field ∷ other ∷ fields) each = absurd each.1
pieces_back {A} (piece ∷ next ∷ pieces) (field ∷ fields) each =
    ap (flat_map (λ (t : List ℕ). let told : List (Field A) = fields_by plain_of t in told))
    (slice_split_at is_ampersand piece 38 (join_with_byte 38 (next ∷ pieces))
    (piece_apart piece field each.0) refl)
    ∙ ap (λ (first : List (Field A)). first ++ fields_of (join_with_byte 38 (next ∷ pieces)))
    (piece_back piece field each.0)
    ∙ ap (λ (rest : List (Field A)). field ∷ rest) (pieces_back (next ∷ pieces) fields each.1)

pub forms_back : {A : Type 0} (text : List ℕ) (fields : List (Field A)) → IsForm text fields
    → fields_of text ≡ fields
forms_back {A} text fields form =
    ap (λ (t : List ℕ). let told : List (Field A) = fields_of t in told) form.text_is
    ∙ pieces_back form.pieces fields form.each
