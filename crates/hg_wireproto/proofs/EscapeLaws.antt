-- What is escaped is read back, and holds no separator.
use Rattle.std.proofs.Common.{◌≡◌, ◌≢◌, ℕ, Bool, true, false, List, [], ◌∷◌, ◌++◌, All, Option, Some, None}
use Rattle.std.proofs.Common.{refl, sym, ap, ◌∙◌, eqb-true, arith}
use Rattle.std.specs.Prelude.{if◌then◌else◌, ◌==◌, ◌||◌}
use Rattle.std.proofs.lemmas.Bool.Decides.{nat_tests}
use Rattle.std.proofs.lemmas.List.Elements.{All-append, All-cons}
use Rattle.hg_wireproto.specs.Batch.{byte_of, letter_of, escape_by, escaped, is_separator, unescape_by, unescaped}

-- the letter of a byte stands for it
back_by : (b letter : ℕ) (p q r s : Bool) → (p ≡ true → b ≡ 58) → (q ≡ true → b ≡ 44) → (r ≡ true → b ≡ 59)
    → (s ≡ true → b ≡ 61)
    → (if p then Some 99 else if q then Some 111 else if r then Some 115 else if s then Some 101 else None)
    ≡ Some letter → byte_of letter ≡ Some b
back_by b letter true q r s h i j k e = let l : 99 ≡ letter = cc in let m : b ≡ 58 = h refl in rw (← l, m) refl
back_by b letter false true r s h i j k e =
    let l : 111 ≡ letter = cc in let m : b ≡ 44 = i refl in rw (← l, m) refl
back_by b letter false false true s h i j k e =
    let l : 115 ≡ letter = cc in let m : b ≡ 59 = j refl in rw (← l, m) refl
back_by b letter false false false true h i j k e =
    let l : 101 ≡ letter = cc in let m : b ≡ 61 = k refl in rw (← l, m) refl
back_by b letter false false false false h i j k e = cc

letter_back : (b letter : ℕ) → letter_of b ≡ Some letter → byte_of letter ≡ Some b
letter_back b letter e =
    back_by b letter (b == 58) (b == 44) (b == 59) (b == 61) (eqb-true b 58) (eqb-true b 44) (eqb-true b 59)
    (eqb-true b 61) e

none_is : Some 99 ≡ (let none : Option ℕ = None in none) → ⊥
none_is e = cc

no_colon : (b : ℕ) → letter_of b ≡ (let none : Option ℕ = None in none) → b ≢ 58
no_colon b none is =
    let some : Some 99 ≡ letter_of b = sym (ap letter_of is) in
    let both : Some 99 ≡ (let empty : Option ℕ = None in empty) = some ∙ none in
    none_is both

plain_by : (b : ℕ) (same : Bool) (letter : ℕ) (more rest : List ℕ) → same ≡ false
    → (if same then unescape_by b letter (byte_of letter) more rest else (b ∷ more)) ≡ b ∷ more
plain_by b true letter more rest e = cc
plain_by b false letter more rest e = refl

plain_first : (b : ℕ) (rest : List ℕ) → b ≢ 58 → unescaped (b ∷ rest) ≡ b ∷ unescaped rest
unfolding unescaped
plain_first b [] other = refl
plain_first b (letter ∷ rest) other =
    let differs : (b == 58) ≡ false = grind (arith, nat_tests) in
    plain_by b (b == 58) letter (unescaped (letter ∷ rest)) (unescaped rest) differs

first_back : (b : ℕ) (o : Option ℕ) (rest : List ℕ) → letter_of b ≡ o
    → unescaped (escape_by b o ++ rest) ≡ b ∷ unescaped rest
unfolding unescaped
first_back b None rest e = plain_first b rest (no_colon b e)
first_back b (Some letter) rest e =
    ap (λ (o : Option ℕ). unescape_by 58 letter o (unescaped (letter ∷ rest)) (unescaped rest))
    (letter_back b letter e)

pub escapes_back : (text : List ℕ) → unescaped (escaped text) ≡ text
unfolding escaped unescaped
escapes_back [] = refl
escapes_back (b ∷ bs) =
    first_back b (letter_of b) (escaped bs) refl ∙ ap (λ (rest : List ℕ). b ∷ rest) (escapes_back bs)

none_apart : All (λ x. is_separator x ≡ false) []
none_apart k d low = absurd (omega (arith, low))

one : (b : ℕ) → is_separator b ≡ false → All (λ x. is_separator x ≡ false) (b ∷ [])
one b other = All-cons (λ (x : ℕ). is_separator x ≡ false) b [] other none_apart

two : (letter : ℕ) → is_separator letter ≡ false → All (λ x. is_separator x ≡ false) (58 ∷ letter ∷ [])
two letter other = All-cons (λ (x : ℕ). is_separator x ≡ false) 58 (letter ∷ []) refl (one letter other)

apart_by : (b : ℕ) (p q r s : Bool) → (q || r || s) ≡ is_separator b → All (λ x. is_separator x ≡ false)
    (escape_by b
    (if p then Some 99 else if q then Some 111 else if r then Some 115 else if s then Some 101 else None))
apart_by b true q r s e = two 99 refl
apart_by b false true r s e = two 111 refl
apart_by b false false true s e = two 115 refl
apart_by b false false false true e = two 101 refl
apart_by b false false false false e = one b (sym e)

pub escapes_apart : (text : List ℕ) → All (λ b. is_separator b ≡ false) (escaped text)
unfolding escaped
escapes_apart [] = none_apart
escapes_apart (b ∷ bs) =
    All-append (λ (x : ℕ). is_separator x ≡ false) (escape_by b (letter_of b)) (escaped bs)
    (apart_by b (b == 58) (b == 44) (b == 59) (b == 61) refl) (escapes_apart bs)
