-- The extras of a changeset: what is read of the front of one, and the last that names the branch.
use Rattle.std.proofs.Common.{◌≡◌, ◌≢◌, ℕ, zero, suc, ◌+◌, ◌<◌, ◌≤◌, Bool, true, false, List, [], ◌∷◌, ◌++◌, length}
use Rattle.std.proofs.Common.{take, drop, get_or, map, filter, Option, Some, None, refl, sym, ap, ◌∙◌, arith}
use Rattle.std.specs.Prelude.{◌&&◌, codes, nat_eq, unwrap_or, if◌then◌else◌, ◌==◌}
use Rattle.std.specs.List.{before_first, last_or, slice_split, starts_with}
use Rattle.std.specs.Option.{option_and_then}
use Rattle.std.proofs.lemmas.Bool.Decides.{nat_tests}
use Rattle.std.proofs.lemmas.List.{append-nil, append_assoc, take_all, take_more}
use Rattle.hg_wireproto.specs.Batch.{is_space, unescape_by}
use Rattle.hg_wireproto.specs.Branch.{behind_second, branch_of, branches_in, extra_byte, extras_of, is_nul, names_branch}
use Rattle.hg_wireproto.specs.Branch.{plain_extra, third_line}
use Rattle.hg_wireproto.specs.Text.{behind_first}
use Rattle.hg_wireproto.proofs.Pieces.{pieces_of, split_more}

-- ---- the first byte of an extra

pub first_escape : (text : List ℕ) (byte : ℕ) → 1 < length text → get_or text 0 0 ≡ 92
    → extra_byte (get_or text 1 0) ≡ Some byte → plain_extra text ≡ byte ∷ plain_extra (drop 2 text)
unfolding plain_extra
first_escape [] byte some mark is = absurd (omega (arith, some))
first_escape (b ∷ []) byte some mark is = absurd (omega (arith, some))
first_escape (b ∷ letter ∷ rest) byte some mark is =
    let more = plain_extra (letter ∷ rest) in
    ap (λ (x : ℕ). if x == 92 then unescape_by x letter (extra_byte letter) more (plain_extra rest)
    else (x ∷ more)) mark
    ∙ ap (λ (o : Option ℕ). unescape_by 92 letter o more (plain_extra rest)) is

pub first_alone : (text : List ℕ) → 0 < length text → length text ≤ 1
    → plain_extra text ≡ get_or text 0 0 ∷ plain_extra (drop 1 text)
unfolding plain_extra
first_alone [] some few = absurd (omega (arith, some))
first_alone (b ∷ []) some few = refl
first_alone (b ∷ letter ∷ rest) some few = absurd (omega (arith, few))

other_by : (b : ℕ) (same : Bool) (letter : ℕ) (more rest : List ℕ) → same ≡ false
    → (if same then unescape_by b letter (extra_byte letter) more rest else (b ∷ more)) ≡ b ∷ more
other_by b true letter more rest e = cc
other_by b false letter more rest e = refl

pub first_other : (text : List ℕ) → 1 < length text → get_or text 0 0 ≢ 92
    → plain_extra text ≡ get_or text 0 0 ∷ plain_extra (drop 1 text)
unfolding plain_extra
first_other [] some other = absurd (omega (arith, some))
first_other (b ∷ []) some other = absurd (omega (arith, some))
first_other (b ∷ letter ∷ rest) some other =
    let no : (b == 92) ≡ false = grind (arith, nat_tests) in
    other_by b (b == 92) letter (plain_extra (letter ∷ rest)) (plain_extra rest) no

none_by : (b letter : ℕ) (same : Bool) (more rest : List ℕ)
    → (if same then unescape_by b letter None more rest else (b ∷ more)) ≡ b ∷ more
none_by b letter true more rest = refl
none_by b letter false more rest = refl

pub first_no_letter : (text : List ℕ) → 1 < length text
    → extra_byte (get_or text 1 0) ≡ (let none : Option ℕ = None in none)
    → plain_extra text ≡ get_or text 0 0 ∷ plain_extra (drop 1 text)
unfolding plain_extra
first_no_letter [] some is = absurd (omega (arith, some))
first_no_letter (b ∷ []) some is = absurd (omega (arith, some))
first_no_letter (b ∷ letter ∷ rest) some is =
    let more = plain_extra (letter ∷ rest) in
    ap (λ (o : Option ℕ). if b == 92 then unescape_by b letter o more (plain_extra rest) else (b ∷ more)) is
    ∙ none_by b letter (b == 92) more (plain_extra rest)

pub nothing_left : (rest : List ℕ) → (length rest == 0) ≡ true → plain_extra rest ≡ []
unfolding plain_extra
nothing_left [] none = refl
nothing_left (b ∷ bs) none = let no : (length (b ∷ bs) == 0) ≡ false = grind (arith, nat_tests) in cc

-- ---- the key at the front

and_false : (b other : Bool) → other ≡ false → (b && other) ≡ false
and_false true other e = e
and_false false other e = refl

false_and : (b other : Bool) → b ≡ false → (b && other) ≡ false
false_and true other e = cc
false_and false other e = refl

short_key : (key : List ℕ) (i : ℕ) → i < length key → starts_with nat_eq (take i key ++ []) key ≡ false
short_key [] i within = absurd (omega (arith, within))
short_key (k ∷ key) zero within = refl
short_key (k ∷ key) (suc i) within = and_false (nat_eq k k) _ (short_key key i (omega (arith, within)))

other_key : (key : List ℕ) (i b : ℕ) (rest : List ℕ) → i < length key → b ≢ get_or key i 0
    → starts_with nat_eq (take i key ++ b ∷ rest) key ≡ false
other_key [] i b rest within other = absurd (omega (arith, within))
other_key (k ∷ key) zero b rest within other =
    let no : nat_eq k b ≡ false = grind (arith, nat_tests) in
    false_and (nat_eq k b) _ no
other_key (k ∷ key) (suc i) b rest within other =
    and_false (nat_eq k k) _ (other_key key i b rest (omega (arith, within)) other)

-- the extra ends in the key
pub key_ends : (extra key rest : List ℕ) (i : ℕ) → i < length key → (length rest == 0) ≡ true
    → plain_extra extra ≡ take i key ++ plain_extra rest → starts_with nat_eq (plain_extra extra) key ≡ false
key_ends extra key rest i within none so =
    ap (λ (t : List ℕ). starts_with nat_eq t key)
    (so ∙ ap (λ (t : List ℕ). take i key ++ t) (nothing_left rest none))
    ∙ short_key key i within

-- it has another byte there
pub key_differs : (extra key rest more : List ℕ) (i b : ℕ) → i < length key → b ≢ get_or key i 0
    → plain_extra rest ≡ b ∷ more → plain_extra extra ≡ take i key ++ plain_extra rest
    → starts_with nat_eq (plain_extra extra) key ≡ false
key_differs extra key rest more i b within other first so =
    ap (λ (t : List ℕ). starts_with nat_eq t key) (so ∙ ap (λ (t : List ℕ). take i key ++ t) first)
    ∙ other_key key i b more within other

-- one byte more is the same
pub key_more : (all key rest more : List ℕ) (i b : ℕ) → i < length key → b ≡ get_or key i 0
    → rest ≡ b ∷ more → all ≡ take i key ++ rest → all ≡ take (i + 1) key ++ more
key_more all key rest more i b within same first so =
    so
    ∙ ap (λ (t : List ℕ). take i key ++ t) (first ∙ ap (λ (x : ℕ). x ∷ more) same)
    ∙ sym (append_assoc (take i key) (get_or key i 0 ∷ []) more)
    ∙ ap (λ (t : List ℕ). t ++ more) (sym (take_more key i 0 within))

pub key_whole : (all key rest : List ℕ) (i : ℕ) → length key ≤ i → all ≡ take i key ++ rest → all ≡ key ++ rest
key_whole all key rest i past so = so ∙ ap (λ (t : List ℕ). t ++ rest) (take_all i key past)

-- ---- the last that names the branch

last_some : (name : List ℕ) (names : List (List ℕ)) (d : List ℕ)
    → last_or (Some name) names ≡ Some (unwrap_or (last_or (Some name) names) d)
last_some name [] d = refl
last_some name (other ∷ names) d = last_some other names d

last_default : (names : List (List ℕ)) (d : List ℕ)
    → last_or (Some d) names ≡ Some (unwrap_or (last_or None names) d)
last_default [] d = refl
last_default (name ∷ names) d = last_some name names d

-- before any extra is looked at
pub default_yet : (text extras : List ℕ) → extras ≡ extras_of text
    → last_or (Some (plain_extra (codes "default"))) (branches_in (pieces_of is_nul (Some extras)))
    ≡ Some (branch_of text)
unfolding branch_of plain_extra
default_yet text extras same =
    last_default (branches_in (slice_split is_nul extras)) (codes "default")
    ∙ ap (λ (t : List ℕ). Some (unwrap_or (last_or None (branches_in (slice_split is_nul t)))
    (codes "default"))) same

picked : (b : Bool) (found : Option (List ℕ)) (extra : List ℕ) (more : List (List ℕ))
    → last_or found (map (drop 7) (if b then (extra ∷ more) else more))
    ≡ last_or (if b then Some (drop 7 extra) else found) (map (drop 7) more)
picked true found extra more = refl
picked false found extra more = refl

-- one extra more
next_extra : (found : Option (List ℕ)) (extras : List ℕ)
    → last_or found (branches_in (pieces_of is_nul (Some extras)))
    ≡ last_or (if names_branch (plain_extra (before_first is_nul extras))
    then Some (drop 7 (plain_extra (before_first is_nul extras))) else found)
    (branches_in (pieces_of is_nul (behind_first is_nul extras)))
next_extra found extras =
    let extra = plain_extra (before_first is_nul extras) in
    let more = filter names_branch (map plain_extra (pieces_of is_nul (behind_first is_nul extras))) in
    ap (λ (ps : List (List ℕ)). last_or found (branches_in ps)) (split_more is_nul extras)
    ∙ picked (names_branch extra) found extra more

pub named_here : (found : Option (List ℕ)) (extras extra name : List ℕ) (more : Option (List ℕ))
    (all : Option (List ℕ)) → extra ≡ before_first is_nul extras → more ≡ behind_first is_nul extras
    → plain_extra extra ≡ codes "branch:" ++ plain_extra name
    → last_or found (branches_in (pieces_of is_nul (Some extras))) ≡ all
    → last_or (Some (plain_extra name)) (branches_in (pieces_of is_nul more)) ≡ all
named_here found extras extra name more all cut rest named so =
    let plain = sym named ∙ ap plain_extra cut in
    ap (λ (r : Option (List ℕ)). last_or (Some (plain_extra name)) (branches_in (pieces_of is_nul r))) rest
    ∙ ap (λ (t : List ℕ). last_or (if names_branch t then Some (drop 7 t) else found)
    (branches_in (pieces_of is_nul (behind_first is_nul extras)))) plain
    ∙ sym (next_extra found extras)
    ∙ so

pub other_here : (found : Option (List ℕ)) (extras extra : List ℕ) (more : Option (List ℕ))
    (all : Option (List ℕ)) → extra ≡ before_first is_nul extras → more ≡ behind_first is_nul extras
    → starts_with nat_eq (plain_extra extra) (codes "branch:") ≡ false
    → last_or found (branches_in (pieces_of is_nul (Some extras))) ≡ all
    → last_or found (branches_in (pieces_of is_nul more)) ≡ all
other_here found extras extra more all cut rest other so =
    let not = sym (ap (λ (t : List ℕ). starts_with nat_eq (plain_extra t) (codes "branch:")) (sym cut)
    ∙ other) in
    ap (λ (r : Option (List ℕ)). last_or found (branches_in (pieces_of is_nul r))) rest
    ∙ ap (λ (b : Bool). last_or (if b then Some (drop 7 (plain_extra (before_first is_nul extras))) else found)
    (branches_in (pieces_of is_nul (behind_first is_nul extras)))) not
    ∙ sym (next_extra found extras)
    ∙ so

some_is : (a b : List ℕ) → Some a ≡ Some b → a ≡ b
some_is a b e = cc

pub none_left : (found name : List ℕ) → last_or (Some found) (branches_in (pieces_of is_nul None)) ≡ Some name
    → found ≡ name
none_left found name so = some_is found name so

-- ---- one byte of the name more

pub name_more : (start all rest front more : List ℕ) (b : ℕ) → start ++ rest ≡ all → rest ≡ b ∷ more
    → front ≡ start ++ b ∷ [] → front ++ more ≡ all
name_more start all rest front more b so first pushed =
    ap (λ (t : List ℕ). t ++ more) pushed
    ∙ append_assoc start (b ∷ []) more
    ∙ ap (λ (t : List ℕ). start ++ t) (sym first)
    ∙ so

pub name_whole : (start all rest : List ℕ) → (length rest == 0) ≡ true → start ++ plain_extra rest ≡ all
    → start ≡ all
name_whole start all rest none so =
    sym (append-nil start) ∙ ap (λ (t : List ℕ). start ++ t) (sym (nothing_left rest none)) ∙ so

-- ---- the extras of a text

pub extras_some : (text line extras : List ℕ) (third found : Option (List ℕ)) → third ≡ third_line text
    → third ≡ Some line → found ≡ behind_second is_space line → extras ≡ unwrap_or found []
    → extras ≡ extras_of text
unfolding extras_of
extras_some text line extras third found is some behind same =
    same
    ∙ ap (λ (f : Option (List ℕ)). unwrap_or f []) behind
    ∙ ap (λ (t : Option (List ℕ)). unwrap_or (option_and_then (behind_second is_space) t) []) (sym some ∙ is)

pub extras_none : (text extras : List ℕ) (third : Option (List ℕ)) → third ≡ third_line text
    → third ≡ None → extras ≡ [] → extras ≡ extras_of text
unfolding extras_of
extras_none text extras third is none same =
    same ∙ ap (λ (t : Option (List ℕ)). unwrap_or (option_and_then (behind_second is_space) t) []) (sym none ∙ is)
