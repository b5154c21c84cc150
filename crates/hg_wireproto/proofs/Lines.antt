-- Words and lines with a byte after each, and joined.
use Rattle.std.proofs.Common.{◌≡◌, ℕ, ◌+◌, ◌-◌, List, [], ◌∷◌, ◌++◌, length, map, take, refl, sym}
use Rattle.std.proofs.Common.{ap, ◌∙◌, arith, ◌≤◌, Bool, true, false, filter, Some, slice_get}
use Rattle.std.specs.Prelude.{if◌then◌else◌, ◌==◌}
use Rattle.std.specs.List.{flat_map, join_with_byte, slice_split}
use Rattle.std.proofs.lemmas.List.{append-nil, append_assoc, take_at, take_more, take_all, length-append}
use Rattle.std.proofs.lemmas.List.Concat.{flat_map-append}
use Rattle.std.proofs.lemmas.Option.{get_or_from_slice_get, slice_get_within}
use Rattle.std.proofs.Common.{eqb-true}
use Rattle.hex.specs.Hex.{encode_lower}
use Rattle.hg_types.specs.declared.node.Node.{Node}
use Rattle.hg_log.specs.Changeset.{Changeset}
use Rattle.hg_log.specs.Heads.{ids}
use Rattle.hg_log.specs.HeadCount.{id_at, id_of}
use Rattle.hg_log.specs.Rows.{HasNode}
use Rattle.hg_wireproto.specs.Text.{ended, lines_if}
use Rattle.hg_wireproto.specs.Heads.{is_space, known_digit, known_text}
use Rattle.hg_wireproto.specs.Batch.{escaped}

-- the digits of a head, and a space
abbrev pub id_word : Node → List ℕ
id_word node = ended 32 (encode_lower node.0)

-- an answer, escaped, and a semicolon
abbrev pub answer_ended : List ℕ → List ℕ
answer_ended answer = ended 59 (escaped answer)

whole : (byte : ℕ) (line : List ℕ) (lines : List (List ℕ))
    → flat_map (ended byte) (line ∷ lines) ≡ join_with_byte byte (line ∷ lines) ++ byte ∷ []
whole byte line [] = append-nil (line ++ byte ∷ [])
whole byte line (next ∷ lines) =
    let rest = join_with_byte byte (next ∷ lines) in
    ap (λ (text : List ℕ). (line ++ byte ∷ []) ++ text) (whole byte next lines)
    ∙ append_assoc line (byte ∷ []) (rest ++ byte ∷ [])
    ∙ sym (append_assoc line (byte ∷ rest) (byte ∷ []))

cut_last : (byte : ℕ) (front : List ℕ)
    → take (length (front ++ byte ∷ []) - 1) (front ++ byte ∷ []) ≡ front
cut_last byte front =
    take_at front (byte ∷ []) (length (front ++ byte ∷ []) - 1)
    (omega (arith, length-append front (byte ∷ [])))

-- with the last byte cut off, the lines are joined
pub all_joined : (byte : ℕ) (lines : List (List ℕ))
    → take (length (flat_map (ended byte) lines) - 1) (flat_map (ended byte) lines)
    ≡ join_with_byte byte lines
all_joined byte [] = refl
all_joined byte (line ∷ lines) =
    ap (λ (text : List ℕ). take (length text - 1) text) (whole byte line lines)
    ∙ cut_last byte (join_with_byte byte (line ∷ lines))

pub through_map : {X : Type 0} (byte : ℕ) (f : X → List ℕ) (xs : List X)
    → flat_map (λ x. ended byte (f x)) xs ≡ flat_map (ended byte) (map f xs)
through_map byte f [] = refl
through_map byte f (x ∷ xs) = ap (λ (text : List ℕ). ended byte (f x) ++ text) (through_map byte f xs)

-- words or lines that were written, and joined
pub joined_of : {X : Type 0} (byte : ℕ) (f : X → List ℕ) (xs : List X) (n : ℕ) (text : List ℕ)
    → length xs ≤ n → text ≡ flat_map (λ x. ended byte (f x)) (take n xs)
    → take (length text - 1) text ≡ join_with_byte byte (map f xs)
joined_of {X} byte f xs n text past so =
    let whole = so ∙ ap (flat_map (λ (x : X). ended byte (f x))) (take_all n xs past) ∙ through_map byte f xs in
    ap (λ (t : List ℕ). take (length t - 1) t) whole ∙ all_joined byte (map f xs)

words_of : (nodes : List Node) → map (λ node. encode_lower node.0) nodes ≡ map encode_lower (ids nodes)
words_of [] = refl
words_of (node ∷ nodes) = ap (λ (words : List (List ℕ)). encode_lower node.0 ∷ words) (words_of nodes)

-- the line of the heads
pub heads_said : (nodes : List Node) (words text : List ℕ) → words ≡ flat_map id_word nodes
    → text ≡ take (length words - 1) words ++ 10 ∷ []
    → text ≡ join_with_byte 32 (map encode_lower (ids nodes)) ++ 10 ∷ []
heads_said nodes words text is so =
    let digits : Node → List ℕ = λ node. encode_lower node.0 in
    so ∙ ap (λ (t : List ℕ). t ++ 10 ∷ [])
    (ap (λ (w : List ℕ). take (length w - 1) w) (is ∙ through_map 32 digits nodes)
    ∙ all_joined 32 (map digits nodes) ∙ ap (join_with_byte 32) (words_of nodes))

true_false : true ≡ false → ⊥
true_false e = cc

pub known_none : (rows : List Changeset) (nodes : List ℕ) → (length nodes == 0) ≡ true
    → [] ≡ known_text rows nodes
unfolding known_text
known_none rows [] none = refl
known_none rows (byte ∷ bytes) none = absurd (omega (arith, eqb-true (length (byte ∷ bytes)) 0 none))

pub known_some : (rows : List Changeset) (nodes : List ℕ) → (length nodes == 0) ≡ false
    → map (known_digit rows) (slice_split is_space nodes) ≡ known_text rows nodes
unfolding known_text
known_some rows [] some = absurd (true_false some)
known_some rows (byte ∷ bytes) some = refl

-- ---- lines of what passes

kept : {X : Type 0} (b : Bool) (line : X → List ℕ) (y : X) (front back : List X) (more : List (List ℕ))
    → map line back ≡ map line front ++ more
    → map line (if b then (y ∷ back) else back) ≡ map line (if b then (y ∷ front) else front) ++ more
kept true line y front back more e = ap (λ (lines : List (List ℕ)). line y ∷ lines) e
kept false line y front back more e = e

one_told : {X : Type 0} (b : Bool) (line : X → List ℕ) (x : X)
    → map line (if b then (x ∷ []) else []) ≡ (if b then (line x ∷ []) else [])
one_told true line x = refl
one_told false line x = refl

told_more : {X : Type 0} (test : X → Bool) (line : X → List ℕ) (xs : List X) (x : X)
    → map line (filter test (xs ++ x ∷ [])) ≡ map line (filter test xs) ++ lines_if test line x
told_more test line [] x = one_told (test x) line x
told_more test line (y ∷ ys) x =
    kept (test y) line y (filter test ys) (filter test (ys ++ x ∷ [])) (lines_if test line x)
    (told_more test line ys x)

-- the line of one more, where it passes
pub line_more : {X : Type 0} (test : X → Bool) (line : X → List ℕ) (before now next : List ℕ) (xs : List X)
    (x : X) → now ≡ before ++ flat_map (ended 10) (map line (filter test xs))
    → next ≡ now ++ flat_map (ended 10) (lines_if test line x)
    → next ≡ before ++ flat_map (ended 10) (map line (filter test (xs ++ x ∷ [])))
line_more test line before now next xs x so more =
    let front = map line (filter test xs) in
    let last = lines_if test line x in
    more
    ∙ ap (λ (t : List ℕ). t ++ flat_map (ended 10) last) so
    ∙ append_assoc before (flat_map (ended 10) front) (flat_map (ended 10) last)
    ∙ ap (λ (t : List ℕ). before ++ t) (sym (flat_map-append (ended 10) front last))
    ∙ ap (λ (lines : List (List ℕ)). before ++ flat_map (ended 10) lines) (sym (told_more test line xs x))

pub line_told : {X : Type 0} (test : X → Bool) (line : X → List ℕ) (x : X) (b : Bool) (before next : List ℕ)
    (text : List ℕ) → b ≡ test x → b ≡ true → text ≡ line x → next ≡ before ++ ended 10 text
    → next ≡ before ++ flat_map (ended 10) (lines_if test line x)
line_told test line x b before next text asked passed same more =
    more
    ∙ ap (λ (t : List ℕ). before ++ ended 10 t) same
    ∙ ap (λ (t : List ℕ). before ++ t) (sym (append-nil (ended 10 (line x))))
    ∙ ap (λ (c : Bool). before ++ flat_map (ended 10) (if c then (line x ∷ []) else [])) (sym passed ∙ asked)

pub line_untold : {X : Type 0} (test : X → Bool) (line : X → List ℕ) (x : X) (b : Bool) (before : List ℕ)
    → b ≡ test x → b ≡ false → before ≡ before ++ flat_map (ended 10) (lines_if test line x)
line_untold test line x b before asked failed =
    sym (append-nil before)
    ∙ ap (λ (c : Bool). before ++ flat_map (ended 10) (if c then (line x ∷ []) else [])) (sym failed ∙ asked)

-- the id that a row has
pub has_id : (rows : List Changeset) (rev : ℕ) (id : List ℕ) → HasNode rows rev id → id_at rows rev ≡ id
has_id rows rev id has = ap id_of has.row_at ∙ has.node_is

-- the line of the first, where it passes, and those of the others
line_first : {X : Type 0} (test : X → Bool) (line : X → List ℕ) (x : X) (xs : List X)
    → flat_map (ended 10) (lines_if test line x) ++ flat_map (ended 10) (map line (filter test xs))
    ≡ flat_map (ended 10) (map line (filter test (x ∷ xs)))
line_first {X} test line x xs = by (test x)
  where
    by : (b : Bool) → flat_map (ended 10) (if b then line x ∷ [] else []) ++ flat_map (ended 10) (map line (filter test xs))
        ≡ flat_map (ended 10) (map line (if b then x ∷ filter test xs else filter test xs))
    by true = ap (λ (t : List ℕ). t ++ flat_map (ended 10) (map line (filter test xs))) (append-nil (ended 10 (line x)))
    by false = refl

-- the lines so far and those that are left, after one more
pub line_left : {X : Type 0} (test : X → Bool) (line : X → List ℕ) (all now next : List ℕ) (left xs : List X)
    (x : X) → left ≡ x ∷ xs → now ++ flat_map (ended 10) (map line (filter test left)) ≡ all
    → next ≡ now ++ flat_map (ended 10) (lines_if test line x)
    → next ++ flat_map (ended 10) (map line (filter test xs)) ≡ all
line_left {X} test line all now next left xs x is so more =
    let one = flat_map (ended 10) (lines_if test line x) in
    let rest = flat_map (ended 10) (map line (filter test xs)) in
    ap (λ (t : List ℕ). t ++ rest) more ∙ append_assoc now one rest
    ∙ ap (λ (t : List ℕ). now ++ t) (line_first test line x xs)
    ∙ ap (λ (ys : List X). now ++ flat_map (ended 10) (map line (filter test ys))) (sym is) ∙ so

-- a place in a list, and what is there
pub taken_more : {X : Type 0} (xs : List X) (i : ℕ) (x : X) → slice_get xs i ≡ Some x
    → take (i + 1) xs ≡ take i xs ++ x ∷ []
taken_more xs i x here =
    take_more xs i x (slice_get_within xs i x here)
    ∙ ap (λ y. take i xs ++ y ∷ []) (get_or_from_slice_get xs i x x here)

-- two runs of lines, one after the other
pub lines_on : (before now next : List ℕ) (first second : List (List ℕ))
    → now ≡ before ++ flat_map (ended 10) first → next ≡ now ++ flat_map (ended 10) second
    → next ≡ before ++ flat_map (ended 10) (first ++ second)
lines_on before now next first second so more =
    more
    ∙ ap (λ (t : List ℕ). t ++ flat_map (ended 10) second) so
    ∙ append_assoc before (flat_map (ended 10) first) (flat_map (ended 10) second)
    ∙ ap (λ (t : List ℕ). before ++ t) (sym (flat_map-append (ended 10) first second))

-- all lines, joined
pub lines_joined : (none text : List ℕ) (lines : List (List ℕ)) → none ≡ []
    → text ≡ none ++ flat_map (ended 10) lines → take (length text - 1) text ≡ join_with_byte 10 lines
lines_joined none text lines empty so =
    let whole = so ∙ ap (λ (t : List ℕ). t ++ flat_map (ended 10) lines) empty in
    ap (λ (t : List ℕ). take (length t - 1) t) whole ∙ all_joined 10 lines
