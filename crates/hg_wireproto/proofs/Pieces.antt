-- Texts cut at a byte, and what is made of the pieces so far.
use Rattle.std.proofs.Common.{◌≡◌, ℕ, ◌+◌, ◌-◌, ◌<◌, ◌≤◌, Bool, true, false, ltb, List, [], ◌∷◌, ◌++◌, length, map, take, drop}
use Rattle.std.proofs.Common.{get_or, Option, Some, None, Bor, refl, sym, ap, ◌∙◌, arith}
use Rattle.std.specs.List.{flat_map, position, position_or_len, before_first, slice_split}
use Rattle.std.specs.Option.{option_map}
use Rattle.std.proofs.lemmas.List.{length-drop, map-append, take_all, take_more}
use Rattle.std.proofs.lemmas.List.Concat.{flat_map-append}
use Rattle.std.proofs.lemmas.List.{append-nil, append_assoc}
use Rattle.std.proofs.lemmas.Bool.{ltb-true, ltb-false}
use Rattle.std.proofs.lemmas.List.Sums.{fails_before_first}
use Rattle.std.proofs.lemmas.List.Splits.{slice_split_first, slice_split_none}
use Rattle.hg_wireproto.specs.Text.{behind_first}

-- the first byte that passes is at this place
pub behind_some : (test : ℕ → Bool) (text : List ℕ) (place : ℕ) → Some place ≡ position test text
    → behind_first test text ≡ Some (drop (place + 1) text)
unfolding behind_first
behind_some test text place e = ap (option_map (λ (n : ℕ). drop (n + 1) text)) (sym e)

pub behind_none : (test : ℕ → Bool) (text : List ℕ)
    → (let none : Option ℕ = None in none) ≡ position test text → behind_first test text ≡ None
unfolding behind_first
behind_none test text e = ap (option_map (λ (n : ℕ). drop (n + 1) text)) (sym e)

pub rest_whole : (n : ℕ) (text : List ℕ) → take (length text - n) (drop n text) ≡ drop n text
rest_whole n text = take_all (length text - n) (drop n text) (omega (arith, length-drop n text))

-- how much is to be cut of a text, or of none
abbrev pub size_of : Option (List ℕ) → ℕ
size_of None = 0
size_of (Some text) = length text + 1

cut_by : (b : Bool) (test : ℕ → Bool) (text : List ℕ) → ltb (position_or_len test text) (length text) ≡ b
    → size_of (behind_first test text) < length text + 1
unfolding behind_first
cut_by true test text e =
    let within = ltb-true _ _ e in
    rw e (omega (arith, length-drop (position_or_len test text + 1) text))
cut_by false test text e = rw e (omega arith)

-- what stands after a cut is shorter
pub shorter : (test : ℕ → Bool) (left rest : Option (List ℕ)) (text : List ℕ) → rest ≡ Some text
    → left ≡ behind_first test text → size_of left < size_of rest
shorter test left rest text e f =
    rw (e, f) (cut_by (ltb (position_or_len test text) (length text)) test text refl)

-- the pieces of a text that is left, or of none
abbrev pub pieces_of : (ℕ → Bool) → Option (List ℕ) → List (List ℕ)
pieces_of test None = []
pieces_of test (Some text) = slice_split test text

split_by : (b : Bool) (test : ℕ → Bool) (text : List ℕ) → ltb (position_or_len test text) (length text) ≡ b
    → slice_split test text ≡ before_first test text ∷ pieces_of test (behind_first test text)
unfolding behind_first
split_by true test text e = rw e (slice_split_first test text 0 (ltb-true _ _ e))
split_by false test text e =
    let past : length text ≤ position_or_len test text = ltb-false _ _ e in
    rw e (slice_split_none test text (λ k d within. fails_before_first test text k d (omega arith))
    ∙ ap (λ (piece : List ℕ). piece ∷ []) (sym (take_all (position_or_len test text) text past)))

-- the first piece of a text and the others
pub split_more : (test : ℕ → Bool) (text : List ℕ)
    → slice_split test text ≡ before_first test text ∷ pieces_of test (behind_first test text)
split_more test text = split_by (ltb (position_or_len test text) (length text)) test text refl

-- one piece is cut off
pub cut_more : (test : ℕ → Bool) (all done : List (List ℕ)) (text piece : List ℕ) (more : Option (List ℕ))
    → piece ≡ before_first test text → more ≡ behind_first test text
    → done ++ pieces_of test (Some text) ≡ all → (done ++ piece ∷ []) ++ pieces_of test more ≡ all
cut_more test all done text piece more e f so =
    append_assoc done (piece ∷ []) (pieces_of test more)
    ∙ ap (λ (first : List ℕ). done ++ (first ∷ pieces_of test more)) e
    ∙ ap (λ (rest : Option (List ℕ)). done ++ (before_first test text ∷ pieces_of test rest)) f
    ∙ ap (λ (ps : List (List ℕ)). done ++ ps) (sym (split_more test text))
    ∙ so

-- what is made of one item more
pub made_more : {X Y : Type 0} (f : X → List Y) (xs : List X) (x : X) (now next : List Y)
    → now ≡ flat_map f xs → next ≡ now ++ f x → next ≡ flat_map f (xs ++ x ∷ [])
made_more {X} {Y} f xs x now next so more =
    more
    ∙ ap (λ (made : List Y). made ++ f x) so
    ∙ ap (λ (made : List Y). flat_map f xs ++ made) (sym (append-nil (f x)))
    ∙ sym (flat_map-append f xs (x ∷ []))

-- the texts of borrowed pieces
abbrev pub texts : List (Bor (List ℕ)) → List (List ℕ)
texts pieces = map (λ piece. piece.now) pieces

pub texts_more : (pieces : List (Bor (List ℕ))) (i : ℕ) (d : Bor (List ℕ)) → i < length pieces
    → texts (take (i + 1) pieces) ≡ texts (take i pieces) ++ (get_or pieces i d).now ∷ []
texts_more pieces i d within =
    ap texts (take_more pieces i d within)
    ∙ map-append (λ (p : Bor (List ℕ)). p.now) (take i pieces) (get_or pieces i d ∷ [])

pub piece_more : {Y : Type 0} (f : List ℕ → List Y) (pieces : List (Bor (List ℕ))) (i : ℕ)
    (d : Bor (List ℕ)) (now next : List Y) → i < length pieces
    → now ≡ flat_map f (texts (take i pieces)) → next ≡ now ++ f (get_or pieces i d).now
    → next ≡ flat_map f (texts (take (i + 1) pieces))
piece_more f pieces i d now next within so more =
    made_more f (texts (take i pieces)) (get_or pieces i d).now now next so more
    ∙ ap (flat_map f) (sym (texts_more pieces i d within))

-- and of all of them
pub all_pieces : {Y : Type 0} (f : List ℕ → List Y) (pieces own : List (Bor (List ℕ))) (n : ℕ)
    (cut : List (List ℕ)) (made : List Y) → length pieces ≤ n → pieces ≡ own → texts own ≡ cut
    → made ≡ flat_map f (texts (take n pieces)) → made ≡ flat_map f cut
all_pieces f pieces own n cut made past lent same so =
    so ∙ ap (λ (ps : List (Bor (List ℕ))). flat_map f (texts ps)) (take_all n pieces past ∙ lent)
    ∙ ap (flat_map f) same

-- what one thing is made of each piece
pub mapped_more : {Y : Type 0} (f : List ℕ → Y) (pieces : List (Bor (List ℕ))) (i : ℕ)
    (d : Bor (List ℕ)) (now next : List Y) (y : Y) → i < length pieces → now ≡ map f (texts (take i pieces))
    → next ≡ now ++ y ∷ [] → y ≡ f (get_or pieces i d).now → next ≡ map f (texts (take (i + 1) pieces))
mapped_more {Y} f pieces i d now next y within so more made =
    more
    ∙ ap (λ (ys : List Y). ys ++ y ∷ []) so
    ∙ ap (λ (z : Y). map f (texts (take i pieces)) ++ z ∷ []) made
    ∙ sym (map-append f (texts (take i pieces)) ((get_or pieces i d).now ∷ []))
    ∙ ap (map f) (sym (texts_more pieces i d within))

pub mapped_all : {Y : Type 0} (f : List ℕ → Y) (pieces own : List (Bor (List ℕ))) (n : ℕ)
    (cut : List (List ℕ)) (made : List Y) → length pieces ≤ n → pieces ≡ own → texts own ≡ cut
    → made ≡ map f (texts (take n pieces)) → made ≡ map f cut
mapped_all f pieces own n cut made past lent same so =
    so ∙ ap (λ (ps : List (Bor (List ℕ))). map f (texts ps)) (take_all n pieces past ∙ lent)
    ∙ ap (map f) same
