-- What is put of branches, one after the other: their lines, or their heads.
use Rattle.std.proofs.Common.{◌≡◌, ℕ, ◌+◌, ◌<◌, ◌≤◌, List, [], ◌∷◌, ◌++◌, length, take, get_or, sym}
use Rattle.std.proofs.Common.{ap, ◌∙◌}
use Rattle.std.specs.List.{flat_map}
use Rattle.std.proofs.lemmas.List.{append-nil, append_assoc, flat_map_more, take_all, take_more}
use Rattle.hg_wireproto.specs.Text.{ended}

-- ---- one after the other

pub lines_none : {X : Type 0} (line : X → List ℕ) (xs : List X) (start : List ℕ)
    → start ≡ start ++ flat_map line (take 0 xs)
lines_none line xs start = sym (append-nil start)

pub lines_more : {X : Type 0} (line : X → List ℕ) (xs : List X) (p : ℕ) (x : X) (start now next : List ℕ)
    → p < length xs → x ≡ get_or xs p x → now ≡ start ++ flat_map line (take p xs) → next ≡ now ++ line x
    → next ≡ start ++ flat_map line (take (p + 1) xs)
lines_more {X} line xs p x start now next within here so more =
    more
    ∙ ap (λ (t : List ℕ). t ++ line x) so
    ∙ flat_map_more line start (take p xs) x
    ∙ ap (λ (y : X). start ++ flat_map line (take p xs ++ y ∷ [])) here
    ∙ ap (λ (ys : List X). start ++ flat_map line ys) (sym (take_more xs p x within))

pub lines_all : {X : Type 0} (line : X → List ℕ) (xs : List X) (p : ℕ) (start now : List ℕ) → length xs ≤ p
    → now ≡ start ++ flat_map line (take p xs) → now ≡ start ++ flat_map line xs
lines_all {X} line xs p start now past so =
    so ∙ ap (λ (ys : List X). start ++ flat_map line ys) (take_all p xs past)

-- a line is ended
pub line_whole : (word : ℕ → List ℕ) (before name now next items revs : List ℕ) (i : ℕ) → length items ≤ i
    → items ≡ revs → now ≡ (before ++ name) ++ flat_map word (take i items) → next ≡ now ++ 10 ∷ []
    → next ≡ before ++ ended 10 (name ++ flat_map word revs)
line_whole word before name now next items revs i past same so more =
    let words = flat_map word revs in
    more
    ∙ ap (λ (t : List ℕ). t ++ 10 ∷ []) so
    ∙ ap (λ (xs : List ℕ). ((before ++ name) ++ flat_map word xs) ++ 10 ∷ []) (take_all i items past ∙ same)
    ∙ ap (λ (t : List ℕ). t ++ 10 ∷ []) (append_assoc before name words)
    ∙ append_assoc before (name ++ words) (10 ∷ [])
