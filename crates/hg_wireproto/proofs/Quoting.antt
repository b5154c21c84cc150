-- The name of a branch, quoted byte by byte.
use Rattle.std.proofs.Common.{◌≡◌, ℕ, ◌+◌, ◌<◌, List, [], ◌∷◌, ◌++◌, length, take, get_or, sym, ap, ◌∙◌}
use Rattle.std.specs.List.{flat_map}
use Rattle.std.proofs.lemmas.List.{append-nil, append_assoc, take_more}
use Rattle.std.proofs.lemmas.List.Concat.{flat_map-append}
use Rattle.hg_wireproto.specs.BranchMap.{quoted, quoted_byte}

pub quoted_none : (text : List ℕ) → text ≡ text ++ quoted []
unfolding quoted
quoted_none text = sym (append-nil text)

pub quoted_more : (start now next name : List ℕ) (i : ℕ) → i < length name
    → now ≡ start ++ quoted (take i name) → next ≡ now ++ quoted_byte (get_or name i 0)
    → next ≡ start ++ quoted (take (i + 1) name)
unfolding quoted
quoted_more start now next name i within so more =
    let front = flat_map quoted_byte (take i name) in
    let byte = quoted_byte (get_or name i 0) in
    more
    ∙ ap (λ (t : List ℕ). t ++ byte) so
    ∙ append_assoc start front byte
    ∙ ap (λ (t : List ℕ). start ++ (front ++ t)) (sym (append-nil byte))
    ∙ ap (λ (t : List ℕ). start ++ t) (sym (flat_map-append quoted_byte (take i name) (get_or name i 0 ∷ [])))
    ∙ ap (λ (t : List ℕ). start ++ flat_map quoted_byte t) (sym (take_more name i 0 within))
