-- The bytes of a size, one after another.
use Rattle.std.proofs.Common.{◌≡◌, ℕ, ◌+◌, ◌<◌, List, [], ◌∷◌, ◌++◌, length, take, get_or, sym, ap, ◌∙◌, append_assoc}
use Rattle.std.proofs.lemmas.List.{take_more}

-- what was taken with one byte more
pub taken_more : (rest piece : List ℕ) (i : ℕ) → i < length piece
    → (rest ++ take i piece) ++ get_or piece i 0 ∷ [] ≡ rest ++ take (i + 1) piece
taken_more rest piece i within =
    append_assoc rest (take i piece) (get_or piece i 0 ∷ [])
    ∙ ap (λ (bytes : List ℕ). rest ++ bytes) (sym (take_more piece i 0 within))
