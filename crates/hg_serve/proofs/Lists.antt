-- Histories, from their ends.
use Rattle.std.proofs.Common.{◌≡◌, List, [], ◌∷◌, ◌++◌}
use Rattle.std.proofs.lemmas.List.{reverse-append}
use Rattle.hg_parts.specs.declared.item.Taken.{Taken}
use Rattle.hg_serve.specs.Histories.{newest_first}

-- one place more comes first as the book tells it
pub one_more : {A : Type 0} (h : List (Taken A)) (e : Taken A) → newest_first (h ++ e ∷ []) ≡ e
    ∷ newest_first h
one_more h e = reverse-append h (e ∷ [])
