-- Who pushes.
use Rattle.std.specs.Prelude.{ℕ, List, [], ◌∷◌, Option, Some, None}

-- a name of no bytes is none
abbrev pub known_user : List ℕ → Option (List ℕ)
known_user [] = None
known_user (first ∷ others) = Some (first ∷ others)
