-- Texts that are cut at a byte, and texts that are joined.
use Rattle.std.specs.Prelude.{ℕ, ◌+◌, drop, Bool, List, [], ◌∷◌, ◌++◌, Option, if◌then◌else◌}
use Rattle.std.specs.List.{position}
use Rattle.std.specs.Option.{option_map}

-- what stands after the first byte that passes, where one does
unfoldable pub behind_first : (ℕ → Bool) → List ℕ → Option (List ℕ)
behind_first test text = option_map (λ place. drop (place + 1) text) (position test text)

-- a text with a byte at its end
abbrev pub ended : ℕ → List ℕ → List ℕ
ended byte text = text ++ byte ∷ []

-- the line of what passes
abbrev pub lines_if : {X : Type 0} → (X → Bool) → (X → List ℕ) → X → List (List ℕ)
lines_if test line x = if test x then line x ∷ [] else []
