-- The items of pushes, and histories of them.
use Rattle.std.specs.Prelude.{◌≡◌, ℕ, ◌+◌, ◌==◌, ◌||◌, Bool, true, false, List, [], ◌∷◌, map, filter}
use Rattle.std.specs.Prelude.{MatchBool}
use Rattle.hg_parts.specs.declared.item.Item.{Item}
use Rattle.hg_parts.specs.declared.item.What.{What}
use Rattle.hg_parts.specs.declared.item.What.TheVariants.{Part as a_part, End, Cut}
use Rattle.hg_parts.specs.declared.item.Taken.{Taken}

module _ {A : Type 0} where
  -- a part, and no mark
  abbrev pub is_part : What A → Bool
  is_part (a_part part) = true
  is_part End = false
  is_part (Cut reason) = false

  -- the items of the push p, in order
  abbrev pub of : ℕ → List (Item A) → List (Item A)
  of p xs = filter (λ (x : Item A). x.push == p) xs

  -- the items of a history, in order
  abbrev pub items_of : List (Taken A) → List (Item A)
  items_of h = map (λ (e : Taken A). e.item) h

  -- each of the items is a part
  abbrev pub AllParts : List (Item A) → Type 0
  AllParts [] = Unit {0}
  AllParts (x ∷ xs) = (is_part x.what ≡ true) × AllParts xs

  -- of one push's items: the parts have the indices k, k + 1, .., a mark has the next one, and nothing
  -- follows a mark
  abbrev pub IsOrderly : ℕ → List (Item A) → Type 0
  IsOrderly k [] = Unit {0}
  IsOrderly k (x ∷ xs) = (x.index ≡ k) × MatchBool (is_part x.what) (IsOrderly (k + 1) xs) (xs ≡ [])

-- the number p is one of these
abbrev pub has : ℕ → List ℕ → Bool
has p [] = false
has p (q ∷ qs) = (q == p) || has p qs

-- no number comes twice
abbrev pub IsDistinct : List ℕ → Type 0
IsDistinct [] = Unit {0}
IsDistinct (p ∷ ps) = (has p ps ≡ false) × IsDistinct ps
