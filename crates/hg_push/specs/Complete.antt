-- What a push that is answered as done had of its sender.
use Rattle.std.specs.Prelude.{ℕ, ◌≡◌, ◌+◌, false, List, [], ◌∷◌, ◌++◌, length, MatchBool}
use Rattle.hg_types.specs.declared.part.Part.{Part}
use Rattle.hg_parts.specs.declared.item.Item.{Item}
use Rattle.hg_parts.specs.declared.item.What.TheVariants.{End}
use Rattle.hg_push.specs.History.{is_mark}
use Rattle.hg_push.specs.World.{all_parts, has_mark}

-- Of one push's items: the parts have the indices k, k + 1, .., a mark has the next one, and nothing follows
-- a mark.
abbrev pub IsOrderly : {A : Type 0} → ℕ → List (Item A) → Type 0
IsOrderly k [] = Unit {0}
IsOrderly k (x ∷ xs) = (x.index ≡ k) × MatchBool (is_mark x.what) (xs ≡ []) (IsOrderly (k + 1) xs)

-- The items end with an end mark, which counts the parts before it, and no item but the last is a mark.
pub record EndsOnce {A : Type 0} (items : List (Item A)) : Type 0 where
  pub front : List (Item A)
  pub mark : Item A
  pub spelled : items ≡ front ++ mark ∷ []
  pub is_end : mark.what ≡ End
  pub counts : mark.index ≡ length (all_parts front)
  pub parts_alone : has_mark front ≡ false

-- All parts that its sender put were run, once and in their order, and the mark was the last item that it
-- put.
pub record IsComplete {A : Type 0} (items : List (Item A)) (ran : List (Part A)) : Type 0 where
  pub parts : ran ≡ all_parts items
  pub mark : EndsOnce items
