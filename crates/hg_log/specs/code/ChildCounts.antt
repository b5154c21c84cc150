-- How the numbers of children are kept: beside them, the rows in an order in which those without children
-- come first.
use Rattle.std.specs.Prelude.{◌≡◌, ◌≢◌, ◌↔◌, ℕ, ◌+◌, ◌-◌, ◌<◌, ◌≤◌, ◌^◌, List, Option, None, Some, length}
use Rattle.std.specs.Prelude.{slice_index, slice_set}

-- `order` has each row once, and `places` says where
pub record AreInverse (order places : List ℕ) : Type 0 where
  pub as_long : length places ≡ length order
  pub at_row : (row : ℕ) → row < length order → (slice_index places row < length order)
      × (slice_index order (slice_index places row) ≡ row)
  pub at_place : (place : ℕ) → place < length order → (slice_index order place < length order)
      × (slice_index places (slice_index order place) ≡ place)

-- the rows at two places of an order, each in the other's place
pub record AreExchanged (order places new_order new_places : List ℕ) (first second : ℕ) : Type 0 where
  pub inverse : AreInverse new_order new_places
  pub as_long : length new_order ≡ length order
  pub at_first : slice_index new_places (slice_index order first) ≡ second
  pub at_second : slice_index new_places (slice_index order second) ≡ first
  pub others : (row : ℕ) → row ≢ slice_index order first → row ≢ slice_index order second →
      slice_index new_places row ≡ slice_index places row

-- the first places of the order are those of the rows without children
pub record AreKept (counts order places : List ℕ) (childless : ℕ) : Type 0 where
  pub as_long : length order ≡ length counts
  pub few : length counts < 2 ^ 32
  pub inverse : AreInverse order places
  pub within : childless ≤ length counts
  pub first : (row : ℕ) → row < length counts → (slice_index places row < childless) ↔
      (slice_index counts row ≡ 0)

-- the counts with one child more, or less, of a row, where there is one
abbrev pub one_more : Option ℕ → List ℕ → List ℕ
one_more None counts = counts
one_more (Some row) counts = slice_set counts row (slice_index counts row + 1)

abbrev pub one_less : Option ℕ → List ℕ → List ℕ
one_less None counts = counts
one_less (Some row) counts = slice_set counts row (slice_index counts row - 1)
