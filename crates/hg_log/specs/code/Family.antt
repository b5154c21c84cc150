-- How the children of rows are kept: the newest of each row, and what it was when each row came.
use Rattle.std.specs.Prelude.{◌≡◌, ℕ, ◌<◌, ◌^◌, List, length, Option, None, Some, slice_get, slice_index_or}
use Rattle.std.specs.Prelude.{slice_set}
use Rattle.hg_log.specs.declared.graph.Parents.{Parents}
use Rattle.hg_log.specs.Children.{child_before}
use Rattle.hg_log.specs.code.Graph.{AllAreEarlier}

-- the numbers of a row's parents
abbrev pub numbers_in : Option Parents → Option ℕ × Option ℕ
numbers_in None = (None, None)
numbers_in (Some parents) = (parents.p1, parents.p2)

abbrev pub numbers : List Parents → ℕ → Option ℕ × Option ℕ
numbers graph r = numbers_in (slice_get graph r)

-- the last of the first n rows that have that parent
abbrev pub child_of : (ℕ → Option ℕ × Option ℕ) → Option ℕ → ℕ → Option ℕ
child_of parents None n = None
child_of parents (Some p) n = child_before parents p n

-- the child that is kept for a parent
abbrev pub child_at : List (Option ℕ) → Option ℕ → Option ℕ
child_at newest None = None
child_at newest (Some p) = slice_index_or newest p None

-- another child kept for it
abbrev pub with_child : Option ℕ → Option ℕ → List (Option ℕ) → List (Option ℕ)
with_child None child newest = newest
with_child (Some p) child newest = slice_set newest p child

-- the newest child of each row, and of each parent of a row its newest child before that row
pub record AreLinked (graph : List Parents) (newest : List (Option ℕ)) (older : List Parents) : Type 0 where
  pub earlier : AllAreEarlier graph
  pub few : length graph < 2 ^ 31
  pub newest_for : length newest ≡ length graph
  pub older_for : length older ≡ length graph
  pub newest_is : (p : ℕ) → p < length graph →
      slice_index_or newest p None ≡ child_before (numbers graph) p (length graph)
  pub first_is : (r : ℕ) (parents before : Parents) → slice_get graph r ≡ Some parents →
      slice_get older r ≡ Some before → before.p1 ≡ child_of (numbers graph) parents.p1 r
  pub second_is : (r : ℕ) (parents before : Parents) → slice_get graph r ≡ Some parents →
      slice_get older r ≡ Some before → before.p2 ≡ child_of (numbers graph) parents.p2 r
