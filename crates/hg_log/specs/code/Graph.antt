-- The parents of rows by their numbers.
use Rattle.std.specs.Prelude.{◌≡◌, ◌≢◌, ◌⊎◌, ◌↔◌, ℕ, ◌<◌, ◌+◌, ◌^◌, ◌==◌, if◌then◌else◌, List, length, Option}
use Rattle.std.specs.Prelude.{None, Some, IfSome, slice_get, slice_index, AllPairs, Contains, sum_by}
use Rattle.hg_log.specs.declared.graph.Parents.{Parents}

-- row r has p as a parent
pub record HasParent (graph : List Parents) (p r : ℕ) : Type 0 where
  pub parents : Parents
  pub row_at : slice_get graph r ≡ Some parents
  pub named : (parents.p1 ≡ Some p) ⊎ (parents.p2 ≡ Some p)

pub data Reaches (graph : List Parents) (a : ℕ) : ℕ → Type 0 where
  itself : a < length graph → Reaches graph a a
  of_parent : (p r : ℕ) → HasParent graph p r → Reaches graph a p → Reaches graph a r

-- each parent comes before its child
abbrev pub AreEarlier : ℕ → Parents → Type 0
AreEarlier r parents = IfSome parents.p1 (λ p. p < r) × IfSome parents.p2 (λ p. p < r)

abbrev pub AllAreEarlier : List Parents → Type 0
AllAreEarlier graph = (r : ℕ) (parents : Parents) → slice_get graph r ≡ Some parents → AreEarlier r parents

-- the rows that no row has as a parent
pub record AreChildless (graph : List Parents) (rows : List ℕ) : Type 0 where
  pub each : (r : ℕ) → Contains rows r ↔ ((r < length graph) × ((child : ℕ) → ¬ (HasParent graph r child)))
  pub distinct : AllPairs (λ a b. a ≢ b) rows

-- 1 where it is that row, else 0
abbrev pub is_named : ℕ → Option ℕ → ℕ
is_named row None = 0
is_named row (Some p) = if p == row then 1 else 0

-- how often rows have that row as a parent
abbrev pub times_named : ℕ → List Parents → ℕ
times_named row graph = sum_by (λ parents. is_named row parents.p1 + is_named row parents.p2) graph

-- each count is how often the row is a parent
pub record AreCounted (graph : List Parents) (counts : List ℕ) : Type 0 where
  pub as_long : length counts ≡ length graph
  pub earlier : AllAreEarlier graph
  pub few : length graph < 2 ^ 31
  pub counted : (row : ℕ) → row < length graph → slice_index counts row ≡ times_named row graph
