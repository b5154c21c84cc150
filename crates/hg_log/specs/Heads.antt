-- The heads: the rows that are nobody's parent, or the null id alone.
use Rattle.std.specs.Prelude.{◌≡◌, ◌≢◌, ◌↔◌, ℕ, List, [], ◌∷◌, map, All, AllPairs, Contains}
use Rattle.std.specs.Ordering.{nat_cmp}
use Rattle.std.specs.Cmp.Lexicographic.{slice_cmp}
use Rattle.std.specs.List.Sorted.{IsSorted}
use Rattle.hg_types.specs.declared.node.Node.{Node}
use Rattle.hg_types.specs.NullId.{null_id}
use Rattle.hg_log.specs.Changeset.{Changeset}
use Rattle.hg_log.specs.Rows.{HasNode}

-- the id of a row that is nobody's parent
pub record IsHead (rows : List Changeset) (node : List ℕ) : Type 0 where
  pub rev : ℕ
  pub has : HasNode rows rev node
  pub childless : All (λ row. (row.p1 ≢ node) × (row.p2 ≢ node)) rows

-- the heads where there are rows: each once, in ascending order of their bytes
pub record AreHeadsOf (rows : List Changeset) (heads : List (List ℕ)) : Type 0 where
  pub each : (node : List ℕ) → Contains heads node ↔ IsHead rows node
  pub distinct : AllPairs (λ a b. a ≢ b) heads
  pub ascending : IsSorted (slice_cmp nat_cmp) heads

-- exactly the heads, no two alike, in ascending order; of no rows the null id alone
abbrev pub AreHeads : List Changeset → List (List ℕ) → Type 0
AreHeads [] heads = heads ≡ null_id ∷ []
AreHeads (row ∷ rows) heads = AreHeadsOf (row ∷ rows) heads

-- the bytes of each id
abbrev pub ids : List Node → List (List ℕ)
ids nodes = map (λ node. node.0) nodes
