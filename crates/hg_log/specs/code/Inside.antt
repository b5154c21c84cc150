-- What a changelog keeps inside: the rows, which the index map has, and the graph of their parents.
use Rattle.std.specs.Prelude.{◌≡◌, ℕ, ◌<◌, ◌≤◌, List, length, map, Option, None, Some, slice_get}
use Rattle.hg_types.specs.declared.limits.Limits.{Limits}
use Rattle.hg_types.specs.declared.node.Node.{Node}
use Rattle.hg_types.specs.Limits.{IsAllowed}
use Rattle.hg_types.specs.NullId.{null_id}
use Rattle.hg_log.specs.declared.changelog.Row.{Row}
use Rattle.hg_log.specs.declared.graph.Parents.{Parents}
use Rattle.hg_log.specs.Changeset.{Changeset}
use Rattle.hg_log.specs.Rows.{HasNode, AreLawful}

abbrev pub changeset : {A : Type 0} → Node × Row A → Changeset
changeset entry = record { node = entry.0.0; p1 = entry.1.p1.0; p2 = entry.1.p2.0; text = entry.1.text }

abbrev pub rows_of : {A : Type 0} → List (Node × Row A) → List Changeset
rows_of entries = map changeset entries

-- the id is that of the row before r of that number, or null where there is none
abbrev pub IsAt : List Changeset → ℕ → List ℕ → Option ℕ → Type 0
IsAt rows r node None = node ≡ null_id
IsAt rows r node (Some p) = (p < r) × HasNode rows p node

-- the numbers of a row's parents
pub record AreParentsOf (rows : List Changeset) (r : ℕ) (row : Changeset) (parents : Parents) : Type 0 where
  pub p1 : IsAt rows r row.p1 parents.p1
  pub p2 : IsAt rows r row.p2 parents.p2

-- the graph has the numbers of each row's parents
pub record AreNumbered (rows : List Changeset) (graph : List Parents) : Type 0 where
  pub as_long : length graph ≡ length rows
  pub each : (r : ℕ) (row : Changeset) (parents : Parents) → slice_get rows r ≡ Some row →
      slice_get graph r ≡ Some parents → AreParentsOf rows r row parents

pub record IsWhole (rows : List Changeset) (graph : List Parents) (limits : Limits) : Type 0 where
  pub lawful : AreLawful rows
  pub numbered : AreNumbered rows graph
  pub allowed : IsAllowed limits
  pub few : length rows ≤ limits.revisions
