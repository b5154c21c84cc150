-- Which row is an ancestor of which.
use Rattle.std.specs.Prelude.{◌≡◌, ◌⊎◌, ℕ, ◌<◌, List, length, Some, slice_get}
use Rattle.hg_log.specs.Changeset.{Changeset}

-- row p has the id of a parent of row r
pub record IsParent (rows : List Changeset) (p r : ℕ) : Type 0 where
  pub parent : Changeset
  pub child : Changeset
  pub parent_at : slice_get rows p ≡ Some parent
  pub child_at : slice_get rows r ≡ Some child
  pub named : (child.p1 ≡ parent.node) ⊎ (child.p2 ≡ parent.node)

-- the least relation in which each row is its own ancestor, and an ancestor of a row's parent is one of the
-- row
pub data IsAncestor (rows : List Changeset) (a : ℕ) : ℕ → Type 0 where
  itself : a < length rows → IsAncestor rows a a
  of_parent : (p r : ℕ) → IsParent rows p r → IsAncestor rows a p → IsAncestor rows a r
