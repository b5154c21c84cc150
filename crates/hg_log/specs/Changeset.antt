-- What contracts see of a changelog: its changesets in the order in which they came, and its limits.
use Rattle.std.specs.Prelude.{ℕ, List}
use Rattle.hg_types.specs.declared.limits.Limits.{Limits}

-- a row: the id of the changeset, the ids of its parents, and its text
pub record Changeset : Type 0 where
  pub node : List ℕ
  pub p1 : List ℕ
  pub p2 : List ℕ
  pub text : List ℕ

-- a changelog: its rows in the order in which they came, and its limits
pub record Log : Type 0 where
  pub rows : List Changeset
  pub limits : Limits
