-- Rows: which id a row has, which ids are known, and when rows are lawful.
use Rattle.std.specs.Prelude.{◌≡◌, ◌≢◌, ◌⊎◌, ℕ, ◌<◌, List, Some, slice_get, All, AllPairs}
use Rattle.hg_types.specs.NullId.{null_id}
use Rattle.hg_log.specs.NodeId.{node_id_of}
use Rattle.hg_log.specs.Changeset.{Changeset}

-- the row of that number has that id
pub record HasNode (rows : List Changeset) (rev : ℕ) (node : List ℕ) : Type 0 where
  pub row : Changeset
  pub row_at : slice_get rows rev ≡ Some row
  pub node_is : row.node ≡ node

-- no row has the id
abbrev pub LacksNode : List Changeset → List ℕ → Type 0
LacksNode rows node = All (λ row. row.node ≢ node) rows

-- the null id is known everywhere, and so is the id of a row
abbrev pub IsKnown : List Changeset → List ℕ → Type 0
IsKnown rows node = (node ≡ null_id) ⊎ ((rev : ℕ) × HasNode rows rev node)

-- the id is null, or that of a row before that one
abbrev pub IsEarlier : List Changeset → ℕ → List ℕ → Type 0
IsEarlier rows rev node = (node ≡ null_id) ⊎ ((earlier : ℕ) × (earlier < rev) × HasNode rows earlier node)

-- a row agrees with its hash, and its parents are null or earlier rows
pub record IsLawfulRow (rows : List Changeset) (rev : ℕ) (row : Changeset) : Type 0 where
  pub hash : row.node ≡ node_id_of row.p1 row.p2 row.text
  pub not_null : row.node ≢ null_id
  pub p1 : IsEarlier rows rev row.p1
  pub p2 : IsEarlier rows rev row.p2

-- ids are distinct, and each row is lawful among those before it
pub record AreLawful (rows : List Changeset) : Type 0 where
  pub distinct : AllPairs (λ a b. a.node ≢ b.node) rows
  pub each : (rev : ℕ) (row : Changeset) → slice_get rows rev ≡ Some row → IsLawfulRow rows rev row

-- the row of that number has those parents
pub record HasParents (rows : List Changeset) (rev : ℕ) (p1 p2 : List ℕ) : Type 0 where
  pub row : Changeset
  pub row_at : slice_get rows rev ≡ Some row
  pub p1_is : row.p1 ≡ p1
  pub p2_is : row.p2 ≡ p2

-- the row of that number has that text
pub record HasText (rows : List Changeset) (rev : ℕ) (text : List ℕ) : Type 0 where
  pub row : Changeset
  pub row_at : slice_get rows rev ≡ Some row
  pub text_is : row.text ≡ text
