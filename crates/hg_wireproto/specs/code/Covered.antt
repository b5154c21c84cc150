-- Which changesets are no heads of their branches, as the code keeps it.
use Rattle.std.specs.Prelude.{◌≡◌, ◌↔◌, ◌⊎◌, ℕ, ◌<◌, Bool, false, List, length, slice_index_or}
use Rattle.hg_log.specs.Changeset.{Changeset}
use Rattle.hg_log.specs.Parents.{parents_of, IsParentIn, Leads}
use Rattle.hg_types.specs.declared.phase.Phase.{Phase}
use Rattle.hg_obs.specs.declared.marker.Marker.{Marker}
use Rattle.hg_wireproto.specs.BranchMap.{IsBranchHead}
use Rattle.hg_wireproto.specs.Hidden.{IsObsolete}
use Rattle.hg_wireproto.specs.code.Branches.{branch_at}

-- it is said of each row whether it is no head of its branch
pub record AreCovered {A : Type 0} (rows : List Changeset) (markers : List (Marker A)) (phases : List Phase)
    (covered : List Bool) : Type 0 where
  pub as_long : length covered ≡ length rows
  pub each : (r : ℕ) → r < length rows
      → (slice_index_or covered r false ≡ false) ↔ IsBranchHead rows markers phases (branch_at rows r) r

-- ---- among the first n rows

-- all of them that descend from that one are obsolete
abbrev pub IsHiddenTo : {A : Type 0} → List Changeset → List (Marker A) → List Phase → ℕ → ℕ → Type 0
IsHiddenTo rows markers phases n r = (d : ℕ) → d < n → Leads (parents_of rows) r d → IsObsolete rows markers phases d

-- the row is not hidden, and leads to no other of its branch that is not
pub record IsHeadTo {A : Type 0} (rows : List Changeset) (markers : List (Marker A)) (phases : List Phase)
    (n r : ℕ) : Type 0 where
  pub shown : ¬ (IsHiddenTo rows markers phases n r)
  pub last : (d : ℕ) → d < n → branch_at rows d ≡ branch_at rows r → ¬ (IsHiddenTo rows markers phases n d)
      → Leads (parents_of rows) r d → d ≡ r

-- it is said of each of them whether it is no such head
pub record AreCoveredTo {A : Type 0} (rows : List Changeset) (markers : List (Marker A)) (phases : List Phase) (n : ℕ)
    (covered : List Bool) : Type 0 where
  pub as_long : length covered ≡ n
  pub each : (r : ℕ) → r < n → (slice_index_or covered r false ≡ false) ↔ IsHeadTo rows markers phases n r

-- ---- one row more

-- a parent of the row, of the same branch
abbrev pub IsOwnParent : List Changeset → ℕ → ℕ → Type 0
IsOwnParent rows p n = IsParentIn (parents_of rows) p n × (branch_at rows p ≡ branch_at rows n)

-- Neither the row nor a parent is obsolete. Where a parent is of another branch, each head of the row's branch before
-- it is a parent of it.
pub record IsPlain {A : Type 0} (rows : List Changeset) (markers : List (Marker A)) (phases : List Phase)
    (covered : List Bool)
    (n : ℕ) : Type 0 where
  pub kept : ¬ (IsObsolete rows markers phases n)
  pub parents_kept : (p : ℕ) → IsParentIn (parents_of rows) p n → ¬ (IsObsolete rows markers phases p)
  pub reached : (p h : ℕ) → IsParentIn (parents_of rows) p n → h < n → slice_index_or covered h false ≡ false
      → branch_at rows h ≡ branch_at rows n
      → (branch_at rows p ≡ branch_at rows n) ⊎ IsParentIn (parents_of rows) h n
