-- Of which branches children say which rows are heads.
use Rattle.std.specs.Prelude.{◌≡◌, ◌↔◌, ◌⊎◌, ℕ, ◌<◌, ◌≤◌, Bool, true, false, List, length, slice_index, slice_index_or}
use Rattle.std.specs.Prelude.{All, Contains}
use Rattle.std.specs.Int.{bit_at}
use Rattle.hg_log.specs.Ancestors.{IsAncestor}
use Rattle.hg_log.specs.Changeset.{Changeset}
use Rattle.hg_types.specs.declared.phase.Phase.{Phase}
use Rattle.hg_obs.specs.declared.marker.Marker.{Marker}
use Rattle.hg_wireproto.specs.BranchMap.{IsBranchHead, IsOfBranch}
use Rattle.hg_wireproto.specs.Hidden.{IsHidden}
use Rattle.hg_wireproto.specs.code.Branches.{branch_at, is_last_in}
use Rattle.hg_wireproto.specs.code.Covered.{IsOwnParent}

-- none of the first n rows is a child of that one, of its branch, and not hidden
abbrev pub HasNoOwnChild : List Changeset → List Bool → ℕ → ℕ → Type 0
HasNoOwnChild rows hidden n r =
    (c : ℕ) → c < n → slice_index_or hidden c false ≡ false → ¬ (IsOwnParent rows r c)

-- it is said of each of the first n rows whether it is hidden or one is
abbrev pub AreLeftOut : List Changeset → List Bool → ℕ → List Bool → Type 0
AreLeftOut rows hidden n out = (r : ℕ) → r < n → (slice_index_or out r false ≡ false)
    ↔ ((slice_index_or hidden r false ≡ false) × HasNoOwnChild rows hidden n r)

-- What is not left out is not hidden, and no head is left out. No row that is not hidden is above all of its branch that
-- are not left out.
pub record AreCandidates {A : Type 0} (rows : List Changeset) (markers : List (Marker A)) (phases : List Phase)
    (out : List Bool) : Type 0 where
  pub shown : (r : ℕ) → r < length rows → slice_index_or out r false ≡ false → ¬ (IsHidden rows markers phases r)
  pub heads : (name : List ℕ) (r : ℕ) → IsBranchHead rows markers phases name r → slice_index_or out r false ≡ false
  pub below : (name : List ℕ) (d : ℕ) → IsOfBranch rows markers phases name d
      → ¬ ((e : ℕ) → e < length rows → slice_index_or out e false ≡ false → branch_at rows e ≡ name
      → ¬ (IsAncestor rows d e))

-- no descendant is kept, or it is the last
abbrev pub IsTold : ℕ → ℕ → ℕ → Type 0
IsTold behind last r = (bit_at behind 0 ≡ 0) ⊎ (last ≤ r)

-- that is so of the first n of these
abbrev pub AreAllTold : List ℕ → ℕ → List ℕ → ℕ → Type 0
AreAllTold behind last revs n = (k : ℕ) → k < n → IsTold (slice_index behind (slice_index revs k)) last (slice_index revs k)

-- one of these rows is the last of its line where it is told
pub record IsKin (rows : List Changeset) (behind revs : List ℕ) : Type 0 where
  pub within : All (λ r. r < length rows) revs
  pub barren : (r : ℕ) → Contains revs r → bit_at (slice_index behind r) 0 ≡ 0 → is_last_in rows revs r ≡ true
  pub last : (r n : ℕ) → Contains revs r → All (λ d. d ≤ n) revs → n ≤ r → is_last_in rows revs r ≡ true
