-- Which rows are no heads of their branches, once some became obsolete.
use Rattle.std.specs.Prelude.{◌≡◌, ◌≢◌, ◌↔◌, ◌⊎◌, ℕ, ◌<◌, Bool, false, List, ◌++◌, length, All, Contains}
use Rattle.std.specs.Prelude.{Option, Some, slice_index_or}
use Rattle.hg_log.specs.Changeset.{Changeset}
use Rattle.hg_log.specs.Parents.{parents_of, IsParentIn}
use Rattle.hg_types.specs.declared.phase.Phase.{Phase}
use Rattle.hg_obs.specs.declared.marker.Marker.{Marker}
use Rattle.hg_wireproto.specs.code.Branches.{branch_at}
use Rattle.hg_wireproto.specs.code.Covered.{IsHeadTo, IsHiddenTo}

-- those of the rows are listed of which it is not said that they are no heads
pub record AreHeadsAmong (covered : List Bool) (revs heads : List ℕ) : Type 0 where
  pub within : All (λ r. r < length covered) heads
  pub each : (r : ℕ) → Contains revs r → slice_index_or covered r false ≡ false → Contains heads r

-- the parents of a row that is hidden are listed, and are of its branch
abbrev pub HasParentsOf : {A : Type 0} → List Changeset → List (Marker A) → List Phase → ℕ → ℕ → List ℕ → Type 0
HasParentsOf rows markers phases n r revs = (p : ℕ) → IsHiddenTo rows markers phases n r
    → IsParentIn (parents_of rows) p r → Contains revs p × (branch_at rows p ≡ branch_at rows r)

-- It is said of some rows anew whether they are no heads among the first n: of these, and of the parents of each of
-- them that is hidden, which are of its branch.
pub record AreSettled {A : Type 0} (rows : List Changeset) (markers : List (Marker A)) (phases : List Phase)
    (n : ℕ)
    (heads : List ℕ) (old new : List Bool) : Type 0 where
  pub as_long : length new ≡ length old
  pub revs : List ℕ
  pub has : (r : ℕ) → Contains heads r → Contains revs r
  pub closed : (r : ℕ) → Contains revs r → HasParentsOf rows markers phases n r revs
  pub told : (r : ℕ) → Contains revs r → (slice_index_or new r false ≡ false) ↔ IsHeadTo rows markers phases n r
  pub others : (r : ℕ) → (slice_index_or new r false ≡ slice_index_or old r false) ⊎ Contains revs r

-- ---- one row

-- the parent is added, where there is one, and is of the branch of the row
pub record IsPushed (rows : List Changeset) (r : ℕ) (parent : Option ℕ) (old new : List ℕ) : Type 0 where
  pub more : List ℕ
  pub is_more : new ≡ old ++ more
  pub earlier : All (λ p. p < r) more
  pub has : (p : ℕ) → parent ≡ Some p → Contains more p × (branch_at rows p ≡ branch_at rows r)

-- all parents are
pub record ArePushed (rows : List Changeset) (r : ℕ) (old new : List ℕ) : Type 0 where
  pub more : List ℕ
  pub is_more : new ≡ old ++ more
  pub earlier : All (λ p. p < r) more
  pub has : (p : ℕ) → IsParentIn (parents_of rows) p r → Contains more p × (branch_at rows p ≡ branch_at rows r)

-- it is said of the row whether it is no head, and its parents are added where it is hidden
pub record IsSettled {A : Type 0} (rows : List Changeset) (markers : List (Marker A)) (phases : List Phase)
    (n r : ℕ)
    (revs next : List ℕ) (old new : List Bool) : Type 0 where
  pub as_long : length new ≡ length old
  pub more : List ℕ
  pub is_more : next ≡ revs ++ more
  pub earlier : All (λ p. p < n) more
  pub closed : HasParentsOf rows markers phases n r next
  pub told : (slice_index_or new r false ≡ false) ↔ IsHeadTo rows markers phases n r
  pub others : (k : ℕ) → k ≢ r → slice_index_or new k false ≡ slice_index_or old k false
