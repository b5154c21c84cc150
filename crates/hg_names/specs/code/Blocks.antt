-- What blocks of names are seen as.
use Rattle.std.specs.Prelude.{◌≡◌, ◌≢◌, ℕ, ◌+◌, ◌<◌, ◌≤◌, List, All, length, take, flat_map}
use Rattle.std.specs.List.{HoldsAt}
use Rattle.std.specs.declared.cmp.Ordering.TheVariants.{Less, Greater}
use Rattle.hg_types.specs.declared.node.Node.{Node}
use Rattle.hg_names.specs.declared.blocks.Block.{Block}
use Rattle.hg_names.specs.Names.{Pairs, name_cmp, AreInOrder}
use Rattle.hg_names.specs.code.Places.{IsAt, IsGap}

-- the pairs of all blocks, in their order
abbrev pub pairs_in : {A : Type 0} → List (Block A) → Pairs
pairs_in blocks = flat_map (λ block. block.pairs.items) blocks

-- the place of the first pair of a block
abbrev pub start_of : {A : Type 0} → List (Block A) → ℕ → ℕ
start_of blocks block = length (pairs_in (take block blocks))

-- a block has a name
abbrev pub IsFilled : {A : Type 0} → Block A → Type 0
IsFilled block = 0 < length block.pairs.items

-- how names are kept: no block is empty, the names are in the order of their bytes, and they are counted
pub record AreKept {A : Type 0} (blocks : List (Block A)) (count : ℕ) : Type 0 where
  pub filled : All IsFilled blocks
  pub in_order : AreInOrder (pairs_in blocks)
  pub counted : count ≡ length (pairs_in blocks)

abbrev pub IsLess : List ℕ → List ℕ × Node → Type 0
IsLess name pair = name_cmp pair.0 name ≡ Less

abbrev pub IsGreater : List ℕ → List ℕ × Node → Type 0
IsGreater name pair = name_cmp pair.0 name ≡ Greater

abbrev pub IsNotGreater : List ℕ → List ℕ × Node → Type 0
IsNotGreater name pair = name_cmp pair.0 name ≢ Greater

-- a place, by a block and a place in it
abbrev pub place_at : {A : Type 0} → List (Block A) → ℕ × ℕ → ℕ
place_at blocks spot = start_of blocks spot.0 + spot.1

-- there is such a block, and a name at that place in it
pub record IsSpot {A : Type 0} (blocks : List (Block A)) (spot : ℕ × ℕ) : Type 0 where
  pub block : spot.0 < length blocks
  pub within : HoldsAt (λ block. spot.1 < length block.pairs.items) blocks spot.0

-- there is such a block, and a name can join it there
pub record IsOpen {A : Type 0} (blocks : List (Block A)) (spot : ℕ × ℕ) : Type 0 where
  pub block : spot.0 < length blocks
  pub within : HoldsAt (λ block. spot.1 ≤ length block.pairs.items) blocks spot.0

-- a name is at that spot
pub record IsNamed {A : Type 0} (blocks : List (Block A)) (name : List ℕ) (spot : ℕ × ℕ) : Type 0 where
  pub within : IsSpot blocks spot
  pub at : IsAt (pairs_in blocks) name (place_at blocks spot)

-- a name that is not there goes to that spot
pub record IsFree {A : Type 0} (blocks : List (Block A)) (name : List ℕ) (spot : ℕ × ℕ) : Type 0 where
  pub within : IsOpen blocks spot
  pub gap : IsGap (pairs_in blocks) name (place_at blocks spot)
