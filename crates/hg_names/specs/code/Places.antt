-- Where a name is among pairs in order, or where it would go.
use Rattle.std.specs.Prelude.{◌≡◌, ℕ, ◌<◌, ◌≤◌, List, [], length, slice_index_or, slice_set}
use Rattle.std.specs.List.{AllWithin, HoldsAt}
use Rattle.std.specs.declared.cmp.Ordering.TheVariants.{Less, Greater}
use Rattle.hg_types.specs.declared.node.Node.{Node}
use Rattle.hg_names.specs.Names.{Pairs, name_cmp}

-- the pair at that place has the name
pub record IsAt (pairs : Pairs) (name : List ℕ) (place : ℕ) : Type 0 where
  pub within : place < length pairs
  pub named : HoldsAt (λ pair. pair.0 ≡ name) pairs place

-- lesser names stand before that place, and greater ones from it on
pub record IsGap (pairs : Pairs) (name : List ℕ) (place : ℕ) : Type 0 where
  pub within : place ≤ length pairs
  pub lesser : AllWithin (λ pair. name_cmp pair.0 name ≡ Less) pairs 0 place
  pub greater : AllWithin (λ pair. name_cmp pair.0 name ≡ Greater) pairs place (length pairs)

-- the name at a place on another changeset
abbrev pub moved : Pairs → ℕ → Node → Pairs
moved pairs place node = slice_set pairs place ((slice_index_or pairs place ([], node)).0, node)
