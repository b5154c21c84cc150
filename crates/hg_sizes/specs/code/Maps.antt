-- What texts and their lengths are kept in.
use Rattle.std.specs.Prelude.{ℕ, List, Option, Some, None, Result, Ok, Err}
use Rattle.std.specs.BTreeMap.{BTreeMap, get}
use Rattle.std.specs.Cmp.Lexicographic.{slice_cmp}
use Rattle.std.specs.Ordering.{nat_cmp}
use Rattle.hg_types.specs.declared.node.Node.{Node}
use Rattle.hg_sizes.specs.declared.weighing.Excess.{Excess}
use Rattle.hg_sizes.specs.declared.weighing.Scales.{Scales}
use Rattle.hg_sizes.specs.Weights.{Load}

-- what the map has of each changeset
abbrev pub noted_in : {X : Type 0} → BTreeMap Node X → Node → Option X
noted_in map node = get (λ (a b : Node). slice_cmp nat_cmp a.0 b.0) map node

-- the length of the text of each changeset in the map
abbrev pub sizes_of : BTreeMap Node ℕ → Node → Option ℕ
sizes_of sizes = noted_in sizes

-- the text of each changeset in the map, where it is known
abbrev pub texts_of : BTreeMap Node (Option (List ℕ)) → Node → Option (Option (List ℕ))
texts_of texts = noted_in texts

-- what was weighed
abbrev pub load_of : {A : Type 0} → Scales A → Load
load_of scales = record { sizes = sizes_of scales.sizes; room = scales.room }

-- the load, or what is too much
abbrev pub told : Option Excess → Load → Result Load Excess
told None load = Ok load
told (Some excess) load = Err excess
