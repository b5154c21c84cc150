-- A map with a name set is three lists: what comes before the name, the name, and what comes after.
use Rattle.std.proofs.Common.{◌≡◌, ℕ, List, [], ◌∷◌, ◌++◌, filter, Option, Some, None, refl}
use Rattle.hg_types.specs.declared.node.Node.{Node}
use Rattle.hg_names.specs.Names.{Pairs, is_before, AreInOrder, with_name, without}
use Rattle.hg_names.proofs.CallerLemmas as names
use Rattle.hg_keys.specs.Bookmarks.{with_bookmark}

-- a name on a changeset, or on none
abbrev pub pair_of : List ℕ → Option Node → Pairs
pair_of name None = []
pair_of name (Some node) = (name, node) ∷ []

pub parts : (pairs : Pairs) (name : List ℕ) (node : Option Node) → with_bookmark pairs name node
    ≡ filter (λ pair. is_before pair.0 name) pairs
    ++ (pair_of name node ++ filter (λ pair. is_before name pair.0) pairs)
unfolding with_name without
parts pairs name None = refl
parts pairs name (Some node) = refl

-- it is in order
pub in_order_with : (pairs : Pairs) (name : List ℕ) → AreInOrder pairs → (node : Option Node)
    → AreInOrder (with_bookmark pairs name node)
in_order_with pairs name in_order None = names.in_order_without pairs name in_order
in_order_with pairs name in_order (Some node) = names.in_order_with pairs name in_order node
