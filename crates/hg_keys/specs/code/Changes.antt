-- The way back: what takes back each change, by the name and what it was on.
use Rattle.std.specs.Prelude.{◌≡◌, ◌≤◌, ◌-◌, ◌^◌, Some, None, is_some, is_none, ℕ, Bool, true}
use Rattle.std.specs.Prelude.{◌&&◌, nat_lt, List, [], ◌∷◌, length, reverse}
use Rattle.hg_keys.specs.declared.bookmarks.Change.{Change}
use Rattle.hg_keys.specs.declared.bookmarks.Change.TheVariants.{Added, Moved, Removed}
use Rattle.hg_keys.specs.Bookmarks.{Pairs, node_of, with_bookmark}

-- the pairs before a change
abbrev pub undone : {A : Type 0} → Change A → Pairs → Pairs
undone (Added name) pairs = with_bookmark pairs name None
undone (Moved name node) pairs = with_bookmark pairs name (Some node)
undone (Removed named) pairs = with_bookmark pairs named.0 (Some named.1)

-- the pairs before all changes, of which the last comes first here
abbrev pub all_undone : {A : Type 0} → List (Change A) → Pairs → Pairs
all_undone [] pairs = pairs
all_undone (change ∷ changes) pairs = all_undone changes (undone change pairs)

-- the pairs before all changes, in the order in which they were made
abbrev pub base_of : {A : Type 0} → List (Change A) → Pairs → Pairs
base_of changes pairs = all_undone (reverse changes) pairs

-- a name that goes or moves is there, one that comes back is not, and can be counted
abbrev pub can_undo : {A : Type 0} → Change A → Pairs → Bool
can_undo (Added name) pairs = is_some (node_of pairs name)
can_undo (Moved name node) pairs = is_some (node_of pairs name)
can_undo (Removed named) pairs = is_none (node_of pairs named.0) && nat_lt (length pairs) (2 ^ 64 - 1)

abbrev pub can_undo_all : {A : Type 0} → List (Change A) → Pairs → Bool
can_undo_all [] pairs = true
can_undo_all (change ∷ changes) pairs =
    can_undo change pairs && can_undo_all changes (undone change pairs)

-- After a savepoint there is a way back that takes no memory: as many names as changes were kept can come back.
pub record IsSound {A : Type 0} (pairs : Pairs) (changes : List (Change A)) (space : ℕ)
    (is_saved : Bool) : Type 0 where
  pub back : is_saved ≡ true → can_undo_all (reverse changes) pairs ≡ true
  pub room : is_saved ≡ true → length changes ≤ space
