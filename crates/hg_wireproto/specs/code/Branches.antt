-- How the code keeps branches: names with the numbers of changesets. Some changesets are left out.
use Rattle.std.specs.Prelude.{◌≡◌, ℕ, ◌==◌, Bool, false, not, ◌&&◌, List, [], ◌∷◌, ◌++◌}
use Rattle.std.specs.Prelude.{filter, Option, Some, None, slice_get, slice_index_or, unwrap_or}
use Rattle.std.specs.Prelude.{if◌then◌else◌}
use Rattle.std.specs.Cmp.Lexicographic.{slice_cmp}
use Rattle.std.specs.List.{list_any, range_with_len}
use Rattle.std.specs.List.Sorted.{IsStrictlySortedBy}
use Rattle.std.specs.Map.{keys_of, lookup}
use Rattle.std.specs.Ordering.{is_eq, nat_cmp}
use Rattle.hg_log.specs.Changeset.{Changeset}
use Rattle.hg_log.specs.Parents.{is_ancestor}
use Rattle.hg_wireproto.specs.Branch.{branch_of}

abbrev pub text_of : Option Changeset → List ℕ
text_of None = []
text_of (Some row) = row.text

-- the branch of the row of that number
abbrev pub branch_at : List Changeset → ℕ → List ℕ
branch_at rows r = branch_of (text_of (slice_get rows r))

abbrev pub is_name : List ℕ → List ℕ → Bool
is_name name other = is_eq (slice_cmp nat_cmp name other)

-- the row is of that branch, and is not left out
abbrev pub is_member : List Changeset → List Bool → List ℕ → ℕ → Bool
is_member rows out name r = not (slice_index_or out r false) && is_name name (branch_at rows r)

-- those of the first n rows
abbrev pub members : List Changeset → List Bool → ℕ → List ℕ → List ℕ
members rows out n name = filter (is_member rows out name) (range_with_len 0 n)

abbrev pub if_any : List ℕ → Option (List ℕ)
if_any [] = None
if_any (r ∷ rs) = Some (r ∷ rs)

-- what is kept with that name
abbrev pub kept_at : List ℕ → List (List ℕ × List ℕ) → Option (List ℕ)
kept_at name branches = lookup (is_name name) branches

-- each branch of the first n rows, with its rows
pub record AreBranches (rows : List Changeset) (out : List Bool) (n : ℕ)
    (branches : List (List ℕ × List ℕ)) : Type 0 where
  pub ascending : IsStrictlySortedBy (slice_cmp nat_cmp) (keys_of branches)
  pub each : (name : List ℕ) → kept_at name branches ≡ if_any (members rows out n name)

-- one row more is kept with that name
pub record IsKept (name : List ℕ) (r : ℕ) (old new : List (List ℕ × List ℕ)) : Type 0 where
  pub ascending : IsStrictlySortedBy (slice_cmp nat_cmp) (keys_of new)
  pub each : (other : List ℕ) → kept_at other new
      ≡ (if is_name other name then Some (unwrap_or (kept_at name old) [] ++ r ∷ []) else kept_at other old)

-- no other of these rows is a descendant of that one
abbrev pub is_last_in : List Changeset → List ℕ → ℕ → Bool
is_last_in rows revs r = not (list_any (λ d. is_ancestor rows r d && not (d == r)) revs)

abbrev pub heads_in : List Changeset → List ℕ → List ℕ
heads_in rows revs = filter (is_last_in rows revs) revs
