-- The parents of rows by their numbers, as values, and the ancestors that they give.
use Rattle.std.specs.Prelude.{◌≡◌, ◌⊎◌, ℕ, zero, suc, ◌<◌, ◌==◌, nat_lt, Bool, false, ◌&&◌, ◌||◌}
use Rattle.std.specs.Prelude.{List, length, Option, None, Some, slice_get, bytes_eq}
use Rattle.std.specs.List.{position}
use Rattle.hg_log.specs.Changeset.{Changeset}

-- the number of the first row with that id; the null id has none
unfoldable pub rev_of : List Changeset → List ℕ → Option ℕ
rev_of rows node = position (λ row. bytes_eq row.node node) rows

-- the numbers of the rows that are a row's parents
abbrev pub parents_in : List Changeset → Option Changeset → Option ℕ × Option ℕ
parents_in rows None = (None, None)
parents_in rows (Some row) = (rev_of rows row.p1, rev_of rows row.p2)

-- the numbers of a row's parents: none for a parent that is null, and none where there is no such row
unfoldable pub parents_of : List Changeset → ℕ → Option ℕ × Option ℕ
parents_of rows r = parents_in rows (slice_get rows r)

-- p is a parent of r
abbrev pub IsParentIn : (ℕ → Option ℕ × Option ℕ) → ℕ → ℕ → Type 0
IsParentIn parents p r = ((parents r).0 ≡ Some p) ⊎ ((parents r).1 ≡ Some p)

-- each parent comes before its child
abbrev pub AreOrdered : (ℕ → Option ℕ × Option ℕ) → Type 0
AreOrdered parents = (p r : ℕ) → IsParentIn parents p r → p < r

-- the least relation in which each row leads to itself, and what leads to a row's parent leads to the row
pub data Leads (parents : ℕ → Option ℕ × Option ℕ) (a : ℕ) : ℕ → Type 0 where
  itself : Leads parents a a
  of_parent : (p r : ℕ) → IsParentIn parents p r → Leads parents a p → Leads parents a r

-- the same as a test, which goes down n rows at most
abbrev pub some_leads : (ℕ → Bool) → Option ℕ → Bool
some_leads test None = false
some_leads test (Some p) = test p

-- the row is that one, or reaches it over at most so many parents
unfoldable pub leads_within : (ℕ → Option ℕ × Option ℕ) → ℕ → ℕ → ℕ → Bool
leads_within parents a zero r = false
leads_within parents a (suc n) r =
    (a == r) || (some_leads (leads_within parents a n) (parents r).0
    || some_leads (leads_within parents a n) (parents r).1)

-- r + 1 rows are enough, as each parent comes before its child
unfoldable pub leads : (ℕ → Option ℕ × Option ℕ) → ℕ → ℕ → Bool
leads parents a r = leads_within parents a (suc r) r

-- whether row a is an ancestor of row r, or the same; a number that no row has is neither
abbrev pub is_ancestor : List Changeset → ℕ → ℕ → Bool
is_ancestor rows a r = nat_lt r (length rows) && leads (parents_of rows) a r
