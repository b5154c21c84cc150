-- What is shown of a head.
use Rattle.std.specs.Prelude.{◌≡◌, ℕ, ◌-◌, ◌==◌, List, [], ◌∷◌, length, min, take, reverse, map, filter, count_by}
use Rattle.std.specs.Prelude.{bytes_eq, nat_lt, Option, None, Some, if◌then◌else◌, ⊤}
use Rattle.std.specs.List.{range_with_len}
use Rattle.hg_types.specs.declared.phase.Phase.{Phase}
use Rattle.hg_log.specs.Changeset.{Changeset}
use Rattle.hg_log.specs.HeadCount.{is_childless}
use Rattle.hg_log.specs.Rows.{HasNode, HasText}
use Rattle.hg_phases.specs.Order.{phase_at}
use Rattle.hg_keys.specs.Bookmarks.{Pairs}
use Rattle.hg_wireproto.specs.Branch.{branch_of}
use Rattle.hg_status.specs.declared.heads.ShownHead.{ShownHead}
use Rattle.hg_status.specs.declared.name.Name.{Name}
use Rattle.hg_status.specs.Name.{name_of}

-- how many line feeds a text has
abbrev pub count_lines : List ℕ → ℕ
count_lines text = count_by (λ byte. byte == 10) text

-- its first bytes, at most 4,096
abbrev pub front_of : List ℕ → List ℕ
front_of text = take (min (length text) 4096) text

-- the branch that a text names, by its first 4,096 bytes; none where there are more and its three lines do not
-- end in them
unfoldable pub shown_branch : {A : Type 0} → List ℕ → Option (Name A)
shown_branch text =
    if nat_lt 4096 (length text) then
    (if nat_lt (count_lines (front_of text)) 3 then None else Some (name_of (branch_of (front_of text))))
    else Some (name_of (branch_of (front_of text)))

-- the names that are on the changeset of that id, in their order
unfoldable pub names_on : Pairs → List ℕ → List (List ℕ)
names_on pairs id = map (λ pair. pair.0) (filter (λ pair. bytes_eq id pair.1.0) pairs)

-- Its id, its phase and its branch are those of a changeset. Of the names of these bookmarks that are on it, it has the
-- beginnings of the first eight, and how many more there are.
pub record IsOf {A : Type 0} (rows : List Changeset) (phases : List Phase) (pairs : Pairs) (rev : ℕ)
    (head : ShownHead A) : Type 0 where
  pub node : HasNode rows rev head.node.0
  pub phase : head.phase ≡ phase_at phases rev
  pub branch : (text : List ℕ) → HasText rows rev text → head.branch ≡ shown_branch text
  pub bookmarks : head.bookmarks ≡ map name_of (take 8 (names_on pairs head.node.0))
  pub more : head.more ≡ length (names_on pairs head.node.0) - 8

-- of each changeset one head, in their order
abbrev pub AreOf : {A : Type 0} → List Changeset → List Phase → Pairs → List ℕ → List (ShownHead A) → Type 0
AreOf rows phases pairs [] [] = ⊤
AreOf rows phases pairs (rev ∷ revs) (head ∷ heads) =
    IsOf rows phases pairs rev head × AreOf rows phases pairs revs heads
AreOf rows phases pairs revs heads = ⊥

-- the number from which on changesets are looked at: the last hundred thousand are
abbrev pub first_of : List Changeset → ℕ
first_of rows = length rows - 100000

-- of the changesets from there on, those that are nobody's parent
unfoldable pub near_heads : List Changeset → List ℕ
near_heads rows = filter (is_childless rows) (range_with_len (first_of rows) (length rows - first_of rows))

-- the changesets whose heads are shown: the last hundred of these, the last first
unfoldable pub shown_revs : List Changeset → List ℕ
shown_revs rows = take 100 (reverse (near_heads rows))
