-- The branches with their heads, as they are reported.
use Rattle.std.specs.Prelude.{◌≡◌, ◌↔◌, ℕ, ◌==◌, Bool, ◌||◌, List, [], ◌∷◌, ◌++◌, map, All, Contains}
use Rattle.std.specs.Prelude.{if◌then◌else◌}
use Rattle.std.specs.Char.{is_ascii_alphanumeric}
use Rattle.std.specs.Cmp.Lexicographic.{slice_cmp}
use Rattle.std.specs.List.{flat_map, join_with_byte}
use Rattle.std.specs.List.Sorted.{IsStrictlySortedBy}
use Rattle.std.specs.Ordering.{nat_cmp}
use Rattle.percent_encoding.specs.Percent.{percent_encode_byte}
use Rattle.hex.specs.Hex.{encode_lower}
use Rattle.hg_log.specs.Ancestors.{IsAncestor}
use Rattle.hg_log.specs.Changeset.{Changeset}
use Rattle.hg_log.specs.HeadCount.{id_at}
use Rattle.hg_log.specs.Rows.{HasText}
use Rattle.hg_types.specs.declared.phase.Phase.{Phase}
use Rattle.hg_obs.specs.declared.marker.Marker.{Marker}
use Rattle.hg_wireproto.specs.Branch.{branch_of}
use Rattle.hg_wireproto.specs.Hidden.{IsHidden}

-- ---- how a name is quoted

-- letters, digits, `_`, `.`, `-`, `~` and `/` stand for themselves
abbrev pub is_unquoted : ℕ → Bool
is_unquoted b = is_ascii_alphanumeric b || b == 95 || b == 46 || b == 45 || b == 126 || b == 47

-- and any other byte is `%` and two upper-case digits
abbrev pub quoted_byte : ℕ → List ℕ
quoted_byte b = if is_unquoted b then b ∷ [] else percent_encode_byte b

-- the name with each byte escaped that is not plain
unfoldable pub quoted : List ℕ → List ℕ
quoted name = flat_map quoted_byte name

-- ---- branches and their heads

-- the changeset is of that branch, and is not hidden
pub record IsOfBranch {A : Type 0} (rows : List Changeset) (markers : List (Marker A)) (phases : List Phase)
    (name : List ℕ)
    (r : ℕ) : Type 0 where
  pub text : List ℕ
  pub has_text : HasText rows r text
  pub named : branch_of text ≡ name
  pub shown : ¬ (IsHidden rows markers phases r)

-- and it is no proper ancestor of another such one of the same branch
pub record IsBranchHead {A : Type 0} (rows : List Changeset) (markers : List (Marker A)) (phases : List Phase)
    (name : List ℕ)
    (r : ℕ) : Type 0 where
  pub of_branch : IsOfBranch rows markers phases name r
  pub last : (d : ℕ) → IsOfBranch rows markers phases name d → IsAncestor rows r d → d ≡ r

-- the branches that have such a changeset: each once, in ascending order of the bytes of their names
pub record AreBranchNames {A : Type 0} (rows : List Changeset) (markers : List (Marker A)) (phases : List Phase)
    (names : List (List ℕ)) : Type 0 where
  pub each : (name : List ℕ) → Contains names name ↔ ((r : ℕ) × IsOfBranch rows markers phases name r)
  pub ascending : IsStrictlySortedBy (slice_cmp nat_cmp) names

-- the heads of a branch: each once, in the order of the changelog
pub record AreBranchHeads {A : Type 0} (rows : List Changeset) (markers : List (Marker A)) (phases : List Phase)
    (name : List ℕ)
    (heads : List ℕ) : Type 0 where
  pub each : (r : ℕ) → Contains heads r ↔ IsBranchHead rows markers phases name r
  pub ascending : IsStrictlySortedBy nat_cmp heads

-- ---- how they are reported

-- a space and 40 lower-case digits
abbrev pub head_word : List Changeset → ℕ → List ℕ
head_word rows r = 32 ∷ encode_lower (id_at rows r)

-- the line of a name and heads
abbrev pub branch_line : List Changeset → List ℕ × List ℕ → List ℕ
branch_line rows branch = quoted branch.0 ++ flat_map (head_word rows) branch.1

-- each branch with its heads, a line for each, with a line feed between
pub record IsBranchMap {A : Type 0} (rows : List Changeset) (markers : List (Marker A)) (phases : List Phase)
    (text : List ℕ) : Type 0 where
  pub branches : List (List ℕ × List ℕ)
  pub names : AreBranchNames rows markers phases (map (λ b. b.0) branches)
  pub heads : All (λ b. AreBranchHeads rows markers phases b.0 b.1) branches
  pub says : text ≡ join_with_byte 10 (map (branch_line rows) branches)
