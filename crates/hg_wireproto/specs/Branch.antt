-- The branch of a changeset, as its text names it.
use Rattle.std.specs.Prelude.{ℕ, ◌==◌, nat_eq, Bool, List, [], ◌∷◌, map, filter, drop, codes, Option, Some, None}
use Rattle.std.specs.Prelude.{unwrap_or, if◌then◌else◌}
use Rattle.std.specs.List.{before_first, last_or, slice_split, starts_with}
use Rattle.std.specs.Option.{option_map, option_and_then}
use Rattle.hg_wireproto.specs.Text.{behind_first}
use Rattle.hg_wireproto.specs.Batch.{is_space, unescape_by}

-- the byte that ends a line
abbrev pub is_line_feed : ℕ → Bool
is_line_feed b = b == 10

-- the byte between extras
abbrev pub is_nul : ℕ → Bool
is_nul b = b == 0

-- what stands after the second byte that passes, where there are two
abbrev pub behind_second : (ℕ → Bool) → List ℕ → Option (List ℕ)
behind_second test text = option_and_then (behind_first test) (behind_first test text)

-- the first line, where a line feed ends it
abbrev pub first_line : List ℕ → Option (List ℕ)
first_line text = option_map (λ _. before_first is_line_feed text) (behind_first is_line_feed text)

-- the third line of a text, where a line feed ends it
abbrev pub third_line : List ℕ → Option (List ℕ)
third_line text = option_and_then first_line (behind_second is_line_feed text)

-- the extras of a changeset: what stands after the second space of the third line of its text
unfoldable pub extras_of : List ℕ → List ℕ
extras_of text = unwrap_or (option_and_then (behind_second is_space) (third_line text)) []

-- the byte that a character after a backslash stands for: `\` for itself, `n` for 10, `r` for 13, `0` for 0
abbrev pub extra_byte : ℕ → Option ℕ
extra_byte letter =
    if letter == 92 then Some 92 else if letter == 110 then Some 10 else if letter == 114 then Some 13
    else if letter == 48 then Some 0 else None

-- an extra with bytes for its escapes; a backslash that begins none stands for itself
unfoldable pub plain_extra : List ℕ → List ℕ
plain_extra [] = []
plain_extra (b ∷ []) = b ∷ []
plain_extra (b ∷ letter ∷ rest) =
    if b == 92 then unescape_by b letter (extra_byte letter) (plain_extra (letter ∷ rest)) (plain_extra rest)
    else b ∷ plain_extra (letter ∷ rest)

-- the extra names the branch
abbrev pub names_branch : List ℕ → Bool
names_branch extra = starts_with nat_eq extra (codes "branch:")

-- the names that extras give to the branch: what stands after `branch:` where an extra begins so
abbrev pub branches_in : List (List ℕ) → List (List ℕ)
branches_in extras = map (drop 7) (filter names_branch (map plain_extra extras))

-- the branch: the extras stand between bytes 0, and the last name counts; where there is none it is `default`
unfoldable pub branch_of : List ℕ → List ℕ
branch_of text = unwrap_or (last_or None (branches_in (slice_split is_nul (extras_of text)))) (codes "default")
