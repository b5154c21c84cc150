-- A name that stands in a form once at most, as it is.
use Rattle.std.specs.Prelude.{ℕ, Bool, true, false, List, [], ◌∷◌, if◌then◌else◌, bytes_eq}
use Rattle.std.specs.List.{before_first, flat_map, slice_split}
use Rattle.hg_wireproto.specs.Form.{is_ampersand, is_equals, plain_of}

-- a piece that has this name, however it is written
abbrev pub named_in : List ℕ → List ℕ → List (List ℕ)
named_in name piece = if bytes_eq (plain_of (before_first is_equals piece)) name then piece ∷ [] else []

-- the pieces of a form that have this name, as they stand there
unfoldable pub pieces_named : List ℕ → List ℕ → List (List ℕ)
pieces_named name text = flat_map (named_in name) (slice_split is_ampersand text)

-- one piece at most, and that without a `+` or an escape that stands for something else
abbrev pub is_plain_alone : List (List ℕ) → Bool
is_plain_alone [] = true
is_plain_alone (piece ∷ []) = bytes_eq (plain_of piece) piece
is_plain_alone (piece ∷ next ∷ more) = false

-- the form has this name once at most, and then neither name nor value has an escape
unfoldable pub stands_once : List ℕ → List ℕ → Bool
stands_once name text = is_plain_alone (pieces_named name text)
