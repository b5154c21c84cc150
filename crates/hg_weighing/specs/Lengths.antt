-- How long texts are that are here.
use Rattle.std.specs.Prelude.{ℕ, List, length, Option, Some, None, slice_get}
use Rattle.hg_types.specs.declared.node.Node.{Node}
use Rattle.hg_log.specs.Changeset.{Changeset}
use Rattle.hg_log.specs.Parents.{rev_of}

-- the length of the text of a row, if there is one
abbrev pub row_length : Option Changeset → Option ℕ
row_length None = None
row_length (Some row) = Some (length row.text)

-- the length of the text of the row of that number, if one is found
abbrev pub length_at : List Changeset → Option ℕ → Option ℕ
length_at rows None = None
length_at rows (Some rev) = row_length (slice_get rows rev)

-- the length of the text of the changeset with that id, where it is here
abbrev pub length_in : List Changeset → Node → Option ℕ
length_in rows node = length_at rows (rev_of rows node.0)
