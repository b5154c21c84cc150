-- The report of a repository: what it holds, as lines of text.
use Rattle.std.specs.Prelude.{ℕ, Bool, true, false, List, [], ◌∷◌, ◌++◌, length, codes, decimal}
use Rattle.std.specs.Prelude.{if◌then◌else◌}
use Rattle.std.specs.List.{flat_map, range_with_len}
use Rattle.std.specs.Char.{is_ascii_alphanumeric}
use Rattle.hex.specs.Hex.{encode_lower}
use Rattle.percent_encoding.specs.Percent.{percent_encode_byte}
use Rattle.hg_types.specs.Phase.{number_of}
use Rattle.hg_types.specs.declared.node.Node.{Node}
use Rattle.hg_log.specs.HeadCount.{id_at}
use Rattle.hg_phases.specs.Order.{phase_at}
use Rattle.hg_obs.specs.declared.marker.Marker.{Marker}
use Rattle.hg_obs.specs.Marker.{marker_bytes}
use Rattle.hg_parts.specs.Repository.{Repository}
use Rattle.hg_repo.specs.Reading.{is_obsolete}

-- words with a space before each, and a line feed after the last
abbrev pub ended : List (List ℕ) → List ℕ
ended [] = 10 ∷ []
ended (word ∷ words) = 32 ∷ (word ++ ended words)

-- a line begins with a letter, and ends with a line feed
abbrev pub line : List ℕ → List (List ℕ) → List ℕ
line letter words = letter ++ ended words

-- the digit 1 for yes, 0 for no
abbrev pub digit_of : Bool → List ℕ
digit_of true = codes "1"
digit_of false = codes "0"

-- a changeset: its number, its id, the number of its phase, and whether it is obsolete
unfoldable pub changeset_line : {A : Type 0} → Repository A → ℕ → List ℕ
changeset_line repo rev = line (codes "C") (
    decimal rev
    ∷ encode_lower (id_at repo.rows rev)
    ∷ decimal (number_of (phase_at repo.phases rev))
    ∷ digit_of (is_obsolete repo (record { 0 = id_at repo.rows rev }))
    ∷ [])

-- an ASCII letter or digit stays, and any other byte is `%` and two upper case hexadecimal digits
abbrev pub escaped_byte : ℕ → List ℕ
escaped_byte byte = if is_ascii_alphanumeric byte then byte ∷ [] else percent_encode_byte byte

-- a name with each byte escaped that is no ASCII letter or digit
abbrev pub escaped : List ℕ → List ℕ
escaped name = flat_map escaped_byte name

-- a bookmark: the id that it is on, and its name
unfoldable pub bookmark_line : List ℕ × Node → List ℕ
bookmark_line pair = line (codes "B") (encode_lower pair.1.0 ∷ escaped pair.0 ∷ [])

-- a marker: its bytes, as marker data has them
unfoldable pub marker_line : {A : Type 0} → Marker A → List ℕ
marker_line marker = line (codes "O") (encode_lower (marker_bytes marker) ∷ [])

-- The report: the changesets by their numbers, the bookmarks by the bytes of their names, and the markers in
-- the order in which they came.
unfoldable pub report_of : {A : Type 0} → Repository A → List ℕ
report_of repo =
    flat_map (changeset_line repo) (range_with_len 0 (length repo.rows))
    ++ (flat_map bookmark_line repo.bookmarks ++ flat_map marker_line repo.markers)

-- a push of a journal, by its number or its place
abbrev pub journal_line : ℕ → List ℕ
journal_line number = codes "J " ++ decimal number ++ codes "\n"

-- so many pushes, from the first one
abbrev pub journal_lines : ℕ → List ℕ
journal_lines count = flat_map journal_line (range_with_len 0 count)
