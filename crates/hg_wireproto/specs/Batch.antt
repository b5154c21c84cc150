-- Several commands in one: commands between `;`, and their answers between `;`.
use Rattle.std.specs.Prelude.{ℕ, ◌==◌, Bool, ◌||◌, List, [], ◌∷◌, map, Option, Some, None, if◌then◌else◌}
use Rattle.std.specs.Prelude.{is_some, unwrap_or}
use Rattle.std.specs.List.{slice_split, before_first, flat_map, join_with_byte}
use Rattle.hg_wireproto.specs.declared.form.Field.{Field}
use Rattle.hg_wireproto.specs.declared.batch.BatchCommand.{BatchCommand}
use Rattle.hg_wireproto.specs.Text.{behind_first}
use Rattle.hg_wireproto.specs.Form.{fields_by}

-- the byte between commands
abbrev pub is_semicolon : ℕ → Bool
is_semicolon b = b == 59

-- the byte between arguments
abbrev pub is_comma : ℕ → Bool
is_comma b = b == 44

-- the byte after a command's name
abbrev pub is_space : ℕ → Bool
is_space b = b == 32

-- the letter after a `:` that stands for a byte: `c` for `:`, `o` for `,`, `s` for `;`, `e` for `=`
abbrev pub letter_of : ℕ → Option ℕ
letter_of b =
    if b == 58 then Some 99 else if b == 44 then Some 111 else if b == 59 then Some 115
    else if b == 61 then Some 101 else None

-- the byte has an escape
abbrev pub needs_escape : ℕ → Bool
needs_escape b = is_some (letter_of b)

-- and the byte that a letter stands for
abbrev pub byte_of : ℕ → Option ℕ
byte_of letter =
    if letter == 99 then Some 58 else if letter == 111 then Some 44 else if letter == 115 then Some 59
    else if letter == 101 then Some 61 else None

-- a colon and the letter, where the byte has one
abbrev pub escape_by : ℕ → Option ℕ → List ℕ
escape_by b None = b ∷ []
escape_by b (Some letter) = 58 ∷ letter ∷ []

-- the bytes that part commands, arguments and values
abbrev pub is_separator : ℕ → Bool
is_separator b = b == 44 || b == 59 || b == 61

-- a text with its `:`, `,`, `;` and `=` escaped
unfoldable pub escaped : List ℕ → List ℕ
escaped text = flat_map (λ b. escape_by b (letter_of b)) text

-- a text with bytes for its escapes; a `:` that begins none stands for itself
abbrev pub unescape_by : ℕ → ℕ → Option ℕ → List ℕ → List ℕ → List ℕ
unescape_by b letter None more rest = b ∷ more
unescape_by b letter (Some byte) more rest = byte ∷ rest

-- the text without escapes; a colon that begins none stays
unfoldable pub unescaped : List ℕ → List ℕ
unescaped [] = []
unescaped (b ∷ []) = b ∷ []
unescaped (b ∷ letter ∷ rest) =
    if b == 58 then unescape_by b letter (byte_of letter) (unescaped (letter ∷ rest)) (unescaped rest)
    else b ∷ unescaped (letter ∷ rest)

-- arguments are fields that stand between `,`
unfoldable pub arguments_of : {A : Type 0} → List ℕ → List (Field A)
arguments_of text = flat_map (fields_by unescaped) (slice_split is_comma text)

-- a command: its name ends at the first space, and its arguments stand after it
unfoldable pub command_of : {A : Type 0} → List ℕ → BatchCommand A
command_of piece = record {
  name = before_first is_space piece;
  arguments = arguments_of (unwrap_or (behind_first is_space piece) []);
}

-- the commands of a batch, in order
unfoldable pub commands_of : {A : Type 0} → List ℕ → List (BatchCommand A)
commands_of text = map command_of (slice_split is_semicolon text)

-- the answers of a batch, in order: each escaped, with a `;` between
unfoldable pub answers_joined : List (List ℕ) → List ℕ
answers_joined answers = join_with_byte 59 (map escaped answers)
