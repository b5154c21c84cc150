-- How a name that a client chose is shown.
use Rattle.std.specs.Prelude.{ℕ, ◌==◌, Bool, false, ◌||◌, List, ◌++◌, codes, chars, flat_map, if◌then◌else◌}
use Rattle.std.specs.Char.{encode_utf8, is_ascii_control, is_control}
use Rattle.std.specs.Fmt.{digits}
use Rattle.std.specs.Int.{is_in_range}
use Rattle.std.specs.Str.Lossy.{utf8_lossy}

-- a character that is not to be seen: a control character, a space of no width, a mark of direction, or one
-- that parts lines
unfoldable pub is_hidden : ℕ → Bool
is_hidden c = is_control c || (is_in_range 0x200B 0x200F c || is_in_range 0x2028 0x202E c
    || is_in_range 0x2060 0x206F c || is_in_range 0xFEFF 0xFEFF c)

-- its number, as in `\u{1b}`
abbrev pub character_number : ℕ → List ℕ
character_number c = codes "\\u{" ++ digits 16 false c ++ codes "}"

-- `&`, `<`, `>` and quotes are references, and what is hidden is its number
unfoldable pub escaped_char : ℕ → List ℕ
escaped_char c =
    if c == 38 then codes "&amp;" else if c == 60 then codes "&lt;" else if c == 62 then codes "&gt;"
    else if c == 34 then codes "&quot;" else if c == 39 then codes "&#39;"
    else if is_hidden c then character_number c else encode_utf8 c

-- a text with each character escaped, as HTML has it
unfoldable pub html_escaped : List ℕ → List ℕ
html_escaped text = flat_map escaped_char (chars text)

-- a name as it is shown: bytes that are no UTF-8 are the replacement character
abbrev pub shown : List ℕ → List ℕ
shown name = html_escaped (utf8_lossy name)

-- a byte that begins or ends a tag or a value, or a control byte: `<`, `>`, quotes, those below 32, and 127
abbrev pub is_harmful : ℕ → Bool
is_harmful b = b == 60 || b == 62 || b == 34 || b == 39 || is_ascii_control b
