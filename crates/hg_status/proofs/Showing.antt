-- What is shown of a name, character by character.
use Rattle.std.proofs.Common.{◌≡◌, ◌∙◌, ◌++◌, [], List, ℕ, length, ap, IsUtf8, chars}
use Rattle.std.specs.Prelude.{flat_map}
use Rattle.std.specs.Char.{encode_utf8}
use Rattle.std.proofs.lemmas.List.{nil_from_length}
use Rattle.std.proofs.lemmas.Str.{chars-nil, chars_past_char}
use Rattle.hg_status.specs.Shown.{html_escaped, escaped_char}

pub escaped_empty : (text : List ℕ) → length text ≡ 0 → html_escaped text ≡ []
unfolding html_escaped
escaped_empty text none = ap (λ (t : List ℕ). flat_map escaped_char (chars t)) (nil_from_length text none)
    ∙ ap (flat_map escaped_char) chars-nil

pub escaped_step : (text rest : List ℕ) (c : ℕ) → IsUtf8 text → text ≡ encode_utf8 c ++ rest
    → html_escaped text ≡ escaped_char c ++ html_escaped rest
unfolding html_escaped
escaped_step text rest c is parts = ap (flat_map escaped_char) (chars_past_char text rest c is parts)
