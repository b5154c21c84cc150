-- The hash of a text after two ids.
use Rattle.std.specs.Prelude.{◌≡◌, ℕ, List, ◌++◌}
use Rattle.sha1.specs.Sha1.{sha1}
use Rattle.hg_types.specs.declared.payload.TextHash.{TextHash}

-- it is SHA-1 of its two ids and of the text
abbrev pub IsHashOf : List ℕ → TextHash → Type 0
IsHashOf text hash = hash.digest.0 ≡ sha1 (hash.first.0 ++ hash.second.0 ++ text)
