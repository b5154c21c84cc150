-- The capabilities of this server: words with one space between.
use Rattle.std.specs.Prelude.{ℕ, List, [], ◌∷◌, ◌++◌, codes}
use Rattle.std.specs.List.{join_with_byte}

-- the lines of the value of `bundle2`, where `%0A` stands for a line feed, `%3D` for `=` and `%2C` for `,`:
-- bundles of the format HG20, and what they may have
abbrev pub bundle_lines : List (List ℕ)
bundle_lines = codes "HG20" ∷ codes "bookmarks" ∷ codes "changegroup%3D01%2C02"
    ∷ codes "error%3Dabort%2Cunsupportedcontent%2Cpushraced%2Cpushkey" ∷ codes "obsmarkers%3DV0"
    ∷ codes "phases%3Dheads" ∷ codes "pushkey" ∷ []

-- texts with `%0A` between
abbrev pub with_escapes : List (List ℕ) → List ℕ
with_escapes [] = []
with_escapes (line ∷ []) = line
with_escapes (line ∷ next ∷ lines) = line ++ codes "%0A" ++ with_escapes (next ∷ lines)

-- the words that a client gets, with one space between
abbrev pub capabilities_told : List ℕ
capabilities_told = join_with_byte 32 (codes "batch" ∷ codes "branchmap"
    ∷ (codes "bundle2=" ++ with_escapes bundle_lines) ∷ codes "getbundle" ∷ codes "httpheader=1024"
    ∷ codes "known" ∷ codes "lookup" ∷ codes "pushkey" ∷ codes "unbundle" ∷ [])
