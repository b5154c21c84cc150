-- The row of a head on the page.
use Rattle.std.specs.Prelude.{ℕ, ◌==◌, List, [], ◌++◌, Option, None, Some, codes, decimal, drop, flat_map, take}
use Rattle.std.specs.Prelude.{if◌then◌else◌}
use Rattle.hex.specs.Hex.{encode_lower}
use Rattle.hg_types.specs.declared.phase.Phase.{Phase}
use Rattle.hg_types.specs.declared.phase.Phase.TheVariants.{Public, Draft, Secret}
use Rattle.hg_status.specs.declared.heads.ShownHead.{ShownHead}
use Rattle.hg_status.specs.declared.name.Name.{Name}
use Rattle.hg_status.specs.Shown.{shown}

-- the digits of an id, of which the first twelve stand out
unfoldable pub id_text : List ℕ → List ℕ
id_text id = encode_lower (take 6 id) ++ (codes "<i>" ++ (encode_lower (drop 6 id) ++ codes "</i>"))

-- the class and the name of a phase
abbrev pub phase_text : Phase → List ℕ
phase_text Public = codes "p0>public"
phase_text Draft = codes "p1>draft"
phase_text Secret = codes "p2>secret"

-- a name as it is shown, in an element of its own, and an ellipsis where it is cut
unfoldable pub name_text : {A : Type 0} → Name A → List ℕ
name_text name = codes "<bdi>" ++ (shown name.bytes
    ++ (codes "</bdi>" ++ (if name.is_cut then codes "&hellip;" else [])))

abbrev pub branch_text : {A : Type 0} → Option (Name A) → List ℕ
branch_text None = codes "<i>not read</i>"
branch_text (Some name) = name_text name

unfoldable pub bookmark_text : {A : Type 0} → Name A → List ℕ
bookmark_text name = codes "<b>" ++ (name_text name ++ codes "</b> ")

-- how many more there are
unfoldable pub more_text : ℕ → List ℕ
more_text more = if more == 0 then [] else codes "<i>and " ++ (decimal more ++ codes " more</i>")

-- the cells of a head
unfoldable pub id_cell : List ℕ → List ℕ
id_cell id = codes "<tr><td><code>" ++ id_text id

unfoldable pub phase_cell : Phase → List ℕ
phase_cell phase = codes "</code><td class=" ++ phase_text phase

unfoldable pub branch_cell : {A : Type 0} → Option (Name A) → List ℕ
branch_cell branch = codes "<td>" ++ branch_text branch

unfoldable pub bookmark_cell : {A : Type 0} → List (Name A) → ℕ → List ℕ
bookmark_cell bookmarks more =
    codes "<td>" ++ (flat_map bookmark_text bookmarks ++ (more_text more ++ codes "\n"))

-- its row: nothing of a name stands in it except what is shown of it
unfoldable pub row_of : {A : Type 0} → ShownHead A → List ℕ
row_of head = id_cell head.node.0 ++ (phase_cell head.phase
    ++ (branch_cell head.branch ++ bookmark_cell head.bookmarks head.more))
