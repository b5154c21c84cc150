-- The table of the types of part that may change a repository, as the code has it.
use Rattle.std.specs.Prelude.{ℕ, List, [], ◌∷◌, Option, Some, None, codes, map, if◌then◌else◌}
use Rattle.std.specs.List.{list_any}
use Rattle.hg_types.specs.declared.part.Param.{Param}
use Rattle.hg_parts.specs.PartTypes.{is_unknown}
use Rattle.hg_store_tools.specs.declared.changing.Change.{Change as CodeChange}

-- a row of it
pub record Change : Type 0 where
  pub name : List ℕ
  pub known : List (List ℕ)
  pub kept : List (List ℕ)

-- a row of the code's table
abbrev pub change_value : CodeChange → Change
change_value change = record {
  name = change.name.now;
  known = map (λ name. name.now) change.known.now;
  kept = map (λ name. name.now) change.kept.now;
}

-- the names of the four parameters of a `pushkey`
abbrev pub key_names : List (List ℕ)
key_names = codes "namespace" ∷ codes "key" ∷ codes "old" ∷ codes "new" ∷ []

abbrev pub changes_table : List Change
changes_table =
    record {
      name = codes "changegroup";
      known = codes "version" ∷ codes "nbchanges" ∷ codes "targetphase" ∷ [];
      kept = codes "version" ∷ [];
    }
    ∷ record { name = codes "phase-heads"; known = []; kept = [] }
    ∷ record { name = codes "bookmarks"; known = []; kept = [] }
    ∷ record { name = codes "obsmarkers"; known = []; kept = [] }
    ∷ record { name = codes "pushkey"; known = key_names; kept = key_names }
    ∷ []

-- what a part of that row, with those parameters, keeps of them: nothing where one stands against it
abbrev pub kept_in : {A : Type 0} → List (Param A) → Option Change → Option (List (List ℕ))
kept_in params None = None
kept_in params (Some change) = if list_any (is_unknown change.known) params then None else Some change.kept
