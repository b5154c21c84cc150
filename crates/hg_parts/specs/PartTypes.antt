-- The table of part types, and which parts it supports (`internals.bundle2`, "Bundle2 Part Types").
use Rattle.std.specs.Prelude.{ℕ, Bool, true, false, not, ◌&&◌, List, [], ◌∷◌, map, filter, find, Option}
use Rattle.std.specs.Prelude.{Some, None, codes, bytes_eq}
use Rattle.std.specs.List.{list_any}
use Rattle.std.specs.Str.{str_to_ascii_lowercase, str_eq_ignore_ascii_case}
use Rattle.std.specs.Char.{is_ascii_uppercase}
use Rattle.hg_types.specs.declared.part.Part.{Part}
use Rattle.hg_types.specs.declared.part.Param.{Param}
use Rattle.hg_checks.specs.declared.kind.CheckKind.{CheckKind}
use Rattle.hg_checks.specs.declared.kind.CheckKind.TheVariants as check
use Rattle.hg_parts.specs.declared.refusal.RaceText.{RaceText}
use Rattle.hg_parts.specs.declared.refusal.RaceText.TheVariants.{HeadsChanged, PhasesChanged}
use Rattle.hg_parts.specs.declared.refusal.RaceText.TheVariants.{BookmarksChanged}
use Rattle.hg_parts.specs.declared.table.PartType.{PartType}
use Rattle.hg_parts.specs.declared.table.PartType.TheVariants.{ReplyCaps, Check}
use Rattle.hg_parts.specs.declared.table.PartType.TheVariants.{ChangeGroup, PhaseHeads, Bookmarks, Obsmarkers}
use Rattle.hg_parts.specs.declared.table.PartType.TheVariants.{Pushkey}
use Rattle.hg_parts.specs.declared.table.PartType.TheVariants.{Output, ErrorAbort}

-- A type of part, its name in lower case, and the parameters that are known for it.
pub record Row : Type 0 where
  pub part_type : PartType
  pub name : List ℕ
  pub known : List (List ℕ)

-- The table: a new type of part is a row more.
abbrev pub table : List Row
table =
    record { part_type = ReplyCaps; name = codes "replycaps"; known = [] }
    ∷ record { part_type = Check check.Heads; name = codes "check:heads"; known = [] }
    ∷ record { part_type = Check check.Phases; name = codes "check:phases"; known = [] }
    ∷ record { part_type = Check check.Bookmarks; name = codes "check:bookmarks"; known = [] }
    ∷ record { part_type = PhaseHeads; name = codes "phase-heads"; known = [] }
    ∷ record { part_type = Bookmarks; name = codes "bookmarks"; known = [] }
    ∷ record { part_type = Obsmarkers; name = codes "obsmarkers"; known = [] }
    ∷ record {
      part_type = ChangeGroup;
      name = codes "changegroup";
      known = codes "version" ∷ codes "nbchanges" ∷ codes "targetphase" ∷ [];
    }
    ∷ record {
      part_type = Pushkey;
      name = codes "pushkey";
      known = codes "namespace" ∷ codes "key" ∷ codes "old" ∷ codes "new" ∷ [];
    }
    ∷ record { part_type = Output; name = codes "output"; known = [] }
    ∷ record {
      part_type = ErrorAbort;
      name = codes "error:abort";
      known = codes "message" ∷ codes "hint" ∷ [];
    }
    ∷ []

-- what a race says of a check of that kind
abbrev pub race_text : CheckKind → RaceText
race_text check.Heads = HeadsChanged
race_text check.Phases = PhasesChanged
race_text check.Bookmarks = BookmarksChanged

-- the row of a type: types are compared without regard to case
unfoldable pub row_of : List ℕ → Option Row
row_of kind = find (λ row. str_eq_ignore_ascii_case row.name kind) table

-- a type as a refusal names it
abbrev pub lower : List ℕ → List ℕ
lower kind = str_to_ascii_lowercase kind

-- a type with an upper case letter has to be understood
abbrev pub is_mandatory : List ℕ → Bool
is_mandatory kind = list_any is_ascii_uppercase kind

-- names are compared exactly, and an advisory parameter need not be known
abbrev pub is_unknown : {A : Type 0} → List (List ℕ) → Param A → Bool
is_unknown known param = param.mandatory && not (list_any (λ name. bytes_eq name param.key) known)

-- the names of the mandatory parameters that are not known, in the header's order
abbrev pub unknown_names : {A : Type 0} → List (List ℕ) → List (Param A) → List (List ℕ)
unknown_names known params = map (λ param. param.key) (filter (is_unknown known) params)

-- What stands against a part: the mandatory parameters that are not known for its type, and nothing where
-- the type is not known.
abbrev pub names_against : {A : Type 0} → List (Param A) → Option Row → List (List ℕ)
names_against params None = []
names_against params (Some row) = unknown_names row.known params

-- what is not known of a part: its type, or some of its mandatory parameters
abbrev pub unsupported_names : {A : Type 0} → Part A → List (List ℕ)
unsupported_names part = names_against part.params (row_of part.kind)

-- Whether a part is supported: its type, or the names that stand against it.
pub data Support : Type 0 where
  Supported : (part_type : PartType) → Support
  Unsupported : (names : List (List ℕ)) → Support

-- a type is supported where nothing stands against it
abbrev pub support_by : PartType → List (List ℕ) → Support
support_by part_type [] = Supported part_type
support_by part_type (name ∷ names) = Unsupported (name ∷ names)

-- a part is supported where its type has a row and each mandatory parameter is known
abbrev pub support_in : {A : Type 0} → List (Param A) → Option Row → Support
support_in params None = Unsupported []
support_in params (Some row) = support_by row.part_type (unknown_names row.known params)

-- whether a part is supported, and as which type
abbrev pub support_of : {A : Type 0} → Part A → Support
support_of part = support_in part.params (row_of part.kind)

-- a supported part after which parts leave replies
abbrev pub is_reply_caps : Support → Bool
is_reply_caps (Supported ReplyCaps) = true
is_reply_caps _ = false
