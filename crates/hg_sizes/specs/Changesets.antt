-- The changesets that a push brings.
use Rattle.std.specs.Prelude.{ℕ, ◌≡◌, ◌++◌, Bool, List, [], Result, Ok, Err, codes, if◌then◌else◌}
use Rattle.std.specs.List.{flat_map}
use Rattle.std.specs.Str.{str_eq_ignore_ascii_case}
use Rattle.hg_types.specs.declared.entry.Entry.{Entry}
use Rattle.hg_types.specs.declared.limits.Limits.{Limits}
use Rattle.hg_types.specs.declared.part.Part.{Part}
use Rattle.hg_cgroup.specs.declared.fault.GroupFault.{GroupFault}
use Rattle.hg_cgroup.specs.Outcome.{outcome_of}
use Rattle.hg_parts.specs.parts.Changegroup.{version_of}
use Rattle.hg_stream.specs.Frames.{IsBundle}

-- types are compared without regard to case
abbrev pub is_changegroup : {A : Type 0} → Part A → Bool
is_changegroup part = str_eq_ignore_ascii_case part.kind (codes "changegroup")

-- none where a changegroup cannot be read
abbrev pub read_of : {A : Type 0} → Result (List (Entry A)) GroupFault → List (Entry A)
read_of (Ok entries) = entries
read_of (Err fault) = []

-- the changesets of a part
abbrev pub changesets_in : {A : Type 0} → Part A → List (Entry A)
changesets_in part = if is_changegroup part then read_of (outcome_of (version_of part.params) part.payload) else []

-- the changesets of all parts, in order
abbrev pub changesets_of : {A : Type 0} → List (Part A) → List (Entry A)
changesets_of parts = flat_map changesets_in parts

-- The body begins with a bundle, and in its parts stand these changesets.
pub record BeginsWith {A : Type 0} (limits : Limits) (body : List ℕ) (entries : List (Entry A)) : Type 0 where
  pub bundle : List ℕ
  pub behind : List ℕ
  pub parts : List (Part A)
  pub has : IsBundle limits bundle parts
  pub spelled : body ≡ bundle ++ behind
  pub entries_are : entries ≡ changesets_of parts

-- the body begins with no bundle
abbrev pub HasNoBundle : Type 0 → Limits → List ℕ → Type 0
HasNoBundle A limits body =
    (bundle behind : List ℕ) (parts : List (Part A)) → IsBundle limits bundle parts → body ≡ bundle ++ behind → ⊥
