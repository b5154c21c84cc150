-- How many changesets the bundle of a push brings.
use Rattle.std.specs.Prelude.{ℕ, ◌≡◌, Bool, List, Result, Ok, Err, codes, length, sum_by, if◌then◌else◌}
use Rattle.std.specs.Str.{str_eq_ignore_ascii_case}
use Rattle.hg_types.specs.declared.entry.Entry.{Entry}
use Rattle.hg_types.specs.declared.limits.Limits.{Limits}
use Rattle.hg_types.specs.declared.part.Part.{Part}
use Rattle.hg_cgroup.specs.declared.fault.GroupFault.{GroupFault}
use Rattle.hg_cgroup.specs.Outcome.{outcome_of}
use Rattle.hg_parts.specs.parts.Changegroup.{version_of}
use Rattle.hg_stream.specs.Frames.{IsBundle}

-- types are compared without regard to case
abbrev pub is_changegroup : {A : Type 0} → Part A → Bool
is_changegroup part = str_eq_ignore_ascii_case part.kind (codes "changegroup")

-- how many entries a changegroup has, none where it cannot be read
abbrev pub entries_in : {A : Type 0} → Result (List (Entry A)) GroupFault → ℕ
entries_in (Ok entries) = length entries
entries_in (Err fault) = 0

-- how many changesets stand in a part
abbrev pub changesets_in : {A : Type 0} → Part A → ℕ
changesets_in {A} part = if is_changegroup part then entries_in (outcome_of {A = A} (version_of part.params) part.payload) else 0

-- The bytes are a bundle, and in its parts stand so many changesets.
pub record Brings (A : Type 0) (limits : Limits) (bundle : List ℕ) (count : ℕ) : Type 0 where
  pub parts : List (Part A)
  pub has : IsBundle limits bundle parts
  pub count_is : count ≡ sum_by changesets_in parts
