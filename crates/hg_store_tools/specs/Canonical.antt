-- The canonical bundle of a push: of its parts those that may change a repository, and of their parameters those
-- that say how.
use Rattle.std.specs.Prelude.{ℕ, ◌≡◌, ⊤, Bool, List, [], ◌∷◌, ◌++◌, Option, Some, None, option_map, codes}
use Rattle.std.specs.Prelude.{bytes_eq, filter}
use Rattle.std.specs.List.{filter_map, flat_map, list_any}
use Rattle.hg_types.specs.declared.limits.Limits.{Limits}
use Rattle.hg_types.specs.declared.part.Param.{Param}
use Rattle.hg_types.specs.declared.part.Part.{Part}
use Rattle.hg_chunks.specs.Payload.{closing, payload_bytes}
use Rattle.hg_params.specs.Writing.{header_bytes}
use Rattle.hg_stream.specs.Block.{sized}
use Rattle.hg_stream.specs.Frames.{IsBundle, magic}
use Rattle.hg_parts.specs.declared.table.PartType.{PartType}
use Rattle.hg_parts.specs.declared.table.PartType.TheVariants.{ReplyCaps, Check, ChangeGroup, PhaseHeads, Bookmarks}
use Rattle.hg_parts.specs.declared.table.PartType.TheVariants.{Obsmarkers, Pushkey, Output, ErrorAbort}
use Rattle.hg_parts.specs.PartTypes.{Support, Supported, Unsupported, support_of}
use Rattle.hg_store.specs.Entries.{Entry}
use Rattle.hg_recovery.specs.Replays.{IsNoBundle}
use Rattle.hg_store_tools.specs.declared.fault.Fault.{Fault}
use Rattle.hg_store_tools.specs.declared.fault.Fault.TheVariants.{NoBundle, NoMemory}

-- the names of the parameters that say what a part of that type changes; of one that changes nothing there are none
abbrev pub names_for : PartType → Option (List (List ℕ))
names_for ChangeGroup = Some (codes "version" ∷ [])
names_for PhaseHeads = Some []
names_for Bookmarks = Some []
names_for Obsmarkers = Some []
names_for Pushkey = Some (codes "namespace" ∷ codes "key" ∷ codes "old" ∷ codes "new" ∷ [])
names_for ReplyCaps = None
names_for (Check kind) = None
names_for Output = None
names_for ErrorAbort = None

-- the same of a part: one that is not supported changes nothing
abbrev pub names_by : Support → Option (List (List ℕ))
names_by (Supported part_type) = names_for part_type
names_by (Unsupported unknown) = None

-- the parameter has one of the names
abbrev pub is_named : {A : Type 0} → List (List ℕ) → Param A → Bool
is_named names param = list_any (λ name. bytes_eq name param.key) names

-- the parameters that have one of the names
abbrev pub params_named : {A : Type 0} → List (List ℕ) → List (Param A) → List (Param A)
params_named names params = filter (is_named names) params

-- the part with these parameters alone
abbrev pub with_params_named : {A : Type 0} → Part A → List (List ℕ) → Part A
with_params_named part names = record part { params = params_named names part.params }

-- the part, if it may change a repository, with the parameters that say how
abbrev pub canonical_part : {A : Type 0} → Part A → Option (Part A)
canonical_part part = option_map (with_params_named part) (names_by (support_of part))

-- the parts that may change a repository, in order
abbrev pub canonical_parts : {A : Type 0} → List (Part A) → List (Part A)
canonical_parts parts = filter_map canonical_part parts

-- a part as it stands: its header after its size, and its payload in at most one chunk
abbrev pub plain_bytes : {A : Type 0} → Part A → List ℕ
plain_bytes part = sized (header_bytes part.kind part.id part.params) ++ payload_bytes part.payload

-- the magic, no stream parameters, the parts that may change a repository, and the end mark
abbrev pub canonical_bytes : {A : Type 0} → List (Part A) → List ℕ
canonical_bytes parts = (magic ++ sized []) ++ (flat_map plain_bytes (canonical_parts parts) ++ closing)

-- The bytes are a bundle, and this is the canonical one of its parts.
pub record IsCanonicalOf (A : Type 0) (limits : Limits) (bytes canonical : List ℕ) : Type 0 where
  pub parts : List (Part A)
  pub bundle : IsBundle limits bytes parts
  pub canonical_is : canonical ≡ canonical_bytes parts

-- why the record at a place, with these bytes, has no canonical bundle; of memory nothing is said
abbrev pub IsUncanonical : Type 0 → Fault → ℕ → Limits → List ℕ → Type 0
IsUncanonical A (NoBundle at) place limits bytes = (at ≡ place) × IsNoBundle A limits bytes
IsUncanonical A NoMemory place limits bytes = ⊤
IsUncanonical A other place limits bytes = ⊥

-- one canonical bundle for each record, in order
abbrev pub AreCanonicalOf : Type 0 → Limits → List Entry → List (List ℕ) → Type 0
AreCanonicalOf A limits [] [] = ⊤
AreCanonicalOf A limits (entry ∷ records) (bundle ∷ bundles) =
    IsCanonicalOf A limits entry.bundle bundle × AreCanonicalOf A limits records bundles
AreCanonicalOf A limits records bundles = ⊥
