-- Which parts can be refused, and how.
use Rattle.std.specs.Prelude.{◌≡◌, ◌≢◌, ◌⊎◌, ℕ, List}
use Rattle.hg_log.specs.declared.add.AddFault.TheVariants as add
use Rattle.hg_checks.specs.declared.kind.CheckKind.{CheckKind}
use Rattle.hg_checks.specs.declared.kind.CheckKind.TheVariants as check
use Rattle.hg_parts.specs.declared.refusal.Refusal.{Refusal}
use Rattle.hg_parts.specs.declared.refusal.Refusal.TheVariants as refusal
use Rattle.hg_parts.specs.declared.table.PartType.{PartType}
use Rattle.hg_parts.specs.declared.table.PartType.TheVariants.{ReplyCaps, Check, ChangeGroup, PhaseHeads}
use Rattle.hg_parts.specs.declared.table.PartType.TheVariants.{Bookmarks}
use Rattle.hg_parts.specs.declared.table.PartType.TheVariants.{Pushkey, Output, ErrorAbort}
use Rattle.hg_parts.specs.PartTypes.{Support, Supported, Unsupported, race_text}

-- the types whose parts have a format that bytes may not have
abbrev pub HasFormat : PartType → Type 0
HasFormat part_type = (part_type ≢ ReplyCaps) × (part_type ≢ Output) × (part_type ≢ ErrorAbort)

-- the types whose parts name changesets that are to be known
abbrev pub NamesChangesets : PartType → Type 0
NamesChangesets part_type = (part_type ≡ Check check.Phases) ⊎ (part_type ≡ Check check.Bookmarks)
    ⊎ (part_type ≡ PhaseHeads) ⊎ (part_type ≡ Bookmarks)

-- The part at this place, of this support, can be refused so. Out of memory is no refusal of a part, nor of
-- a changeset: code alone answers it.
abbrev pub CanBeRefused : {A : Type 0} → ℕ → Support → Refusal A → Type 0
CanBeRefused place support (refusal.Unsupported at kind params) = (at ≡ place)
    × ((names : List (List ℕ)) × (support ≡ Unsupported names) × (params ≡ names))
CanBeRefused place support (refusal.Raced at text) = (at ≡ place)
    × ((kind : CheckKind) × (support ≡ Supported (Check kind)) × (text ≡ race_text kind))
CanBeRefused place support (refusal.KeyFailed at id call) = (at ≡ place) × (support ≡ Supported Pushkey)
CanBeRefused place support (refusal.BadPart at) = (at ≡ place)
    × ((part_type : PartType) × (support ≡ Supported part_type) × HasFormat part_type)
CanBeRefused place support (refusal.BadChangeset at fault) = (at ≡ place)
    × (support ≡ Supported ChangeGroup) × (fault ≢ add.NoMemory)
CanBeRefused place support (refusal.UnknownNode at) = (at ≡ place)
    × ((part_type : PartType) × (support ≡ Supported part_type) × NamesChangesets part_type)
CanBeRefused place support (refusal.ClientAbort at) = (at ≡ place) × (support ≡ Supported ErrorAbort)
CanBeRefused place support refusal.NoMemory = ⊥
