-- Parts that are read before their turn: what their bytes say without the repository, and what is kept of
-- them.
use Rattle.std.specs.Prelude.{◌≡◌, ℕ, Bool, true, false, List, [], ◌∷◌, Ok, Err}
use Rattle.hg_types.specs.declared.part.Part.{Part}
use Rattle.hg_parts.specs.declared.prepared.Prepared.{Prepared}
use Rattle.hg_parts.specs.declared.prepared.Reading.{Reading}
use Rattle.hg_parts.specs.declared.prepared.Reading.TheVariants as reading
use Rattle.hg_parts.specs.declared.refusal.Refusal.TheVariants.{BadPart, ClientAbort}
use Rattle.hg_parts.specs.declared.source.Source.{Source}
use Rattle.hg_parts.specs.declared.table.PartType.{PartType}
use Rattle.hg_parts.specs.declared.table.PartType.TheVariants.{ReplyCaps, Check}
use Rattle.hg_parts.specs.declared.table.PartType.TheVariants.{ChangeGroup, PhaseHeads, Bookmarks, Obsmarkers}
use Rattle.hg_parts.specs.declared.table.PartType.TheVariants.{Pushkey}
use Rattle.hg_parts.specs.declared.table.PartType.TheVariants.{Output, ErrorAbort}
use Rattle.hg_parts.specs.Repository.{Repository}
use Rattle.hg_parts.specs.Handled.{Outcome, nothing_done}
use Rattle.hg_parts.specs.PartTypes.{Support, Supported, Unsupported, support_of, unsupported_names}
use Rattle.hg_parts.specs.parts.Unsupported.{handle_unsupported}
use Rattle.hg_parts.specs.parts.Changegroup.{read_changegroup, handle_group}
use Rattle.hg_parts.specs.parts.Check.{handle_check}
use Rattle.hg_parts.specs.parts.PhaseHeads.{read_phase_heads, handle_entries as handle_heads}
use Rattle.hg_parts.specs.parts.Bookmarks.{handle_bookmarks}
use Rattle.hg_parts.specs.parts.Obsmarkers.{read_obsmarkers, handle_markers}
use Rattle.hg_parts.specs.parts.Pushkey.{handle_pushkey}

-- ---- reading

-- a supported part, by its type: three types are read, the others wait for their turn
abbrev pub read_supported : {A : Type 0} → Part A → PartType → Reading A
read_supported part ReplyCaps = reading.ReplyCaps
read_supported part (Check kind) = reading.Check kind
read_supported part PhaseHeads = read_phase_heads part
read_supported part Bookmarks = reading.Bookmarks
read_supported part Obsmarkers = read_obsmarkers part
read_supported part ChangeGroup = read_changegroup part
read_supported part Pushkey = reading.Pushkey
read_supported part Output = reading.Output
read_supported part ErrorAbort = reading.ErrorAbort

-- what a part says without the repository, by whether it is supported
abbrev pub read_as : {A : Type 0} → Part A → Support → Reading A
read_as part (Supported part_type) = read_supported part part_type
read_as part (Unsupported names) = reading.Unsupported

-- What a part says without the repository.
abbrev pub reading_of : {A : Type 0} → Part A → Reading A
reading_of part = read_as part (support_of part)

-- ---- what is kept

-- the payload is dropped: it was read, or the part is not supported or has a fault
abbrev pub is_read : {A : Type 0} → Reading A → Bool
is_read reading.Unsupported = true
is_read reading.Malformed = true
is_read (reading.ChangeGroup target entries) = true
is_read (reading.PhaseHeads entries) = true
is_read (reading.Obsmarkers markers) = true
is_read waiting = false

-- the part without its payload, where that is dropped
abbrev pub kept_where : {A : Type 0} → Bool → Part A → Part A
kept_where true part = record part { payload = [] }
kept_where false part = part

-- What is kept of a part, with this reading of it.
abbrev pub kept_with : {A : Type 0} → Part A → Reading A → Prepared A
kept_with part told = record { reading = told; part = kept_where (is_read told) part }

-- the part as it waits for its turn: what was read of it, and what is kept of it
abbrev pub prepared_of : {A : Type 0} → Part A → Prepared A
prepared_of part = kept_with part (reading_of part)

-- It may have been made of this part. Parts that differ in content that is dropped make the same.
unfoldable pub IsMadeOf : {A : Type 0} → Part A → Prepared A → Type 0
IsMadeOf part prepared = prepared ≡ prepared_of part

-- each of these may have been made of the part in its place
abbrev pub AreMadeOf : {A : Type 0} → List (Part A) → List (Prepared A) → Type 0
AreMadeOf [] [] = Unit {0}
AreMadeOf (part ∷ parts) (one ∷ others) = IsMadeOf part one × AreMadeOf parts others
AreMadeOf parts prepared = ⊥

-- ---- handling

-- What was read of a part meets the repository: the faults of its format come first.
abbrev pub handle_reading : {A : Type 0} → Source → Repository A → Bool → ℕ → Part A → Reading A → Outcome A
handle_reading source repo replying place part reading.Unsupported =
    handle_unsupported repo place part (unsupported_names part)
handle_reading source repo replying place part reading.Malformed = Err (BadPart place)
handle_reading source repo replying place part reading.ReplyCaps = Ok (nothing_done repo)
handle_reading source repo replying place part (reading.Check kind) = handle_check kind repo place part
handle_reading source repo replying place part (reading.PhaseHeads entries) = handle_heads repo place entries
handle_reading source repo replying place part reading.Bookmarks = handle_bookmarks repo place part
handle_reading source repo replying place part (reading.Obsmarkers added) =
    handle_markers repo replying place part added
handle_reading source repo replying place part (reading.ChangeGroup target entries) =
    handle_group source repo replying place part target entries
handle_reading source repo replying place part reading.Pushkey = handle_pushkey repo replying place part
handle_reading source repo replying place part reading.Output = Ok (nothing_done repo)
handle_reading source repo replying place part reading.ErrorAbort = Err (ClientAbort place)

-- a reading after which parts leave replies
abbrev pub is_replycaps : {A : Type 0} → Reading A → Bool
is_replycaps reading.ReplyCaps = true
is_replycaps told = false
