-- Handling one part: the definition of each type of part stands in a module of its own.
use Rattle.std.specs.Prelude.{ℕ, Bool, Ok, Err}
use Rattle.hg_types.specs.declared.part.Part.{Part}
use Rattle.hg_parts.specs.declared.source.Source.{Source}
use Rattle.hg_parts.specs.declared.table.PartType.{PartType}
use Rattle.hg_parts.specs.declared.table.PartType.TheVariants.{ReplyCaps, Check}
use Rattle.hg_parts.specs.declared.table.PartType.TheVariants.{ChangeGroup, PhaseHeads, Bookmarks, Obsmarkers}
use Rattle.hg_parts.specs.declared.table.PartType.TheVariants.{Pushkey}
use Rattle.hg_parts.specs.declared.table.PartType.TheVariants.{Output, ErrorAbort}
use Rattle.hg_parts.specs.declared.refusal.Refusal.TheVariants.{ClientAbort}
use Rattle.hg_parts.specs.Repository.{Repository}
use Rattle.hg_parts.specs.Handled.{Outcome, nothing_done}
use Rattle.hg_parts.specs.PartTypes.{Support, Supported, Unsupported, support_of}
use Rattle.hg_parts.specs.parts.Unsupported.{handle_unsupported}
use Rattle.hg_parts.specs.parts.Changegroup.{handle_changegroup}
use Rattle.hg_parts.specs.parts.Check.{handle_check}
use Rattle.hg_parts.specs.parts.PhaseHeads.{handle_phase_heads}
use Rattle.hg_parts.specs.parts.Bookmarks.{handle_bookmarks}
use Rattle.hg_parts.specs.parts.Obsmarkers.{handle_obsmarkers}
use Rattle.hg_parts.specs.parts.Pushkey.{handle_pushkey}

-- a supported part, by its type: the faults of its format, then the faults against the repository
abbrev pub handle_supported : {A : Type 0} → Source → Repository A → Bool → ℕ → Part A → PartType → Outcome A
handle_supported source repo replying place part ReplyCaps = Ok (nothing_done repo)
handle_supported source repo replying place part (Check kind) = handle_check kind repo place part
handle_supported source repo replying place part PhaseHeads = handle_phase_heads repo place part
handle_supported source repo replying place part Bookmarks = handle_bookmarks repo place part
handle_supported source repo replying place part Obsmarkers = handle_obsmarkers repo replying place part
handle_supported source repo replying place part ChangeGroup =
    handle_changegroup source repo replying place part
handle_supported source repo replying place part Pushkey = handle_pushkey repo replying place part
handle_supported source repo replying place part Output = Ok (nothing_done repo)
handle_supported source repo replying place part ErrorAbort = Err (ClientAbort place)

-- handles a part by whether it is supported
abbrev pub handle_as : {A : Type 0} → Source → Repository A → Bool → ℕ → Part A → Support → Outcome A
handle_as source repo replying place part (Supported part_type) =
    handle_supported source repo replying place part part_type
handle_as source repo replying place part (Unsupported names) = handle_unsupported repo place part names

-- Handling the part at this place, where replying says whether it may leave a reply.
abbrev pub handle : {A : Type 0} → Source → Repository A → Bool → ℕ → Part A → Outcome A
handle source repo replying place part = handle_as source repo replying place part (support_of part)
