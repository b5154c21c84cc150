-- The check parts: what a check answers, reported of its part. None changes the repository or leaves a reply.
use Rattle.std.specs.Prelude.{ℕ, Ok, Err}
use Rattle.hg_types.specs.declared.part.Part.{Part}
use Rattle.hg_checks.specs.declared.fault.CheckFault.{CheckFault}
use Rattle.hg_checks.specs.declared.fault.CheckFault.TheVariants as fault
use Rattle.hg_checks.specs.declared.kind.CheckKind.{CheckKind}
use Rattle.hg_checks.specs.Checked.{Answer}
use Rattle.hg_checks.specs.Checks.{checked}
use Rattle.hg_parts.specs.declared.refusal.Refusal.{Refusal}
use Rattle.hg_parts.specs.declared.refusal.Refusal.TheVariants.{Raced, BadPart, UnknownNode, NoMemory}
use Rattle.hg_parts.specs.declared.refusal.RaceText.{RaceText}
use Rattle.hg_parts.specs.Repository.{Repository}
use Rattle.hg_parts.specs.Handled.{Outcome, nothing_done}
use Rattle.hg_parts.specs.PartTypes.{race_text}

-- A fault of a check as the refusal of its part. A payload that is not read is a fault of format.
abbrev pub refusal_of : {A : Type 0} → ℕ → RaceText → CheckFault → Refusal A
refusal_of place text fault.Raced = Raced place text
refusal_of place text fault.Short = BadPart place
refusal_of place text fault.BadPhase = BadPart place
refusal_of place text fault.UnknownNode = UnknownNode place
refusal_of place text fault.NoMemory = NoMemory

-- the part is handled where the check is content
abbrev pub handle_checked : {A : Type 0} → Repository A → ℕ → RaceText → Answer → Outcome A
handle_checked repo place text (Ok content) = Ok (nothing_done repo)
handle_checked repo place text (Err fault) = Err (refusal_of place text fault)

-- What a check part of that kind makes of a repository.
abbrev pub handle_check : {A : Type 0} → CheckKind → Repository A → ℕ → Part A → Outcome A
handle_check kind repo place part =
    handle_checked repo place (race_text kind)
    (checked kind repo.rows repo.phases repo.bookmarks part.payload)
