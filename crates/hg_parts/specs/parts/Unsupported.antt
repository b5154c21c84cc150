-- A part that is not supported.
use Rattle.std.specs.Prelude.{ℕ, List, Ok, Err, if◌then◌else◌}
use Rattle.hg_types.specs.declared.part.Part.{Part}
use Rattle.hg_parts.specs.declared.refusal.Refusal.TheVariants.{Unsupported}
use Rattle.hg_parts.specs.Repository.{Repository}
use Rattle.hg_parts.specs.Handled.{Outcome, nothing_done}
use Rattle.hg_parts.specs.PartTypes.{is_mandatory, lower}

-- it is refused where it is mandatory, and else ignored
abbrev pub handle_unsupported : {A : Type 0} → Repository A → ℕ → Part A → List (List ℕ) → Outcome A
handle_unsupported repo place part names =
    if is_mandatory part.kind then Err (Unsupported place (lower part.kind) names) else Ok (nothing_done repo)
