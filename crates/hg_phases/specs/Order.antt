-- The order of phases, and the phases of rows and of their parents.
use Rattle.std.specs.Prelude.{ℕ, List, Option, None, Some, nat_le, ◌==◌, if◌then◌else◌, slice_index_or}
use Rattle.hg_types.specs.declared.phase.Phase.{Phase}
use Rattle.hg_types.specs.declared.phase.Phase.TheVariants.{Public, Draft, Secret}
use Rattle.hg_types.specs.Phase.{number_of}

-- the phase of a number
abbrev pub phase_from : ℕ → Option Phase
phase_from number =
    if number == 0 then Some Public
    else (if number == 1 then Some Draft else (if number == 2 then Some Secret else None))

-- of two phases the one of the lesser number
abbrev pub lesser : Phase → Phase → Phase
lesser a b = if nat_le (number_of a) (number_of b) then a else b

-- of two phases the one of the greater number
abbrev pub greater : Phase → Phase → Phase
greater a b = if nat_le (number_of a) (number_of b) then b else a

-- the phase of a row; one that has none counts as public
abbrev pub phase_at : List Phase → ℕ → Phase
phase_at phases r = slice_index_or phases r Public

-- the phase of a parent; where there is none, it is public
abbrev pub phase_of : List Phase → Option ℕ → Phase
phase_of phases None = Public
phase_of phases (Some p) = phase_at phases p

-- the greatest phase of a row's parents
abbrev pub phase_above : (ℕ → Option ℕ × Option ℕ) → List Phase → ℕ → Phase
phase_above parents phases r = greater (phase_of phases (parents r).0) (phase_of phases (parents r).1)
