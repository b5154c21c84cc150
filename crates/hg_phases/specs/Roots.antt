-- The roots of a phase: the rows of at least that phase that have no parent of at least that phase, in
-- ascending order.
use Rattle.std.specs.Prelude.{ℕ, Bool, ◌&&◌, List, length, filter, Contains, Option, nat_le}
use Rattle.std.specs.Prelude.{nat_lt}
use Rattle.std.specs.List.{range_with_len}
use Rattle.hg_types.specs.declared.phase.Phase.{Phase}
use Rattle.hg_types.specs.Phase.{number_of}
use Rattle.hg_log.specs.Parents.{Leads}
use Rattle.hg_phases.specs.Order.{phase_at, phase_above}

-- a row of that phase, under parents of that greatest phase, is a root of the target
abbrev pub begins : Phase → Phase → Phase → Bool
begins target above phase =
    nat_lt (number_of above) (number_of target) && nat_le (number_of target) (number_of phase)

-- the row has at least that phase, and none of its parents has
abbrev pub is_root : (ℕ → Option ℕ × Option ℕ) → List Phase → Phase → ℕ → Bool
is_root parents phases target r = begins target (phase_above parents phases r) (phase_at phases r)

-- the roots among n rows from that one on
unfoldable pub roots_from : (ℕ → Option ℕ × Option ℕ) → List Phase → Phase → ℕ → ℕ → List ℕ
roots_from parents phases target low n = filter (is_root parents phases target) (range_with_len low n)

-- the rows that are roots of that phase, in ascending order
abbrev pub roots : (ℕ → Option ℕ × Option ℕ) → List Phase → Phase → List ℕ
roots parents phases target = roots_from parents phases target 0 (length phases)

-- one of these roots is the row, or an ancestor of it
pub record HasRoot (parents : ℕ → Option ℕ × Option ℕ) (roots : List ℕ) (r : ℕ) : Type 0 where
  pub root : ℕ
  pub is_one : Contains roots root
  pub leads : Leads parents root r
