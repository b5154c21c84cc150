-- How many rows are in each phase.
use Rattle.std.specs.Prelude.{ℕ, ◌==◌, Bool, List, count_by}
use Rattle.hg_types.specs.declared.phase.Phase.{Phase}
use Rattle.hg_types.specs.declared.phase.Phase.TheVariants.{Public, Draft, Secret}
use Rattle.hg_types.specs.Phase.{number_of}
use Rattle.hg_phases.specs.declared.counts.PhaseCounts.{PhaseCounts}

-- the phase is that one
abbrev pub is_phase : Phase → Phase → Bool
is_phase phase other = number_of phase == number_of other

-- how many of these phases are that one
abbrev pub count_of : Phase → List Phase → ℕ
count_of phase phases = count_by (is_phase phase) phases

-- how many of these phases are public, draft and secret
unfoldable pub counts_of : List Phase → PhaseCounts
counts_of phases = record {
  public = count_of Public phases;
  draft = count_of Draft phases;
  secret = count_of Secret phases;
}
