-- What registering a row and advancing rows make of the phases of rows.
use Rattle.std.specs.Prelude.{◌≡◌, ℕ, ◌<◌, ◌≤◌, Bool, List, [], ◌∷◌, ◌++◌, map, length, Option, if◌then◌else◌}
use Rattle.std.specs.List.{list_any, range_with_len}
use Rattle.hg_types.specs.declared.phase.Phase.{Phase}
use Rattle.hg_types.specs.declared.phase.Phase.TheVariants.{Draft, Secret}
use Rattle.hg_types.specs.Phase.{number_of}
use Rattle.hg_log.specs.Changeset.{Changeset}
use Rattle.hg_log.specs.Parents.{parents_of, leads}
use Rattle.hg_phases.specs.Order.{lesser, greater, phase_at, phase_above}
use Rattle.hg_phases.specs.Roots.{roots}

-- the next row gets the greatest of the target and its parents' phases
unfoldable pub registered : (ℕ → Option ℕ × Option ℕ) → Phase → List Phase → List Phase
registered parents target phases = phases ++ greater target (phase_above parents phases (length phases)) ∷ []

-- whether a row is one of the heads, or an ancestor of one
abbrev pub is_reached : (ℕ → Option ℕ × Option ℕ) → List ℕ → ℕ → Bool
is_reached parents heads r = list_any (λ head. leads parents r head) heads

-- a row that is reached gets the lesser of the target and its phase, any other keeps its own
abbrev pub advanced_at : (ℕ → Option ℕ × Option ℕ) → Phase → List ℕ → List Phase → ℕ → Phase
advanced_at parents target heads phases r =
    if is_reached parents heads r then lesser target (phase_at phases r) else phase_at phases r

-- the phases of all rows after an advance of these heads to that phase
unfoldable pub advanced : (ℕ → Option ℕ × Option ℕ) → Phase → List ℕ → List Phase → List Phase
advanced parents target heads phases =
    map (advanced_at parents target heads phases) (range_with_len 0 (length phases))

-- no row is in a lower phase than a parent
abbrev pub AreLawful : (ℕ → Option ℕ × Option ℕ) → List Phase → Type 0
AreLawful parents phases =
    (r : ℕ) → r < length phases → number_of (phase_above parents phases r) ≤ number_of (phase_at phases r)

-- What is kept of the rows that have a phase: the phase of each, and the roots of draft and of secret.
pub record Phasing : Type 0 where
  pub phases : List Phase
  pub draft : List ℕ
  pub secret : List ℕ

-- What contracts see: that, and the same at the moment of the savepoint, where there is one.
pub record Saved : Type 0 where
  pub current : Phasing
  pub saved : Option Phasing

-- no row has a phase
abbrev pub no_rows : Phasing
no_rows = record { phases = []; draft = []; secret = [] }

-- The phases are lawful for a log's first rows, and the roots are those that they give.
pub record AreFor (rows : List Changeset) (kept : Phasing) : Type 0 where
  pub few : length kept.phases ≤ length rows
  pub lawful : AreLawful (parents_of rows) kept.phases
  pub draft : kept.draft ≡ roots (parents_of rows) kept.phases Draft
  pub secret : kept.secret ≡ roots (parents_of rows) kept.phases Secret
