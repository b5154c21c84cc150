-- What a log and its phases report of an id. The null id is known everywhere, and public.
use Rattle.std.specs.Prelude.{◌≡◌, true, List, All, Option, Some, option_map, if◌then◌else◌}
use Rattle.hg_types.specs.declared.node.Node.{Node}
use Rattle.hg_types.specs.declared.phase.Phase.{Phase}
use Rattle.hg_types.specs.declared.phase.Phase.TheVariants.{Public}
use Rattle.hg_log.specs.Changeset.{Changeset}
use Rattle.hg_log.specs.Parents.{rev_of}
use Rattle.hg_phases.specs.Order.{phase_at}
use Rattle.hg_keys.specs.Bookmarks.{Pairs}
pub use Rattle.hg_log.specs.Known.{is_null, is_known}

-- the phase of a known id
abbrev pub phase_of_node : List Changeset → List Phase → Node → Option Phase
phase_of_node rows phases node = if is_null node then Some Public
    else option_map (phase_at phases) (rev_of rows node.0)

-- every bookmark is on a known changeset
abbrev pub AreOnKnown : List Changeset → Pairs → Type 0
AreOnKnown rows pairs = All (λ pair. is_known rows pair.1 ≡ true) pairs
