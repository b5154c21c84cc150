-- How code advances the entries of a `phase-heads` part: all of one phase at once.
use Rattle.std.specs.Prelude.{ℕ, ◌==◌, List, Option, None}
use Rattle.std.specs.Prelude.{if◌then◌else◌}
use Rattle.std.specs.List.{filter_map}
use Rattle.hg_types.specs.declared.node.Node.{Node}
use Rattle.hg_types.specs.declared.phase.Phase.{Phase}
use Rattle.hg_types.specs.Phase.{number_of}
use Rattle.hg_log.specs.Changeset.{Changeset}
use Rattle.hg_log.specs.Parents.{parents_of, rev_of}
use Rattle.hg_phases.specs.Phases.{advanced}

-- the number of an entry's changeset, where the entry has that phase
abbrev pub head_in : List Changeset → Phase → Phase × Node → Option ℕ
head_in rows target entry =
    if number_of entry.0 == number_of target then rev_of rows entry.1.0 else None

-- the numbers of the changesets of the entries of a phase
unfoldable pub heads_of : List Changeset → Phase → List (Phase × Node) → List ℕ
heads_of rows target entries = filter_map (head_in rows target) entries

-- those are advanced to it
abbrev pub advanced_to : List Changeset → Phase → List (Phase × Node) → List Phase → List Phase
advanced_to rows target entries phases = advanced (parents_of rows) target (heads_of rows target entries) phases
