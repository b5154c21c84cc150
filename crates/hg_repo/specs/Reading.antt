-- What is read off a repository.
use Rattle.std.specs.Prelude.{◌≡◌, Bool, true, false, ◌&&◌, List, Option, Some, None}
use Rattle.std.specs.List.{list_any}
use Rattle.hg_types.specs.declared.node.Node.{Node}
use Rattle.hg_types.specs.declared.phase.Phase.{Phase}
use Rattle.hg_types.specs.declared.phase.Phase.TheVariants.{Public}
use Rattle.hg_obs.specs.declared.marker.Marker.{Marker}
use Rattle.hg_obs.specs.Same.{same_node}
use Rattle.hg_keys.specs.Known.{phase_of_node}
use Rattle.hg_parts.specs.Repository.{Repository}

-- both hold the same: all but their settings is equal
abbrev pub IsSame : {A : Type 0} → Repository A → Repository A → Type 0
IsSame repo other = repo ≡ record other { settings = repo.settings }

-- a changeset that may be obsolete: it is known, and not public; the null id is public
abbrev pub can_be_obsolete : Option Phase → Bool
can_be_obsolete None = false
can_be_obsolete (Some Public) = false
can_be_obsolete (Some phase) = true

-- the id is the predecessor of a marker
abbrev pub is_predecessor : {A : Type 0} → List (Marker A) → Node → Bool
is_predecessor markers node = list_any (λ marker. same_node marker.predecessor node) markers

-- A changeset is obsolete where it is known, not null, not public, and the predecessor of a marker.
abbrev pub is_obsolete : {A : Type 0} → Repository A → Node → Bool
is_obsolete repo node = can_be_obsolete (phase_of_node repo.rows repo.phases node)
    && is_predecessor repo.markers node
