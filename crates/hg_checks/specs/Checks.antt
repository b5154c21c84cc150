-- The checks: what a payload says of the heads, the phases or the bookmarks, and whether it is still so.
use Rattle.std.specs.Prelude.{◌≡◌, ◌⊎◌, ℕ, Bool, ◌==◌, ◌/◌, ◌%◌, List, ◌++◌, length, count_by, bytes_eq}
use Rattle.std.specs.Prelude.{Option, Some, None, Result, Ok, Err, if◌then◌else◌}
use Rattle.std.specs.List.{list_all}
use Rattle.std.specs.Simd.{first_chunks}
use Rattle.hg_types.specs.declared.node.Node.{Node}
use Rattle.hg_types.specs.declared.phase.Phase.{Phase}
use Rattle.hg_types.specs.Phase.{number_of}
use Rattle.hg_log.specs.Changeset.{Changeset}
use Rattle.hg_log.specs.HeadCount.{head_ids}
use Rattle.hg_phases.specs.declared.fault.EntryFault.{EntryFault}
use Rattle.hg_phases.specs.Entries as phase
use Rattle.hg_keys.specs.Bookmarks.{Pairs, node_of}
use Rattle.hg_keys.specs.Known.{phase_of_node}
use Rattle.hg_keys.specs.Payload as bookmark
use Rattle.hg_keys.specs.PushKey.{are_same, is_known_target}
use Rattle.hg_checks.specs.declared.kind.CheckKind.{CheckKind}
use Rattle.hg_checks.specs.declared.kind.CheckKind.TheVariants.{Heads, Phases, Bookmarks}
use Rattle.hg_checks.specs.declared.fault.CheckFault.{CheckFault}
use Rattle.hg_checks.specs.declared.fault.CheckFault.TheVariants.{Raced, Short, BadPhase, UnknownNode}
use Rattle.hg_checks.specs.declared.fault.CheckFault.TheVariants.{NoMemory}
use Rattle.hg_checks.specs.Checked.{Answer, all_checked}
use Rattle.hg_checks.specs.CheckFaults.{told_entries}

-- ---- check:heads

-- the ids in a payload
abbrev pub ids_in : List ℕ → List (List ℕ)
ids_in payload = first_chunks 20 (length payload / 20) payload

-- how often an id is among others
abbrev pub occurrences : List ℕ → List (List ℕ) → ℕ
occurrences id ids = count_by (λ other. bytes_eq other id) ids

-- sorted, the two lists are equal: each id is in both as often
abbrev pub are_same_ids : List (List ℕ) → List (List ℕ) → Bool
are_same_ids ids others = list_all (λ id. occurrences id ids == occurrences id others) (ids ++ others)

-- the payload is whole ids, of 20 bytes each, and they are the heads of the whole log
abbrev pub heads_checked : List Changeset → List ℕ → Answer
heads_checked rows payload =
    if length payload % 20 == 0
    then if are_same_ids (ids_in payload) (head_ids rows) then Ok tt else Err Raced
    else Err Short

-- ---- check:phases

-- the present phase, which an unknown changeset has not, is the one that the client saw
abbrev pub phase_is : Option Phase → Phase → Answer
phase_is None seen = Err UnknownNode
phase_is (Some present) seen = if number_of present == number_of seen then Ok tt else Err Raced

-- content where the changeset is known and has the phase of the entry
abbrev pub phase_checked : List Changeset → List Phase → Phase × Node → Answer
phase_checked rows phases entry = phase_is (phase_of_node rows phases entry.1) entry.0

-- as `phase_checked` for each entry, where the payload can be read
abbrev pub phases_as_read : List Changeset → List Phase → Result (List (Phase × Node)) EntryFault → Answer
phases_as_read rows phases (Ok entries) = all_checked (phase_checked rows phases) entries
phases_as_read rows phases (Err fault) = Err (told_entries fault)

-- the payload is whole entries of known phases, and each agrees
abbrev pub phases_checked : List Changeset → List Phase → List ℕ → Answer
phases_checked rows phases payload = phases_as_read rows phases (phase.entries_of payload)

-- ---- check:bookmarks

-- the changeset is known, if there is one, and the name is on it, or on none
abbrev pub bookmark_checked : List Changeset → Pairs → bookmark.Entry → Answer
bookmark_checked rows pairs entry =
    if is_known_target rows entry.0
    then if are_same (node_of pairs entry.1) entry.0 then Ok tt else Err Raced
    else Err UnknownNode

-- as `bookmark_checked` for each entry, where the payload can be read
abbrev pub bookmarks_as_read : List Changeset → Pairs → Option (List bookmark.Entry) → Answer
bookmarks_as_read rows pairs (Some entries) = all_checked (bookmark_checked rows pairs) entries
bookmarks_as_read rows pairs None = Err Short

-- the payload is whole entries, and each agrees
abbrev pub bookmarks_checked : List Changeset → Pairs → List ℕ → Answer
bookmarks_checked rows pairs payload = bookmarks_as_read rows pairs (bookmark.entries_of payload)

-- ---- by kind

-- What a check of that kind answers of changesets, the phase of each, and bookmarks.
abbrev pub checked : CheckKind → List Changeset → List Phase → Pairs → List ℕ → Answer
checked Heads rows phases pairs payload = heads_checked rows payload
checked Phases rows phases pairs payload = phases_checked rows phases payload
checked Bookmarks rows phases pairs payload = bookmarks_checked rows pairs payload

-- The faults that a check of that kind can report. An unknown changeset is one only where the payload says
-- something else of it, and out of memory is none: code alone answers it.
abbrev pub CanTell : CheckKind → CheckFault → Type 0
CanTell kind Raced = Unit {0}
CanTell kind Short = Unit {0}
CanTell kind BadPhase = kind ≡ Phases
CanTell kind UnknownNode = (kind ≡ Phases) ⊎ (kind ≡ Bookmarks)
CanTell kind NoMemory = ⊥
