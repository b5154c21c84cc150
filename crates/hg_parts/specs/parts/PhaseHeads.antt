-- The part `phase-heads`: changesets, and the phase that each of them and its ancestors are to be in at most.
use Rattle.std.specs.Prelude.{ℕ, Bool, List, [], ◌∷◌, None, Result, Ok, Err}
use Rattle.std.specs.Prelude.{if◌then◌else◌}
use Rattle.std.specs.List.{list_all}
use Rattle.std.specs.Option.{option_to_list}
use Rattle.hg_types.specs.declared.node.Node.{Node}
use Rattle.hg_types.specs.declared.part.Part.{Part}
use Rattle.hg_types.specs.declared.phase.Phase.{Phase}
use Rattle.hg_log.specs.Changeset.{Changeset}
use Rattle.hg_log.specs.Parents.{parents_of, rev_of}
use Rattle.hg_phases.specs.declared.fault.EntryFault.{EntryFault}
use Rattle.hg_phases.specs.Entries.{entries_of}
use Rattle.hg_phases.specs.Phases.{advanced}
use Rattle.hg_keys.specs.Known.{is_known}
use Rattle.hg_parts.specs.declared.prepared.Reading.{Reading}
use Rattle.hg_parts.specs.declared.prepared.Reading.TheVariants.{PhaseHeads, Malformed}
use Rattle.hg_parts.specs.declared.refusal.Refusal.TheVariants.{BadPart, UnknownNode}
use Rattle.hg_parts.specs.Repository.{Repository}
use Rattle.hg_parts.specs.Handled.{Outcome}

-- each changeset of the entries is known
abbrev pub are_known : List Changeset → List (Phase × Node) → Bool
are_known rows entries = list_all (λ entry. is_known rows entry.1) entries

-- a changeset and its ancestors are advanced to the phase that stands before it; the null id has no row
abbrev pub advanced_by : List Changeset → List Phase → Phase × Node → List Phase
advanced_by rows phases entry =
    advanced (parents_of rows) entry.0 (option_to_list (rev_of rows entry.1.0)) phases

-- the entries in order
abbrev pub advance_each : List Changeset → List (Phase × Node) → List Phase → List Phase
advance_each rows [] phases = phases
advance_each rows (entry ∷ entries) phases = advance_each rows entries (advanced_by rows phases entry)

-- advances each changeset to its phase, where all are known
abbrev pub handle_entries : {A : Type 0} → Repository A → ℕ → List (Phase × Node) → Outcome A
handle_entries repo place entries =
    if are_known repo.rows entries
    then Ok (record {
      repo = record repo { phases = advance_each repo.rows entries repo.phases };
      reply = None;
    })
    else Err (UnknownNode place)

-- as `handle_entries`, where the payload can be read
abbrev pub handle_read : {A : Type 0} → Repository A → ℕ → Result (List (Phase × Node)) EntryFault → Outcome A
handle_read repo place (Ok entries) = handle_entries repo place entries
handle_read repo place (Err fault) = Err (BadPart place)

-- what it says without the repository: its entries, or that its format has a fault
abbrev pub reading_in : {A : Type 0} → Result (List (Phase × Node)) EntryFault → Reading A
reading_in (Ok entries) = PhaseHeads entries
reading_in (Err fault) = Malformed

-- what a `phase-heads` part says without the repository
abbrev pub read_phase_heads : {A : Type 0} → Part A → Reading A
read_phase_heads part = reading_in (entries_of part.payload)

-- what a `phase-heads` part makes of a repository
abbrev pub handle_phase_heads : {A : Type 0} → Repository A → ℕ → Part A → Outcome A
handle_phase_heads repo place part = handle_read repo place (entries_of part.payload)
