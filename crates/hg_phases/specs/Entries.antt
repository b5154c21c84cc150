-- Entries of a phase and an id: their bytes, and what a payload gives.
use Rattle.std.specs.Prelude.{◌≡◌, ◌⊎◌, ◌/◌, ◌%◌, ℕ, ◌==◌, Bool, List, ◌++◌, length, take, drop}
use Rattle.std.specs.Prelude.{Option, option_map, is_some, Result, Ok, Err, MatchResult, if◌then◌else◌}
use Rattle.std.specs.List.{flat_map, filter_map, list_all}
use Rattle.std.specs.Int.{w32, to_be_bytes, from_be_bytes}
use Rattle.std.specs.Simd.{first_chunks}
use Rattle.hg_types.specs.declared.node.Node.{Node}
use Rattle.hg_types.specs.declared.phase.Phase.{Phase}
use Rattle.hg_types.specs.Phase.{number_of}
use Rattle.hg_phases.specs.declared.fault.EntryFault.{EntryFault}
use Rattle.hg_phases.specs.declared.fault.EntryFault.TheVariants.{Short, BadPhase, NoMemory}
use Rattle.hg_phases.specs.Order.{phase_from}

-- the number of the phase in four bytes, the most significant first, and the id
abbrev pub entry_bytes : Phase × Node → List ℕ
entry_bytes entry = to_be_bytes w32 (number_of entry.0) ++ entry.1.0

-- the bytes are those of these entries, joined
abbrev pub AreEntries : List ℕ → List (Phase × Node) → Type 0
AreEntries bytes entries = bytes ≡ flat_map entry_bytes entries

-- the phase that the first four bytes are the number of
abbrev pub phase_in : List ℕ → Option Phase
phase_in bytes = phase_from (from_be_bytes w32 (take 4 bytes))

-- the id in the twenty bytes after them
abbrev pub node_in : List ℕ → Node
node_in bytes = record { 0 = take 20 (drop 4 bytes) }

-- the entry in 24 bytes, where the first four are the number of a phase
unfoldable pub entry_in : List ℕ → Option (Phase × Node)
entry_in bytes = option_map (λ phase. (phase, node_in bytes)) (phase_in bytes)

-- the bytes are an entry
abbrev pub is_entry : List ℕ → Bool
is_entry bytes = is_some (entry_in bytes)

-- the entries in pieces of 24 bytes, or that one of them has another phase
unfoldable pub entries_in : List (List ℕ) → Result (List (Phase × Node)) EntryFault
entries_in pieces = if list_all is_entry pieces then Ok (filter_map entry_in pieces) else Err BadPhase

-- the entries of a payload, or its fault
unfoldable pub entries_of : List ℕ → Result (List (Phase × Node)) EntryFault
entries_of bytes =
    if length bytes % 24 == 0 then entries_in (first_chunks 24 (length bytes / 24) bytes) else Err Short

-- what a function returned is what reading gives, unless memory was refused
abbrev pub EntriesGive : Result (List (Phase × Node)) EntryFault → Result (List (Phase × Node)) EntryFault → Type 0
EntriesGive result read =
    MatchResult result (λ entries. read ≡ Ok entries) (λ fault. (fault ≡ NoMemory) ⊎ (read ≡ Err fault))
