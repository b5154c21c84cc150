-- The part `changegroup`: its entries become rows, in order, and the phases follow.
use Rattle.std.specs.Prelude.{ℕ, ◌+◌, ◌-◌, Bool, List, [], ◌∷◌, ◌++◌, codes, decimal, Option, Some, None}
use Rattle.std.specs.Prelude.{unwrap_or, Result, Ok, Err, nat_le, if◌then◌else◌}
use Rattle.std.specs.List.{filter_map}
use Rattle.hg_types.specs.declared.entry.Entry.{Entry}
use Rattle.hg_types.specs.declared.limits.Limits.{Limits}
use Rattle.hg_types.specs.declared.limits.Settings.{Settings}
use Rattle.hg_types.specs.declared.part.Part.{Part}
use Rattle.hg_types.specs.declared.part.Param.{Param}
use Rattle.hg_types.specs.declared.phase.Phase.{Phase}
use Rattle.hg_types.specs.declared.phase.Phase.TheVariants.{Public, Draft}
use Rattle.hg_cgroup.specs.Outcome.{outcome_of}
use Rattle.hg_log.specs.declared.add.Added.{Added}
use Rattle.hg_log.specs.declared.add.Added.TheVariants.{New, Known}
use Rattle.hg_log.specs.declared.add.AddFault.{AddFault}
use Rattle.hg_log.specs.Changeset.{Changeset, Log}
use Rattle.hg_log.specs.Parents.{parents_of, rev_of}
use Rattle.hg_log.specs.HeadCount.{head_count}
use Rattle.hg_log.specs.Answer.{answer_of}
use Rattle.hg_keys.specs.PushKey.{phase_in_text}
use Rattle.hg_phases.specs.Phases.{registered, advanced}
use Rattle.hg_parts.specs.declared.prepared.Reading.{Reading}
use Rattle.hg_parts.specs.declared.prepared.Reading.TheVariants.{ChangeGroup, Malformed}
use Rattle.hg_parts.specs.declared.source.Source.{Source}
use Rattle.hg_parts.specs.declared.source.Source.TheVariants.{Push, Seed}
use Rattle.hg_parts.specs.declared.refusal.Refusal.TheVariants.{BadPart, BadChangeset}
use Rattle.hg_parts.specs.Repository.{Repository}
use Rattle.hg_parts.specs.Handled.{Handled, Outcome}
use Rattle.hg_parts.specs.Params.{value_of}
use Rattle.hg_parts.specs.Replies.{reply_part, reply_where}

-- ---- its parameters

-- the phase that `targetphase` names: draft where it is absent, and none where it names no phase
abbrev pub target_in : Option (List ℕ) → Option Phase
target_in None = Some Draft
target_in (Some value) = phase_in_text value

-- the phase that the parameter `targetphase` names; none where it is another value
unfoldable pub target_of : {A : Type 0} → List (Param A) → Option Phase
target_of params = target_in (value_of (codes "targetphase") params)

-- the version that the part names, `01` where it names none
unfoldable pub version_of : {A : Type 0} → List (Param A) → List ℕ
version_of params = unwrap_or (value_of (codes "version") params) (codes "01")

-- the phase that new changesets are registered at: a push has the server's, a seed its own
abbrev pub phase_for : Source → Settings → Phase → Phase
phase_for Push settings target = if settings.publishing then Public else Draft
phase_for Seed settings target = target

-- ---- its entries

-- rows, and the phase of each
pub record Grown : Type 0 where
  pub rows : List Changeset
  pub phases : List Phase

-- what becomes of them where an entry has that answer
abbrev pub grown_by : Phase → List Phase → Result Added AddFault × Log → Result Grown AddFault
grown_by t phases (Ok (New rev), log) =
    Ok (record { rows = log.rows; phases = registered (parents_of log.rows) t phases })
grown_by t phases (Ok Known, log) = Ok (record { rows = log.rows; phases = phases })
grown_by t phases (Err fault, log) = Err fault

-- goes on, where nothing failed yet
abbrev pub then_grow : Result Grown AddFault → (Grown → Result Grown AddFault) → Result Grown AddFault
then_grow (Ok grown) next = next grown
then_grow (Err fault) next = Err fault

-- the entries are added in order, and the first fault is the answer
unfoldable pub add_each : {A : Type 0} → Limits → Phase → List (Entry A) → Grown → Result Grown AddFault
add_each limits t [] grown = Ok grown
add_each limits t (entry ∷ entries) grown =
    then_grow (grown_by t grown.phases (answer_of (record { rows = grown.rows; limits = limits }) entry))
    (add_each limits t entries)

-- the numbers of the changesets of a group, those that were known too; the null id has none
unfoldable pub revs_of : {A : Type 0} → List Changeset → List (Entry A) → List ℕ
revs_of rows entries = filter_map (λ entry. rev_of rows entry.node.0) entries

-- a push advances all changesets of the group, a seed none
abbrev pub phases_after : {A : Type 0} → Source → Phase → List (Entry A) → Grown → List Phase
phases_after Push t entries grown =
    advanced (parents_of grown.rows) t (revs_of grown.rows entries) grown.phases
phases_after Seed t entries grown = grown.phases

-- ---- the part

-- one more than the heads that came, or, where heads went, less than their number below zero
unfoldable pub result_text : ℕ → ℕ → List ℕ
result_text before after =
    if nat_le before after then decimal (after - before + 1) else (codes "-" ++ decimal (before - after + 1))

-- the reply: how the number of heads changed
abbrev pub reply_to_group : {A : Type 0} → Bool → ℕ → ℕ → ℕ → Option (Part A)
reply_to_group replying id before after =
    reply_where replying
    (reply_part (codes "reply:changegroup") id (codes "return") (result_text before after))

-- the repository with the new rows and their phases, and the reply
abbrev pub handled_of : {A : Type 0} → Source → Repository A → Bool → Part A → Phase → List (Entry A)
    → Grown → Handled A
handled_of source repo replying part t entries grown = record {
  repo = record repo { rows = grown.rows; phases = phases_after source t entries grown };
  reply = reply_to_group replying part.id (head_count repo.rows) (head_count grown.rows);
}

-- done where all rows were added, else refused
abbrev pub handled_by : {A : Type 0} → (Grown → Handled A) → ℕ → Result Grown AddFault → Outcome A
handled_by done place (Ok grown) = Ok (done grown)
handled_by done place (Err fault) = Err (BadChangeset place fault)

-- adds each changeset, with that phase
unfoldable pub handle_entries : {A : Type 0} → Source → Repository A → Bool → ℕ → Part A → Phase
    → List (Entry A) → Outcome A
handle_entries source repo replying place part t entries =
    handled_by (handled_of source repo replying part t entries) place
    (add_each repo.settings.limits t entries (record { rows = repo.rows; phases = repo.phases }))

-- as `handle_entries`, where the payload can be read
abbrev pub handle_decoded : {A E : Type 0} → Source → Repository A → Bool → ℕ → Part A → Phase
    → Result (List (Entry A)) E → Outcome A
handle_decoded source repo replying place part target (Ok entries) =
    handle_entries source repo replying place part (phase_for source repo.settings target) entries
handle_decoded source repo replying place part target (Err fault) = Err (BadPart place)

-- as `handle_decoded`, where the parameter names a phase
abbrev pub handle_target : {A : Type 0} → Source → Repository A → Bool → ℕ → Part A → Option Phase → Outcome A
handle_target source repo replying place part (Some target) =
    handle_decoded source repo replying place part target (outcome_of (version_of part.params) part.payload)
handle_target source repo replying place part None = Err (BadPart place)

-- what it says without the repository: the phase that is named and its entries, or that its format has a
-- fault
abbrev pub reading_in : {A E : Type 0} → Option Phase → Result (List (Entry A)) E → Reading A
reading_in (Some target) (Ok entries) = ChangeGroup target entries
reading_in (Some target) (Err fault) = Malformed
reading_in None decoded = Malformed

-- what a changegroup says without the repository
abbrev pub read_changegroup : {A : Type 0} → Part A → Reading A
read_changegroup part = reading_in (target_of part.params) (outcome_of (version_of part.params) part.payload)

-- what was read meets the repository
abbrev pub handle_group : {A : Type 0} → Source → Repository A → Bool → ℕ → Part A → Phase → List (Entry A)
    → Outcome A
handle_group source repo replying place part target entries =
    handle_entries source repo replying place part (phase_for source repo.settings target) entries

-- first the faults of the format, then those against the repository
abbrev pub handle_changegroup : {A : Type 0} → Source → Repository A → Bool → ℕ → Part A → Outcome A
handle_changegroup source repo replying place part =
    handle_target source repo replying place part (target_of part.params)
