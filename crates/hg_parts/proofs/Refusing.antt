-- Which parts can be refused, and how, for each type of part.
use Rattle.std.proofs.Common.{◌≡◌, ◌≢◌, ℕ, Bool, true, false, cond, not, ◌&&◌, List, [], ◌∷◌, Option, Some}
use Rattle.std.proofs.Common.{None, Result, Ok, Err, ok_or, refl, ap, subst, length, inl, inr, bytes_eq}
use Rattle.std.proofs.Common.{nat_le}
use Rattle.hg_types.specs.declared.node.Node.{Node}
use Rattle.hg_types.specs.declared.entry.Entry.{Entry}
use Rattle.hg_types.specs.declared.limits.Limits.{Limits}
use Rattle.hg_types.specs.declared.part.Part.{Part}
use Rattle.hg_types.specs.declared.phase.Phase.{Phase}
use Rattle.hg_log.specs.declared.add.Added.{Added}
use Rattle.hg_log.specs.declared.add.Added.TheVariants.{New, Known}
use Rattle.hg_log.specs.declared.add.AddFault.{AddFault}
use Rattle.hg_log.specs.declared.add.AddFault.TheVariants as add
use Rattle.hg_log.specs.Answer as answer
use Rattle.hg_log.specs.Answer.{◌>>=◌}
use Rattle.hg_log.specs.Changeset.{Changeset, Log}
use Rattle.hg_log.specs.NodeId.{node_id_of}
use Rattle.hg_phases.specs.declared.fault.EntryFault.{EntryFault}
use Rattle.hg_phases.specs.Entries.{entries_of}
use Rattle.hg_obs.specs.declared.fault.MarkerFault.{MarkerFault}
use Rattle.hg_obs.specs.declared.marker.Marker.{Marker}
use Rattle.hg_obs.specs.Reading.{markers_of}
use Rattle.hg_keys.specs.declared.fault.KeyFault.{KeyFault}
use Rattle.hg_keys.specs.declared.keys.KeyCall.{KeyCall}
use Rattle.hg_keys.specs.Bookmarks.{Pairs}
use Rattle.hg_keys.specs.Payload as bookmark
use Rattle.hg_keys.specs.PushKey.{Keys, key_pushed}
use Rattle.hg_checks.specs.declared.kind.CheckKind.{CheckKind}
use Rattle.hg_checks.specs.declared.fault.CheckFault.{CheckFault}
use Rattle.hg_checks.specs.declared.fault.CheckFault.TheVariants as check
use Rattle.hg_checks.specs.Checked.{Answer}
use Rattle.hg_checks.specs.Checks.{checked as answer_to, CanTell}
use Rattle.hg_cgroup.specs.Outcome.{outcome_of}
use Rattle.hg_parts.specs.declared.source.Source.{Source}
use Rattle.hg_parts.specs.declared.refusal.Refusal.{Refusal}
use Rattle.hg_parts.specs.declared.table.PartType.{PartType}
use Rattle.hg_parts.specs.declared.table.PartType.TheVariants.{ReplyCaps, Check}
use Rattle.hg_parts.specs.declared.table.PartType.TheVariants.{ChangeGroup, PhaseHeads, Bookmarks, Obsmarkers}
use Rattle.hg_parts.specs.declared.table.PartType.TheVariants.{Pushkey}
use Rattle.hg_parts.specs.declared.table.PartType.TheVariants.{Output, ErrorAbort}
use Rattle.hg_parts.specs.Repository.{Repository}
use Rattle.hg_parts.specs.Handled.{Outcome}
use Rattle.hg_parts.specs.PartTypes.{Support, Supported, Unsupported, is_mandatory, race_text, support_of}
use Rattle.hg_parts.specs.parts.Unsupported.{handle_unsupported}
use Rattle.hg_parts.specs.parts.Check.{handle_checked}
use Rattle.hg_parts.specs.parts.Changegroup as changegroup
use Rattle.hg_parts.specs.parts.PhaseHeads as phase_heads
use Rattle.hg_parts.specs.parts.Bookmarks as bookmarks
use Rattle.hg_parts.specs.parts.Obsmarkers as obsmarkers
use Rattle.hg_parts.specs.parts.Pushkey as pushkey
use Rattle.hg_parts.specs.Handle.{handle, handle_as, handle_supported}
use Rattle.hg_parts.specs.Refusing.{CanBeRefused}

-- ---- a changeset is not refused for lack of memory

abbrev pub IsPlain : {X : Type 0} → Result X AddFault → Type 0
IsPlain (Ok x) = Unit {0}
IsPlain (Err fault) = fault ≢ add.NoMemory

plain_choice : {X : Type 0} (test : Bool) (x y : Result X AddFault) → IsPlain x → IsPlain y
    → IsPlain (cond test x y)
plain_choice true x y first second = first
plain_choice false x y first second = second

plain_next : {X Y : Type 0} (x : Result X AddFault) (f : X → Result Y AddFault) → IsPlain x
    → ((it : X) → IsPlain (f it)) → IsPlain (x >>= f)
plain_next (Ok it) f first rest = rest it
plain_next (Err fault) f first rest = first

plain_option : {X : Type 0} (x : Option X) → IsPlain (ok_or x add.UnknownBase)
plain_option (Some it) = tt
plain_option None = λ is. cc

plain_told : (told : _) → IsPlain (answer.told_text told)
plain_told (Ok text) = tt
plain_told (Err fault) = λ is. cc

abbrev pub IsPlainAnswer : Result Added AddFault × Log → Type 0
IsPlainAnswer given = IsPlain given.0

plain_answered : (log : Log) (row : Result Changeset AddFault) → IsPlain row
    → IsPlainAnswer (answer.answered log row)
plain_answered log (Ok row) plain = tt
plain_answered log (Err fault) plain = plain

plain_one : (test : Bool) (x y : Result Added AddFault × Log) → IsPlainAnswer x → IsPlainAnswer y
    → IsPlainAnswer (cond test x y)
plain_one true x y first second = first
plain_one false x y first second = second

plain_grown : (t : Phase) (phases : List Phase) (given : Result Added AddFault × Log) → IsPlainAnswer given
    → IsPlain (changegroup.grown_by t phases given)
plain_grown t phases (Ok (New rev), log) plain = tt
plain_grown t phases (Ok Known, log) plain = tt
plain_grown t phases (Err fault, log) plain = plain

plain_rest : (grown : Result changegroup.Grown AddFault)
    (next : changegroup.Grown → Result changegroup.Grown AddFault) → IsPlain grown
    → ((it : changegroup.Grown) → IsPlain (next it)) → IsPlain (changegroup.then_grow grown next)
plain_rest (Ok it) next first rest = rest it
plain_rest (Err fault) next first rest = first

module _ {A : Type 0} where
  plain_text : (log : Log) (entry : Entry A) → IsPlain (answer.text_of log entry)
  unfolding answer.text_of
  plain_text log entry = plain_next (ok_or (answer.text_by_id log.rows entry.base.0) add.UnknownBase) _
      (plain_option (answer.text_by_id log.rows entry.base.0))
      (λ base. plain_told _)

  plain_checked : (log : Log) (entry : Entry A) (text : List ℕ) → IsPlain (answer.checked_row log entry text)
  unfolding answer.checked_row
  plain_checked log entry text =
      plain_choice (not (bytes_eq entry.node.0 (node_id_of entry.p1.0 entry.p2.0 text))) _ _ (λ is. cc)
      (plain_choice (nat_le log.limits.revisions (length log.rows)) _ _ (λ is. cc) tt)

  plain_row : (log : Log) (entry : Entry A) → IsPlain (answer.new_row log entry)
  unfolding answer.new_row
  plain_row log entry =
      plain_choice (not (answer.is_known log.rows entry.p1.0 && answer.is_known log.rows entry.p2.0)) _ _
      (λ is. cc)
      (plain_next (answer.text_of log entry) (answer.checked_row log entry) (plain_text log entry)
      (plain_checked log entry))

  plain_answer : (log : Log) (entry : Entry A) → IsPlainAnswer (answer.answer_of log entry)
  unfolding answer.answer_of
  plain_answer log entry = plain_one (answer.is_known log.rows entry.node.0) _ _ tt
      (plain_answered log (answer.new_row log entry) (plain_row log entry))

  plain_each : (limits : Limits) (t : Phase) (entries : List (Entry A)) (grown : changegroup.Grown)
      → IsPlain (changegroup.add_each limits t entries grown)
  unfolding changegroup.add_each
  plain_each limits t [] grown = tt
  plain_each limits t (entry ∷ entries) grown =
      let given : Result Added AddFault × Log =
      answer.answer_of (record { rows = grown.rows; limits = limits }) entry in
      plain_rest (changegroup.grown_by t grown.phases given) (changegroup.add_each limits t entries)
      (plain_grown t grown.phases given (plain_answer (record { rows = grown.rows; limits = limits }) entry))
      (plain_each limits t entries)

-- ---- each type of part

-- what the crate of checks says of the faults of each kind: its law, as a call gives it
abbrev pub ChecksTell : Type 0
ChecksTell = (kind : CheckKind) (rows : List Changeset) (phases : List Phase) (pairs : Pairs)
    (payload : List ℕ) (fault : CheckFault) → answer_to kind rows phases pairs payload ≡ Err fault
    → CanTell kind fault

module _ {A : Type 0} where
  -- where the part is refused, it can be refused so
  abbrev pub RefusesAs : ℕ → Support → Outcome A → Type 0
  RefusesAs place support (Ok given) = Unit {0}
  RefusesAs place support (Err refusal) = CanBeRefused place support refusal

  one_or_other : (place : ℕ) (support : Support) (test : Bool) (x y : Outcome A) → RefusesAs place support x
      → RefusesAs place support y → RefusesAs place support (cond test x y)
  one_or_other place support true x y first second = first
  one_or_other place support false x y first second = second

  unsupported : (repo : Repository A) (place : ℕ) (part : Part A) (names : List (List ℕ))
      → RefusesAs place (Unsupported names) (handle_unsupported repo place part names)
  unsupported repo place part names =
      one_or_other place (Unsupported names) (is_mandatory part.kind) _ _ (refl, (names, refl, refl)) tt

  -- a check tells a fault that its kind can tell
  checked : (repo : Repository A) (place : ℕ) (kind : CheckKind) (answer : Answer)
      → ((fault : CheckFault) → answer ≡ Err fault → CanTell kind fault)
      → RefusesAs place (Supported (Check kind)) (handle_checked repo place (race_text kind) answer)
  checked repo place kind (Ok content) can = tt
  checked repo place kind (Err check.Raced) can = (refl, (kind, refl, refl))
  checked repo place kind (Err check.Short) can =
      (refl, (Check kind, refl, ((λ is. cc), (λ is. cc), λ is. cc)))
  checked repo place kind (Err check.BadPhase) can =
      (refl, (Check kind, refl, ((λ is. cc), (λ is. cc), λ is. cc)))
  checked repo place kind (Err check.UnknownNode) can = (
    refl,
    (
      Check kind,
      refl,
      elim (can check.UnknownNode refl) [
        | inl is ↦ inl (ap Check is)
        | inr is ↦ inr (inl (ap Check is))
      ],
    ),
  )
  checked repo place kind (Err check.NoMemory) can = absurd (can check.NoMemory refl)

  phase_entries : (repo : Repository A) (place : ℕ) (entries : Result (List (Phase × Node)) EntryFault)
      → RefusesAs place (Supported PhaseHeads) (phase_heads.handle_read repo place entries)
  phase_entries repo place (Ok entries) =
      one_or_other place (Supported PhaseHeads) (phase_heads.are_known repo.rows entries) _ _ tt
      (refl, (PhaseHeads, refl, inr (inr (inl refl))))
  phase_entries repo place (Err fault) = (refl, (PhaseHeads, refl, ((λ is. cc), (λ is. cc), λ is. cc)))

  bookmark_entries : (repo : Repository A) (place : ℕ) (entries : Option (List bookmark.Entry))
      → RefusesAs place (Supported Bookmarks) (bookmarks.handle_read repo place entries)
  bookmark_entries repo place (Some entries) =
      one_or_other place (Supported Bookmarks) (bookmarks.are_known repo.rows entries) _ _ tt
      (refl, (Bookmarks, refl, inr (inr (inr refl))))
  bookmark_entries repo place None = (refl, (Bookmarks, refl, ((λ is. cc), (λ is. cc), λ is. cc)))

  markers : (repo : Repository A) (replying : Bool) (place : ℕ) (part : Part A)
      (added : Result (List (Marker A)) MarkerFault)
      → RefusesAs place (Supported Obsmarkers) (obsmarkers.handle_read repo replying place part added)
  markers repo replying place part (Ok added) = tt
  markers repo replying place part (Err fault) = (refl, (Obsmarkers, refl, ((λ is. cc), (λ is. cc), λ is. cc)))

  pushed : (repo : Repository A) (replying : Bool) (place : ℕ) (part : Part A) (call : KeyCall A)
      (given : Result (Keys A × Bool) KeyFault)
      → RefusesAs place (Supported Pushkey) (pushkey.handle_pushed repo replying place part call given)
  pushed repo replying place part call (Ok (keys, done)) =
      one_or_other place (Supported Pushkey) (pushkey.is_refused part done) _ _ (refl, refl) tt
  pushed repo replying place part call (Err fault) =
      (refl, (Pushkey, refl, ((λ is. cc), (λ is. cc), λ is. cc)))

  key_call : (repo : Repository A) (replying : Bool) (place : ℕ) (part : Part A) (call : Option (KeyCall A))
      → RefusesAs place (Supported Pushkey) (pushkey.handle_call repo replying place part call)
  key_call repo replying place part (Some call) =
      pushed repo replying place part call (key_pushed repo.rows (pushkey.keys_of repo) call)
  key_call repo replying place part None = (refl, (Pushkey, refl, ((λ is. cc), (λ is. cc), λ is. cc)))

  group_added : (source : Source) (repo : Repository A) (replying : Bool) (place : ℕ) (part : Part A)
      (t : Phase) (entries : List (Entry A)) (given : Result changegroup.Grown AddFault) → IsPlain given
      → RefusesAs place (Supported ChangeGroup)
      (changegroup.handled_by (changegroup.handled_of source repo replying part t entries) place given)
  group_added source repo replying place part t entries (Ok grown) plain = tt
  group_added source repo replying place part t entries (Err fault) plain = (refl, refl, plain)

  group_entries : (source : Source) (repo : Repository A) (replying : Bool) (place : ℕ) (part : Part A)
      (t : Phase) (entries : List (Entry A))
      → RefusesAs place (Supported ChangeGroup)
      (changegroup.handle_entries source repo replying place part t entries)
  unfolding changegroup.handle_entries
  group_entries source repo replying place part t entries =
      group_added source repo replying place part t entries _
      (plain_each repo.settings.limits t entries (record { rows = repo.rows; phases = repo.phases }))

  decoded : {E : Type 0} (source : Source) (repo : Repository A) (replying : Bool) (place : ℕ) (part : Part A)
      (target : Phase) (entries : Result (List (Entry A)) E)
      → RefusesAs place (Supported ChangeGroup)
      (changegroup.handle_decoded source repo replying place part target entries)
  decoded source repo replying place part target (Ok entries) =
      group_entries source repo replying place part _ entries
  decoded source repo replying place part target (Err fault) =
      (refl, (ChangeGroup, refl, ((λ is. cc), (λ is. cc), λ is. cc)))

  targeted : (source : Source) (repo : Repository A) (replying : Bool) (place : ℕ) (part : Part A)
      (target : Option Phase) → RefusesAs place (Supported ChangeGroup)
      (changegroup.handle_target source repo replying place part target)
  targeted source repo replying place part (Some target) =
      decoded source repo replying place part target
      (outcome_of (changegroup.version_of part.params) part.payload)
  targeted source repo replying place part None =
      (refl, (ChangeGroup, refl, ((λ is. cc), (λ is. cc), λ is. cc)))

module _ {A : Type 0} (tell : ChecksTell) where
  supported : (source : Source) (repo : Repository A) (replying : Bool) (place : ℕ) (part : Part A)
      (part_type : PartType) → RefusesAs place (Supported part_type)
      (handle_supported source repo replying place part part_type)
  supported source repo replying place part ReplyCaps = tt
  supported source repo replying place part (Check kind) =
      checked repo place kind (answer_to kind repo.rows repo.phases repo.bookmarks part.payload)
      (tell kind repo.rows repo.phases repo.bookmarks part.payload)
  supported source repo replying place part PhaseHeads = phase_entries repo place (entries_of part.payload)
  supported source repo replying place part Bookmarks =
      bookmark_entries repo place (bookmark.entries_of part.payload)
  supported source repo replying place part Obsmarkers =
      markers repo replying place part (markers_of part.payload)
  supported source repo replying place part ChangeGroup =
      targeted source repo replying place part (changegroup.target_of part.params)
  supported source repo replying place part Pushkey =
      key_call repo replying place part (pushkey.call_of part.params)
  supported source repo replying place part Output = tt
  supported source repo replying place part ErrorAbort = (refl, refl)

  handled_as : (source : Source) (repo : Repository A) (replying : Bool) (place : ℕ) (part : Part A)
      (support : Support) → RefusesAs place support (handle_as source repo replying place part support)
  handled_as source repo replying place part (Supported part_type) =
      supported source repo replying place part part_type
  handled_as source repo replying place part (Unsupported names) = unsupported repo place part names

  pub refused_so : (source : Source) (repo : Repository A) (replying : Bool) (place : ℕ) (part : Part A)
      (refusal : Refusal A) → handle source repo replying place part ≡ Err refusal
      → CanBeRefused place (support_of part) refusal
  refused_so source repo replying place part refusal is = subst (RefusesAs place (support_of part)) is
      (handled_as source repo replying place part (support_of part))
