-- A run leaves the settings of a repository as they are, whatever the types of its parts.
use Rattle.std.proofs.Common.{◌≡◌, ◌∙◌, ◌+◌, ℕ, Bool, true, false, cond, List, [], ◌∷◌, Option, Some, None}
use Rattle.std.proofs.Common.{Result, Ok, Err, ap, refl, subst, sym}
use Rattle.hg_types.specs.declared.entry.Entry.{Entry}
use Rattle.hg_store.specs.Entries.{Entry as Recorded}
use Rattle.hg_types.specs.declared.limits.Limits.{Limits}
use Rattle.hg_types.specs.declared.node.Node.{Node}
use Rattle.hg_types.specs.declared.part.Part.{Part}
use Rattle.hg_types.specs.declared.phase.Phase.{Phase}
use Rattle.hg_log.specs.declared.add.AddFault.{AddFault}
use Rattle.hg_phases.specs.declared.fault.EntryFault.{EntryFault}
use Rattle.hg_phases.specs.Entries.{entries_of}
use Rattle.hg_obs.specs.declared.fault.MarkerFault.{MarkerFault}
use Rattle.hg_obs.specs.declared.marker.Marker.{Marker}
use Rattle.hg_obs.specs.Reading.{markers_of}
use Rattle.hg_keys.specs.declared.fault.KeyFault.{KeyFault}
use Rattle.hg_keys.specs.declared.keys.KeyCall.{KeyCall}
use Rattle.hg_keys.specs.Payload as bookmark
use Rattle.hg_keys.specs.PushKey.{Keys, key_pushed}
use Rattle.hg_checks.specs.Checked.{Answer}
use Rattle.hg_checks.specs.Checks.{checked as answer_to}
use Rattle.hg_cgroup.specs.Outcome.{outcome_of}
use Rattle.hg_parts.specs.declared.source.Source.{Source}
use Rattle.hg_parts.specs.declared.refusal.RaceText.{RaceText}
use Rattle.hg_parts.specs.declared.refusal.Refusal.{Refusal}
use Rattle.hg_parts.specs.declared.table.PartType.{PartType}
use Rattle.hg_parts.specs.declared.table.PartType.TheVariants.{ReplyCaps, Check}
use Rattle.hg_parts.specs.declared.table.PartType.TheVariants.{ChangeGroup, PhaseHeads, Bookmarks, Obsmarkers}
use Rattle.hg_parts.specs.declared.table.PartType.TheVariants.{Pushkey}
use Rattle.hg_parts.specs.declared.table.PartType.TheVariants.{Output, ErrorAbort}
use Rattle.hg_parts.specs.Repository.{Repository}
use Rattle.hg_parts.specs.Handled.{Handled, Outcome}
use Rattle.hg_parts.specs.PartTypes.{Support, Supported, Unsupported, is_mandatory, race_text, support_of}
use Rattle.hg_parts.specs.parts.Unsupported.{handle_unsupported}
use Rattle.hg_parts.specs.parts.Check.{handle_checked}
use Rattle.hg_parts.specs.parts.Changegroup as changegroup
use Rattle.hg_parts.specs.parts.PhaseHeads as phase_heads
use Rattle.hg_parts.specs.parts.Bookmarks as bookmarks
use Rattle.hg_parts.specs.parts.Obsmarkers as obsmarkers
use Rattle.hg_parts.specs.parts.Pushkey as pushkey
use Rattle.hg_parts.specs.Handle.{handle, handle_as, handle_supported}
use Rattle.hg_repo.specs.declared.done.Done.{Done}
use Rattle.hg_repo.specs.Run.{Progress, start, progress_after, and_then, run_from, run_of, done_by}
use Rattle.hg_push.specs.Run.{run_push}
use Rattle.hg_recovery.specs.Replays.{Replays}

module _ {A : Type 0} where
  -- ---- parts

  -- the settings are the same, where the part is handled
  abbrev Stays : Repository A → Outcome A → Type 0
  Stays repo (Ok given) = given.repo.settings ≡ repo.settings
  Stays repo (Err refusal) = Unit {0}

  one_or_other : (repo : Repository A) (test : Bool) (x y : Outcome A) → Stays repo x → Stays repo y
      → Stays repo (cond test x y)
  one_or_other repo true x y first second = first
  one_or_other repo false x y first second = second

  unsupported : (repo : Repository A) (place : ℕ) (part : Part A) (names : List (List ℕ))
      → Stays repo (handle_unsupported repo place part names)
  unsupported repo place part names = one_or_other repo (is_mandatory part.kind) _ _ tt refl

  checked : (repo : Repository A) (place : ℕ) (text : RaceText) (answer : Answer)
      → Stays repo (handle_checked repo place text answer)
  checked repo place text (Ok content) = refl
  checked repo place text (Err fault) = tt

  phase_entries : (repo : Repository A) (place : ℕ) (entries : Result (List (Phase × Node)) EntryFault)
      → Stays repo (phase_heads.handle_read repo place entries)
  phase_entries repo place (Ok entries) =
      one_or_other repo (phase_heads.are_known repo.rows entries) _ _ refl tt
  phase_entries repo place (Err fault) = tt

  bookmark_entries : (repo : Repository A) (place : ℕ) (entries : Option (List bookmark.Entry))
      → Stays repo (bookmarks.handle_read repo place entries)
  bookmark_entries repo place (Some entries) =
      one_or_other repo (bookmarks.are_known repo.rows entries) _ _ refl tt
  bookmark_entries repo place None = tt

  markers : (repo : Repository A) (replying : Bool) (place : ℕ) (part : Part A)
      (added : Result (List (Marker A)) MarkerFault)
      → Stays repo (obsmarkers.handle_read repo replying place part added)
  markers repo replying place part (Ok added) = refl
  markers repo replying place part (Err fault) = tt

  pushed : (repo : Repository A) (replying : Bool) (place : ℕ) (part : Part A) (call : KeyCall A)
      (answer : Result (Keys A × Bool) KeyFault)
      → Stays repo (pushkey.handle_pushed repo replying place part call answer)
  pushed repo replying place part call (Ok (keys, done)) =
      one_or_other repo (pushkey.is_refused part done) _ _ tt refl
  pushed repo replying place part call (Err fault) = tt

  key_call : (repo : Repository A) (replying : Bool) (place : ℕ) (part : Part A) (call : Option (KeyCall A))
      → Stays repo (pushkey.handle_call repo replying place part call)
  key_call repo replying place part (Some call) =
      pushed repo replying place part call (key_pushed repo.rows (pushkey.keys_of repo) call)
  key_call repo replying place part None = tt

  group_added : (source : Source) (repo : Repository A) (replying : Bool) (place : ℕ) (part : Part A)
      (t : Phase) (entries : List (Entry A)) (result : Result changegroup.Grown AddFault) → Stays repo
      (changegroup.handled_by (changegroup.handled_of source repo replying part t entries) place result)
  group_added source repo replying place part t entries (Ok grown) = refl
  group_added source repo replying place part t entries (Err fault) = tt

  group_entries : (source : Source) (repo : Repository A) (replying : Bool) (place : ℕ) (part : Part A)
      (t : Phase) (entries : List (Entry A))
      → Stays repo (changegroup.handle_entries source repo replying place part t entries)
  unfolding changegroup.handle_entries
  group_entries source repo replying place part t entries =
      group_added source repo replying place part t entries _

  decoded : {E : Type 0} (source : Source) (repo : Repository A) (replying : Bool) (place : ℕ) (part : Part A)
      (target : Phase) (entries : Result (List (Entry A)) E)
      → Stays repo (changegroup.handle_decoded source repo replying place part target entries)
  decoded source repo replying place part target (Ok entries) =
      group_entries source repo replying place part _ entries
  decoded source repo replying place part target (Err fault) = tt

  targeted : (source : Source) (repo : Repository A) (replying : Bool) (place : ℕ) (part : Part A)
      (target : Option Phase) → Stays repo (changegroup.handle_target source repo replying place part target)
  targeted source repo replying place part (Some target) =
      decoded source repo replying place part target
      (outcome_of (changegroup.version_of part.params) part.payload)
  targeted source repo replying place part None = tt

  supported : (source : Source) (repo : Repository A) (replying : Bool) (place : ℕ) (part : Part A)
      (part_type : PartType) → Stays repo (handle_supported source repo replying place part part_type)
  supported source repo replying place part ReplyCaps = refl
  supported source repo replying place part (Check kind) =
      checked repo place (race_text kind) (answer_to kind repo.rows repo.phases repo.bookmarks part.payload)
  supported source repo replying place part PhaseHeads = phase_entries repo place (entries_of part.payload)
  supported source repo replying place part Bookmarks =
      bookmark_entries repo place (bookmark.entries_of part.payload)
  supported source repo replying place part Obsmarkers =
      markers repo replying place part (markers_of part.payload)
  supported source repo replying place part ChangeGroup =
      targeted source repo replying place part (changegroup.target_of part.params)
  supported source repo replying place part Pushkey =
      key_call repo replying place part (pushkey.call_of part.params)
  supported source repo replying place part Output = refl
  supported source repo replying place part ErrorAbort = tt

  handled_as : (source : Source) (repo : Repository A) (replying : Bool) (place : ℕ) (part : Part A)
      (support : Support) → Stays repo (handle_as source repo replying place part support)
  handled_as source repo replying place part (Supported part_type) =
      supported source repo replying place part part_type
  handled_as source repo replying place part (Unsupported names) = unsupported repo place part names

  part_stays : (source : Source) (repo : Repository A) (replying : Bool) (place : ℕ) (part : Part A)
      (given : Handled A) → handle source repo replying place part ≡ Ok given
      → given.repo.settings ≡ repo.settings
  part_stays source repo replying place part given is = subst (Stays repo) is
      (handled_as source repo replying place part (support_of part))

  -- ---- runs

  -- the settings are the same, where the run is done
  abbrev RunStays : Repository A → Result (Progress A) (Refusal A) → Type 0
  RunStays repo (Ok progress) = progress.repo.settings ≡ repo.settings
  RunStays repo (Err refusal) = Unit {0}

  run_stays : (source : Source) (place : ℕ) (progress : Progress A) (parts : List (Part A))
      → RunStays progress.repo (run_from source place progress parts)
  run_stays source place progress [] = refl
  run_stays source place progress (part ∷ parts) =
      by (handle source progress.repo progress.replying place part) refl
      (λ given. run_stays source (place + 1) (progress_after place progress part given) parts)
    where
      on : (given : Handled A) (last : Result (Progress A) (Refusal A))
          → given.repo.settings ≡ progress.repo.settings
          → RunStays given.repo last → RunStays progress.repo last
      on given (Ok last) first rest = rest ∙ first
      on given (Err refusal) first rest = tt

      by : (result : Outcome A) → handle source progress.repo progress.replying place part ≡ result
          → ((given : Handled A) → RunStays given.repo (run_from source (place + 1) (progress_after place progress part given) parts))
          → RunStays progress.repo
          (and_then result (λ given. run_from source (place + 1) (progress_after place progress part given) parts))
      by (Ok given) is rest =
          on given (run_from source (place + 1) (progress_after place progress part given) parts)
          (part_stays source progress.repo progress.replying place part given is) (rest given)
      by (Err refusal) is rest = tt

  -- the settings are the same, where the push is done
  abbrev PushStays : Repository A → Result (Repository A × Done A) (Refusal A) → Type 0
  PushStays repo (Ok done) = done.0.settings ≡ repo.settings
  PushStays repo (Err refusal) = Unit {0}

  push_stays : (repo : Repository A) (ps : List (Part A)) → PushStays repo (run_push repo ps)
  unfolding run_of
  push_stays repo ps = by (run_from _ 0 (start repo) ps) (run_stays _ 0 (start repo) ps)
    where
      by : (result : Result (Progress A) (Refusal A)) → RunStays repo result
          → PushStays repo (done_by result)
      by (Ok progress) same = same
      by (Err refusal) same = tt

  pub of_push : (repo new : Repository A) (ps : List (Part A)) (done : Done A)
      → run_push repo ps ≡ Ok (new, done) → new.settings ≡ repo.settings
  of_push repo new ps done is = subst (PushStays repo) is (push_stays repo ps)

  pub of_records : (limits : Limits) (first last : Repository A) (records : List Recorded)
      → Replays limits first records last → last.settings ≡ first.settings
  of_records limits first last [] same = sym (ap (λ (repo : Repository A). repo.settings) same)
  of_records limits first last (entry ∷ others) ran =
      of_records limits ran.0 last others ran.2
      ∙ of_push first ran.0 ran.1.parts ran.1.done ran.1.ran
