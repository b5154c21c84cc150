-- The reply that a part leaves has no payload, for each type of part.
use Rattle.std.proofs.Common.{◌≡◌, ℕ, Bool, true, false, cond, List, [], Option, Some, None, Result}
use Rattle.std.proofs.Common.{Ok, Err, IfSome, refl, subst}
use Rattle.hg_types.specs.declared.node.Node.{Node}
use Rattle.hg_types.specs.declared.entry.Entry.{Entry}
use Rattle.hg_types.specs.declared.part.Part.{Part}
use Rattle.hg_types.specs.declared.phase.Phase.{Phase}
use Rattle.hg_log.specs.declared.add.AddFault.{AddFault}
use Rattle.hg_phases.specs.declared.fault.EntryFault.{EntryFault}
use Rattle.hg_obs.specs.declared.fault.MarkerFault.{MarkerFault}
use Rattle.hg_obs.specs.declared.marker.Marker.{Marker}
use Rattle.hg_keys.specs.declared.fault.KeyFault.{KeyFault}
use Rattle.hg_keys.specs.declared.keys.KeyCall.{KeyCall}
use Rattle.hg_keys.specs.Payload as bookmark
use Rattle.hg_keys.specs.PushKey.{Keys, key_pushed}
use Rattle.hg_checks.specs.Checked.{Answer}
use Rattle.hg_checks.specs.Checks.{checked as answer_to}
use Rattle.hg_cgroup.specs.Outcome.{outcome_of}
use Rattle.hg_phases.specs.Entries.{entries_of}
use Rattle.hg_obs.specs.Reading.{markers_of}
use Rattle.hg_parts.specs.declared.source.Source.{Source}
use Rattle.hg_parts.specs.declared.refusal.RaceText.{RaceText}
use Rattle.hg_parts.specs.declared.table.PartType.{PartType}
use Rattle.hg_parts.specs.declared.table.PartType.TheVariants.{ReplyCaps, Check}
use Rattle.hg_parts.specs.declared.table.PartType.TheVariants.{ChangeGroup, PhaseHeads, Bookmarks, Obsmarkers}
use Rattle.hg_parts.specs.declared.table.PartType.TheVariants.{Pushkey}
use Rattle.hg_parts.specs.declared.table.PartType.TheVariants.{Output, ErrorAbort}
use Rattle.hg_parts.specs.Repository.{Repository}
use Rattle.hg_parts.specs.Handled.{Handled, Outcome}
use Rattle.hg_parts.specs.PartTypes.{Support, Supported, Unsupported, is_mandatory, race_text, support_of}
use Rattle.hg_parts.specs.Replies.{reply_part, reply_where}
use Rattle.hg_parts.specs.parts.Unsupported.{handle_unsupported}
use Rattle.hg_parts.specs.parts.Check.{handle_checked}
use Rattle.hg_parts.specs.parts.Changegroup as changegroup
use Rattle.hg_parts.specs.parts.PhaseHeads as phase_heads
use Rattle.hg_parts.specs.parts.Bookmarks as bookmarks
use Rattle.hg_parts.specs.parts.Obsmarkers as obsmarkers
use Rattle.hg_parts.specs.parts.Pushkey as pushkey
use Rattle.hg_parts.specs.Handle.{handle, handle_as, handle_supported}

module _ {A : Type 0} where
  -- where a part is handled, its reply has no payload
  abbrev pub LeavesBare : Outcome A → Type 0
  LeavesBare (Ok given) = IfSome given.reply (λ reply. reply.payload ≡ [])
  LeavesBare (Err refusal) = Unit {0}

  one_or_other : (test : Bool) (x y : Outcome A) → LeavesBare x → LeavesBare y → LeavesBare (cond test x y)
  one_or_other true x y first second = first
  one_or_other false x y first second = second

  bare_where : (replying : Bool) (reply : Part A) → reply.payload ≡ []
      → IfSome (reply_where replying reply) (λ reply. reply.payload ≡ [])
  bare_where true reply bare = bare
  bare_where false reply bare = tt

  unsupported : (repo : Repository A) (place : ℕ) (part : Part A) (names : List (List ℕ))
      → LeavesBare (handle_unsupported repo place part names)
  unsupported repo place part names = one_or_other (is_mandatory part.kind) _ _ tt tt

  checked : (repo : Repository A) (place : ℕ) (text : RaceText) (answer : Answer)
      → LeavesBare (handle_checked repo place text answer)
  checked repo place text (Ok content) = tt
  checked repo place text (Err fault) = tt

  phase_entries : (repo : Repository A) (place : ℕ) (entries : Result (List (Phase × Node)) EntryFault)
      → LeavesBare (phase_heads.handle_read repo place entries)
  phase_entries repo place (Ok entries) = one_or_other (phase_heads.are_known repo.rows entries) _ _ tt tt
  phase_entries repo place (Err fault) = tt

  bookmark_entries : (repo : Repository A) (place : ℕ) (entries : Option (List bookmark.Entry))
      → LeavesBare (bookmarks.handle_read repo place entries)
  bookmark_entries repo place (Some entries) = one_or_other (bookmarks.are_known repo.rows entries) _ _ tt tt
  bookmark_entries repo place None = tt

  markers : (repo : Repository A) (replying : Bool) (place : ℕ) (part : Part A)
      (added : Result (List (Marker A)) MarkerFault)
      → LeavesBare (obsmarkers.handle_read repo replying place part added)
  unfolding reply_part
  markers repo replying place part (Ok added) = bare_where replying _ refl
  markers repo replying place part (Err fault) = tt

  pushed : (repo : Repository A) (replying : Bool) (place : ℕ) (part : Part A) (call : KeyCall A)
      (answer : Result (Keys A × Bool) KeyFault)
      → LeavesBare (pushkey.handle_pushed repo replying place part call answer)
  unfolding reply_part
  pushed repo replying place part call (Ok (keys, done)) =
      one_or_other (pushkey.is_refused part done) _ _ tt (bare_where replying _ refl)
  pushed repo replying place part call (Err fault) = tt

  key_call : (repo : Repository A) (replying : Bool) (place : ℕ) (part : Part A) (call : Option (KeyCall A))
      → LeavesBare (pushkey.handle_call repo replying place part call)
  key_call repo replying place part (Some call) =
      pushed repo replying place part call (key_pushed repo.rows (pushkey.keys_of repo) call)
  key_call repo replying place part None = tt

  group_added : (source : Source) (repo : Repository A) (replying : Bool) (place : ℕ) (part : Part A)
      (t : Phase) (entries : List (Entry A)) (result : Result changegroup.Grown AddFault)
      → LeavesBare
      (changegroup.handled_by (changegroup.handled_of source repo replying part t entries) place result)
  unfolding reply_part
  group_added source repo replying place part t entries (Ok grown) = bare_where replying _ refl
  group_added source repo replying place part t entries (Err fault) = tt

  group_entries : (source : Source) (repo : Repository A) (replying : Bool) (place : ℕ) (part : Part A)
      (t : Phase) (entries : List (Entry A))
      → LeavesBare (changegroup.handle_entries source repo replying place part t entries)
  unfolding changegroup.handle_entries
  group_entries source repo replying place part t entries =
      group_added source repo replying place part t entries _

  decoded : {E : Type 0} (source : Source) (repo : Repository A) (replying : Bool) (place : ℕ) (part : Part A)
      (target : Phase) (entries : Result (List (Entry A)) E)
      → LeavesBare (changegroup.handle_decoded source repo replying place part target entries)
  decoded source repo replying place part target (Ok entries) =
      group_entries source repo replying place part _ entries
  decoded source repo replying place part target (Err fault) = tt

  targeted : (source : Source) (repo : Repository A) (replying : Bool) (place : ℕ) (part : Part A)
      (target : Option Phase) → LeavesBare (changegroup.handle_target source repo replying place part target)
  targeted source repo replying place part (Some target) =
      decoded source repo replying place part target
      (outcome_of (changegroup.version_of part.params) part.payload)
  targeted source repo replying place part None = tt

  supported : (source : Source) (repo : Repository A) (replying : Bool) (place : ℕ) (part : Part A)
      (part_type : PartType) → LeavesBare (handle_supported source repo replying place part part_type)
  supported source repo replying place part ReplyCaps = tt
  supported source repo replying place part (Check kind) =
      checked repo place (race_text kind) (answer_to kind repo.rows repo.phases repo.bookmarks part.payload)
  supported source repo replying place part PhaseHeads = phase_entries repo place (entries_of part.payload)
  supported source repo replying place part Bookmarks =
      bookmark_entries repo place (bookmark.entries_of part.payload)
  supported source repo replying place part Obsmarkers =
      markers repo replying place part (markers_of part.payload)
  supported source repo replying place part ChangeGroup =
      targeted source repo replying place part (changegroup.target_of part.params)
  supported source repo replying place part Pushkey =
      key_call repo replying place part (pushkey.call_of part.params)
  supported source repo replying place part Output = tt
  supported source repo replying place part ErrorAbort = tt

  handled_as : (source : Source) (repo : Repository A) (replying : Bool) (place : ℕ) (part : Part A)
      (support : Support) → LeavesBare (handle_as source repo replying place part support)
  handled_as source repo replying place part (Supported part_type) =
      supported source repo replying place part part_type
  handled_as source repo replying place part (Unsupported names) = unsupported repo place part names

  pub reply_bare : (source : Source) (repo : Repository A) (replying : Bool) (place : ℕ) (part : Part A)
      (given : Handled A) → handle source repo replying place part ≡ Ok given
      → IfSome given.reply (λ reply. reply.payload ≡ [])
  reply_bare source repo replying place part given is = subst LeavesBare is
      (handled_as source repo replying place part (support_of part))
