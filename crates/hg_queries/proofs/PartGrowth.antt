-- A part that is handled adds changesets and markers at their ends, and what was public stays public, whatever its
-- type.
use Rattle.std.proofs.Common.{◌≡◌, ℕ, Bool, true, false, cond, List, [], ◌∷◌, ◌++◌, codes, Option, Some, None}
use Rattle.std.proofs.Common.{Result, Ok, Err, refl, subst}
use Rattle.std.specs.Prelude.{bytes_eq, nat_eq, ◌&&◌}
use Rattle.std.specs.List.{starts_with}
use Rattle.std.proofs.lemmas.List.{append-nil}
use mathlib.Core.List.{IsPrefix}
use Rattle.hg_types.specs.declared.limits.Limits.{Limits}
use Rattle.hg_types.specs.declared.node.Node.{Node}
use Rattle.hg_types.specs.declared.entry.Entry.{Entry}
use Rattle.hg_types.specs.declared.part.Part.{Part}
use Rattle.hg_types.specs.declared.phase.Phase.{Phase}
use Rattle.hg_log.specs.declared.add.Added.TheVariants.{Known}
use Rattle.hg_log.specs.declared.add.AddFault.{AddFault}
use Rattle.hg_log.specs.Changeset.{Changeset, Log}
use Rattle.hg_log.specs.Answer.{answer_of, answered, is_known, new_row}
use Rattle.hg_phases.specs.declared.fault.EntryFault.{EntryFault}
use Rattle.hg_obs.specs.declared.fault.MarkerFault.{MarkerFault}
use Rattle.hg_obs.specs.declared.marker.Marker.{Marker}
use Rattle.hg_obs.specs.Markers.{fresh}
use Rattle.hg_obs.specs.declared.fault.Base85Fault.{Base85Fault}
use Rattle.hg_keys.specs.declared.fault.KeyFault.{KeyFault}
use Rattle.hg_obs.specs.Base85.{decoded as decoded_text}
use Rattle.hg_keys.specs.declared.keys.KeyCall.{KeyCall}
use Rattle.hg_keys.specs.Payload as bookmark
use Rattle.hg_keys.specs.PushKey.{Keys, key_pushed}
use Rattle.hg_keys.specs.PushKey as keys
use Rattle.hg_checks.specs.Checked.{Answer}
use Rattle.hg_checks.specs.Checks.{checked as answer_to}
use Rattle.hg_cgroup.specs.Outcome.{outcome_of}
use Rattle.hg_phases.specs.Entries.{entries_of}
use Rattle.hg_obs.specs.Reading.{markers_of}
use Rattle.hg_parts.specs.declared.source.Source.{Source}
use Rattle.hg_parts.specs.declared.source.Source.TheVariants.{Push, Seed}
use Rattle.hg_parts.specs.declared.refusal.RaceText.{RaceText}
use Rattle.hg_parts.specs.declared.table.PartType.{PartType}
use Rattle.hg_parts.specs.declared.table.PartType.TheVariants.{ReplyCaps, Check}
use Rattle.hg_parts.specs.declared.table.PartType.TheVariants.{ChangeGroup, PhaseHeads, Bookmarks, Obsmarkers}
use Rattle.hg_parts.specs.declared.table.PartType.TheVariants.{Pushkey}
use Rattle.hg_parts.specs.declared.table.PartType.TheVariants.{Output, ErrorAbort}
use Rattle.hg_parts.specs.Repository.{Repository}
use Rattle.hg_parts.specs.Handled.{Handled, Outcome}
use Rattle.hg_parts.specs.PartTypes.{Support, Supported, Unsupported, is_mandatory, race_text, support_of}
use Rattle.hg_parts.specs.parts.Unsupported.{handle_unsupported}
use Rattle.hg_parts.specs.parts.Check.{handle_checked}
use Rattle.hg_parts.specs.parts.Changegroup as changegroup
use Rattle.hg_parts.specs.parts.PhaseHeads as phase_heads
use Rattle.hg_parts.specs.parts.Bookmarks as bookmarks
use Rattle.hg_parts.specs.parts.Obsmarkers as obsmarkers
use Rattle.hg_parts.specs.parts.Pushkey as pushkey
use Rattle.hg_parts.specs.Handle.{handle, handle_as, handle_supported}
use Rattle.hg_wireproto.specs.Viewed.{StayPublic}
use Rattle.hg_wireproto.proofs.Publishing.{prefix_on, stay_advanced, stay_on, stay_registered, stay_same}
use Rattle.hg_queries.specs.Growth.{IsGrown}

-- ---- lists

pub same_prefix : {X : Type 0} (xs : List X) → IsPrefix xs xs
same_prefix xs = ([], append-nil xs)

pub more_prefix : {X : Type 0} (xs more : List X) → IsPrefix xs (xs ++ more)
more_prefix xs more = (more, refl)

-- ---- rows

-- rows came at the end, where the entries are added, and what was public is public
abbrev pub RowsGrow : List Changeset → List Phase → Result changegroup.Grown AddFault → Type 0
RowsGrow rows phases (Ok grown) = IsPrefix rows grown.rows × StayPublic phases grown.phases
RowsGrow rows phases (Err fault) = Unit {0}

grown_by_row : (t : Phase) (phases : List Phase) (log : Log) (row : Result Changeset AddFault)
    → RowsGrow log.rows phases (changegroup.grown_by t phases (answered log row))
grown_by_row t phases log (Ok row) = (more_prefix log.rows (row ∷ []), stay_registered _ t phases)
grown_by_row t phases log (Err fault) = tt

grown_by_answer : {A : Type 0} (t : Phase) (phases : List Phase) (log : Log) (entry : Entry A)
    → RowsGrow log.rows phases (changegroup.grown_by t phases (answer_of log entry))
unfolding answer_of
grown_by_answer t phases log entry = by (is_known log.rows entry.node.0)
  where
    by : (b : Bool) → RowsGrow log.rows phases
        (changegroup.grown_by t phases (cond b (Ok Known, log) (answered log (new_row log entry))))
    by true = (same_prefix log.rows, stay_same phases)
    by false = grown_by_row t phases log (new_row log entry)

rows_on : (rows : List Changeset) (phases : List Phase) (first : Result changegroup.Grown AddFault)
    (next : changegroup.Grown → Result changegroup.Grown AddFault) → RowsGrow rows phases first
    → ((grown : changegroup.Grown) → RowsGrow grown.rows grown.phases (next grown))
    → RowsGrow rows phases (changegroup.then_grow first next)
rows_on rows phases (Err fault) next one more = tt
rows_on rows phases (Ok grown) next one more = by (next grown) (more grown)
  where
    by : (last : Result changegroup.Grown AddFault) → RowsGrow grown.rows grown.phases last
        → RowsGrow rows phases last
    by (Ok last) then_on = (
      prefix_on rows grown.rows last.rows one.0 then_on.0,
      stay_on phases grown.phases last.phases one.1 then_on.1,
    )
    by (Err fault) then_on = tt

rows_each : {A : Type 0} (limits : Limits) (t : Phase) (entries : List (Entry A)) (grown : changegroup.Grown)
    → RowsGrow grown.rows grown.phases (changegroup.add_each limits t entries grown)
unfolding changegroup.add_each
rows_each limits t [] grown = (same_prefix grown.rows, stay_same grown.phases)
rows_each limits t (entry ∷ entries) grown =
    rows_on grown.rows grown.phases _ (changegroup.add_each limits t entries)
    (grown_by_answer t grown.phases (record { rows = grown.rows; limits = limits }) entry)
    (rows_each limits t entries)

-- ---- phases

-- a push advances the changesets of a group
stay_after : {A : Type 0} (source : Source) (t : Phase) (entries : List (Entry A)) (grown : changegroup.Grown)
    → StayPublic grown.phases (changegroup.phases_after source t entries grown)
stay_after Push t entries grown = stay_advanced _ t _ grown.phases
stay_after Seed t entries grown = stay_same grown.phases

-- the part `phase-heads` does
stay_each : (rows : List Changeset) (entries : List (Phase × Node)) (phases : List Phase)
    → StayPublic phases (phase_heads.advance_each rows entries phases)
stay_each rows [] phases = stay_same phases
stay_each rows (entry ∷ entries) phases =
    stay_on phases (phase_heads.advanced_by rows phases entry) _ (stay_advanced _ entry.0 _ phases)
    (stay_each rows entries (phase_heads.advanced_by rows phases entry))

-- a key of `phases` does
module _ (rows : List Changeset) (phases : List Phase) where
  stay_or : (test : Bool) (x y : List Phase × Bool) → StayPublic phases x.0 → StayPublic phases y.0
      → StayPublic phases (cond test x y).0
  stay_or true x y first second = first
  stay_or false x y first second = second

  stay_moved : (node : Node) (old new : Phase) (current : Option Phase)
      → StayPublic phases (keys.moved_known rows phases node old new current).0
  stay_moved node old new None = stay_same phases
  stay_moved node old new (Some current) =
      stay_or _ _ _ (stay_advanced _ new _ phases) (stay_same phases)

  stay_read : (node : Option Node) (old new : Option Phase)
      → StayPublic phases (keys.moved_as_read rows phases node old new).0
  stay_read (Some node) (Some old) (Some new) = stay_moved node old new _
  stay_read (Some node) (Some old) None = stay_same phases
  stay_read (Some node) None new = stay_same phases
  stay_read None old new = stay_same phases

-- ---- a key

module _ {A : Type 0} where
  -- markers came at the end, where the key is pushed, and what was public is public
  abbrev pub KeysGrow : Keys A → Result (Keys A × Bool) KeyFault → Type 0
  KeysGrow ks (Ok pushed) = IsPrefix ks.markers pushed.0.markers × StayPublic ks.phases pushed.0.phases
  KeysGrow ks (Err fault) = Unit {0}

  keys_or : (ks : Keys A) (test : Bool) (x y : Result (Keys A × Bool) KeyFault)
      → KeysGrow ks x → KeysGrow ks y → KeysGrow ks (cond test x y)
  keys_or ks true x y first second = first
  keys_or ks false x y first second = second

-- ---- parts

module _ {A : Type 0} where
  -- the repository grows, where the part is handled
  abbrev pub Grows : Repository A → Outcome A → Type 0
  Grows repo (Ok given) = IsGrown repo given.repo
  Grows repo (Err refusal) = Unit {0}

  same : (repo : Repository A) → IsGrown repo repo
  same repo = record {
    rows = same_prefix repo.rows;
    markers = same_prefix repo.markers;
    phases = stay_same repo.phases;
  }

  one_or_other : (repo : Repository A) (test : Bool) (x y : Outcome A) → Grows repo x → Grows repo y
      → Grows repo (cond test x y)
  one_or_other repo true x y first second = first
  one_or_other repo false x y first second = second

  unsupported : (repo : Repository A) (place : ℕ) (part : Part A) (names : List (List ℕ))
      → Grows repo (handle_unsupported repo place part names)
  unsupported repo place part names = one_or_other repo (is_mandatory part.kind) _ _ tt (same repo)

  checked : (repo : Repository A) (place : ℕ) (text : RaceText) (answer : Answer)
      → Grows repo (handle_checked repo place text answer)
  checked repo place text (Ok content) = same repo
  checked repo place text (Err fault) = tt

  -- the rows and the markers are the same
  others : (old new : Repository A) → old.rows ≡ new.rows → old.markers ≡ new.markers
      → StayPublic old.phases new.phases → IsGrown old new
  others old new rows markers phases = record {
    rows = subst (IsPrefix old.rows) rows (same_prefix old.rows);
    markers = subst (IsPrefix old.markers) markers (same_prefix old.markers);
    phases = phases;
  }

  phase_entries : (repo : Repository A) (place : ℕ) (entries : Result (List (Phase × Node)) EntryFault)
      → Grows repo (phase_heads.handle_read repo place entries)
  phase_entries repo place (Ok entries) =
      one_or_other repo (phase_heads.are_known repo.rows entries) _ _
      (others repo _ refl refl (stay_each repo.rows entries repo.phases)) tt
  phase_entries repo place (Err fault) = tt

  bookmark_entries : (repo : Repository A) (place : ℕ) (entries : Option (List bookmark.Entry))
      → Grows repo (bookmarks.handle_read repo place entries)
  bookmark_entries repo place (Some entries) =
      one_or_other repo (bookmarks.are_known repo.rows entries) _ _
      (others repo _ refl refl (stay_same repo.phases)) tt
  bookmark_entries repo place None = tt

  markers : (repo : Repository A) (replying : Bool) (place : ℕ) (part : Part A)
      (added : Result (List (Marker A)) MarkerFault)
      → Grows repo (obsmarkers.handle_read repo replying place part added)
  markers repo replying place part (Ok added) = record {
    rows = same_prefix repo.rows;
    markers = more_prefix repo.markers (fresh repo.markers added);
    phases = stay_same repo.phases;
  }
  markers repo replying place part (Err fault) = tt

  pushed : (repo : Repository A) (replying : Bool) (place : ℕ) (part : Part A) (call : KeyCall A)
      (answer : Result (Keys A × Bool) KeyFault) → KeysGrow (pushkey.keys_of repo) answer
      → Grows repo (pushkey.handle_pushed repo replying place part call answer)
  pushed repo replying place part call (Ok (keys, done)) grown =
      one_or_other repo (pushkey.is_refused part done) _ _ tt
      (record { rows = same_prefix repo.rows; markers = grown.0; phases = grown.1 })
  pushed repo replying place part call (Err fault) grown = tt

  group_added : (source : Source) (repo : Repository A) (replying : Bool) (place : ℕ) (part : Part A)
      (t : Phase) (entries : List (Entry A)) (result : Result changegroup.Grown AddFault)
      → RowsGrow repo.rows repo.phases result → Grows repo
      (changegroup.handled_by (changegroup.handled_of source repo replying part t entries) place result)
  group_added source repo replying place part t entries (Ok grown) rows = record {
    rows = rows.0;
    markers = same_prefix repo.markers;
    phases = stay_on repo.phases grown.phases _ rows.1 (stay_after source t entries grown);
  }
  group_added source repo replying place part t entries (Err fault) rows = tt

  group_entries : (source : Source) (repo : Repository A) (replying : Bool) (place : ℕ) (part : Part A)
      (t : Phase) (entries : List (Entry A))
      → Grows repo (changegroup.handle_entries source repo replying place part t entries)
  unfolding changegroup.handle_entries
  group_entries source repo replying place part t entries =
      group_added source repo replying place part t entries _ (rows_each repo.settings.limits t entries _)

  decoded : {E : Type 0} (source : Source) (repo : Repository A) (replying : Bool) (place : ℕ) (part : Part A)
      (target : Phase) (entries : Result (List (Entry A)) E)
      → Grows repo (changegroup.handle_decoded source repo replying place part target entries)
  decoded source repo replying place part target (Ok entries) =
      group_entries source repo replying place part _ entries
  decoded source repo replying place part target (Err fault) = tt

  targeted : (source : Source) (repo : Repository A) (replying : Bool) (place : ℕ) (part : Part A)
      (target : Option Phase) → Grows repo (changegroup.handle_target source repo replying place part target)
  targeted source repo replying place part (Some target) =
      decoded source repo replying place part target
      (outcome_of (changegroup.version_of part.params) part.payload)
  targeted source repo replying place part None = tt

  keys_same : (ks : Keys A) → IsPrefix ks.markers ks.markers × StayPublic ks.phases ks.phases
  keys_same ks = (same_prefix ks.markers, stay_same ks.phases)

  markers_read : (ks : Keys A) (added : Result (List (Marker A)) MarkerFault)
      → KeysGrow ks (keys.with_markers ks (keys.merged_as_read ks.markers added))
  markers_read ks (Ok added) = (more_prefix ks.markers (fresh ks.markers added), stay_same ks.phases)
  markers_read ks (Err fault) = tt

  markers_decoded : (ks : Keys A) (bytes : Result (List ℕ) Base85Fault)
      → KeysGrow ks (keys.with_markers ks (keys.merged_as_decoded ks.markers bytes))
  markers_decoded ks (Ok bytes) = markers_read ks (markers_of bytes)
  markers_decoded ks (Err fault) = tt

  markers_pushed : (ks : Keys A) (key old new : List ℕ)
      → KeysGrow ks (keys.with_markers ks (keys.markers_pushed ks.markers key old new))
  markers_pushed ks key old new = by (starts_with nat_eq key (codes "dump") && keys.is_empty old)
    where
      by : (b : Bool) → KeysGrow ks (keys.with_markers ks
          (cond b (keys.merged_as_decoded ks.markers (decoded_text new)) (Ok (ks.markers, false))))
      by true = markers_decoded ks (decoded_text new)
      by false = keys_same ks

  key_grows : (rows : List Changeset) (ks : Keys A) (call : KeyCall A)
      → KeysGrow ks (key_pushed rows ks call)
  unfolding key_pushed
  key_grows rows ks call =
      keys_or ks (bytes_eq call.namespace (codes "phases")) _ _ (
        same_prefix ks.markers,
        stay_read rows ks.phases (keys.node_in_hex call.key) (keys.phase_in_text call.old)
            (keys.phase_in_text call.new),
      )
      (keys_or ks (bytes_eq call.namespace (codes "bookmarks")) _ _ (keys_same ks)
      (keys_or ks (bytes_eq call.namespace (codes "obsolete")) _ _
      (markers_pushed ks call.key call.old call.new) (keys_same ks)))

  key_call : (repo : Repository A) (replying : Bool) (place : ℕ) (part : Part A) (call : Option (KeyCall A))
      → Grows repo (pushkey.handle_call repo replying place part call)
  key_call repo replying place part (Some call) =
      pushed repo replying place part call (key_pushed repo.rows (pushkey.keys_of repo) call)
      (key_grows repo.rows (pushkey.keys_of repo) call)
  key_call repo replying place part None = tt

  supported : (source : Source) (repo : Repository A) (replying : Bool) (place : ℕ) (part : Part A)
      (part_type : PartType) → Grows repo (handle_supported source repo replying place part part_type)
  supported source repo replying place part ReplyCaps = same repo
  supported source repo replying place part (Check kind) =
      checked repo place (race_text kind) (answer_to kind repo.rows repo.phases repo.bookmarks part.payload)
  supported source repo replying place part PhaseHeads = phase_entries repo place (entries_of part.payload)
  supported source repo replying place part Bookmarks =
      bookmark_entries repo place (bookmark.entries_of part.payload)
  supported source repo replying place part Obsmarkers =
      markers repo replying place part (markers_of part.payload)
  supported source repo replying place part ChangeGroup =
      targeted source repo replying place part (changegroup.target_of part.params)
  supported source repo replying place part Pushkey =
      key_call repo replying place part (pushkey.call_of part.params)
  supported source repo replying place part Output = same repo
  supported source repo replying place part ErrorAbort = tt

  handled_as : (source : Source) (repo : Repository A) (replying : Bool) (place : ℕ) (part : Part A)
      (support : Support) → Grows repo (handle_as source repo replying place part support)
  handled_as source repo replying place part (Supported part_type) =
      supported source repo replying place part part_type
  handled_as source repo replying place part (Unsupported names) = unsupported repo place part names

  pub part_grows : (source : Source) (repo : Repository A) (replying : Bool) (place : ℕ) (part : Part A)
      (given : Handled A) → handle source repo replying place part ≡ Ok given → IsGrown repo given.repo
  part_grows source repo replying place part given is = subst (Grows repo) is
      (handled_as source repo replying place part (support_of part))

  pub grown_same : (repo : Repository A) → IsGrown repo repo
  grown_same repo = same repo

  pub grown_on : (old middle new : Repository A) → IsGrown old middle → IsGrown middle new → IsGrown old new
  grown_on old middle new first rest = record {
    rows = prefix_on old.rows middle.rows new.rows first.rows rest.rows;
    markers = prefix_on old.markers middle.markers new.markers first.markers rest.markers;
    phases = stay_on old.phases middle.phases new.phases first.phases rest.phases;
  }
