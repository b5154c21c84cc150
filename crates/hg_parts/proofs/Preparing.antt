-- What is read of a part is handled as the part is, and what is kept of it is enough.
use Rattle.std.proofs.Common.{ℕ, ◌≡◌, ◌∙◌, Bool, false, List, [], ◌∷◌, Option, Some, None, Result, Ok, Err}
use Rattle.std.proofs.Common.{refl, sym, ap, subst}
use Rattle.hg_types.specs.declared.entry.Entry.{Entry}
use Rattle.hg_types.specs.declared.node.Node.{Node}
use Rattle.hg_types.specs.declared.part.Part.{Part}
use Rattle.hg_types.specs.declared.part.Param.{Param}
use Rattle.hg_types.specs.declared.phase.Phase.{Phase}
use Rattle.hg_obs.specs.declared.marker.Marker.{Marker}
use Rattle.hg_obs.specs.declared.fault.MarkerFault.{MarkerFault}
use Rattle.hg_phases.specs.declared.fault.EntryFault.{EntryFault}
use Rattle.hg_cgroup.specs.Outcome.{outcome_of}
use Rattle.hg_phases.specs.Entries.{entries_of}
use Rattle.hg_obs.specs.Reading.{markers_of}
use Rattle.hg_parts.specs.declared.prepared.Prepared.{Prepared}
use Rattle.hg_parts.specs.declared.prepared.Reading.{Reading}
use Rattle.hg_parts.specs.declared.prepared.Reading.TheVariants as reading
use Rattle.hg_parts.specs.declared.source.Source.{Source}
use Rattle.hg_parts.specs.declared.table.PartType.{PartType}
use Rattle.hg_parts.specs.declared.table.PartType.TheVariants.{ReplyCaps, Check}
use Rattle.hg_parts.specs.declared.table.PartType.TheVariants.{ChangeGroup, PhaseHeads, Bookmarks, Obsmarkers}
use Rattle.hg_parts.specs.declared.table.PartType.TheVariants.{Pushkey}
use Rattle.hg_parts.specs.declared.table.PartType.TheVariants.{Output, ErrorAbort}
use Rattle.hg_parts.specs.Repository.{Repository}
use Rattle.hg_parts.specs.PartTypes.{Row, Support, Supported, Unsupported, support_in, support_by, support_of}
use Rattle.hg_parts.specs.PartTypes.{unknown_names}
use Rattle.hg_parts.specs.PartTypes.{names_against, unsupported_names, is_reply_caps, row_of}
use Rattle.hg_parts.specs.Handle.{handle, handle_as}
use Rattle.hg_parts.specs.Prepared.{handle_reading, is_read, is_replycaps, kept_where, kept_with, read_as, reading_of}
use Rattle.hg_parts.specs.Prepared.{IsMadeOf}
use Rattle.hg_parts.specs.declared.sent.Held.TheVariants.{Read}
use Rattle.hg_parts.specs.code.Sent.{part_in}
use Rattle.hg_parts.specs.parts.Unsupported.{handle_unsupported}
use Rattle.hg_parts.specs.parts.Changegroup.{handle_decoded, handle_entries, handle_target}
use Rattle.hg_parts.specs.parts.Changegroup.{reading_in as group_in, target_of, version_of}
use Rattle.hg_parts.specs.parts.PhaseHeads.{handle_read as handle_heads, reading_in as heads_in}
use Rattle.hg_parts.specs.parts.Obsmarkers.{handle_read as handle_read_markers, reading_in as markers_in}

-- the names that stand against a part, where it is not supported
names_of : Support → List (List ℕ)
names_of (Supported part_type) = []
names_of (Unsupported names) = names

names_by : (part_type : PartType) (names : List (List ℕ)) → names_of (support_by part_type names) ≡ names
unfolding names_of
names_by part_type [] = refl
names_by part_type (name ∷ names) = refl

names_in : {A : Type 0} (params : List (Param A)) (row : Option Row)
    → names_of (support_in params row) ≡ names_against params row
unfolding names_of
names_in params None = refl
names_in params (Some row) = names_by row.part_type (unknown_names row.known params)

module _ {A : Type 0} (source : Source) (repo : Repository A) (replying : Bool) (place : ℕ) where
  group_decoded : {E : Type 0} (part : Part A) (target : Phase) (decoded : Result (List (Entry A)) E)
      → handle_decoded source repo replying place part target decoded ≡ handle_reading source repo replying
      place part (group_in (Some target) decoded)
  group_decoded part target (Ok entries) = refl
  group_decoded part target (Err fault) = refl

  group_read : (part : Part A) (target : Option Phase)
      → handle_target source repo replying place part target ≡ handle_reading source repo replying place part
      (group_in target (outcome_of (version_of part.params) part.payload))
  group_read part (Some target) = group_decoded part target (outcome_of (version_of part.params) part.payload)
  group_read part None = refl

  heads_read : (part : Part A) (entries : Result (List (Phase × Node)) EntryFault)
      → handle_heads repo place entries ≡ handle_reading source repo replying place part (heads_in entries)
  heads_read part (Ok entries) = refl
  heads_read part (Err fault) = refl

  markers_read : (part : Part A) (added : Result (List (Marker A)) MarkerFault)
      → handle_read_markers repo replying place part added ≡ handle_reading source repo replying place part
      (markers_in added)
  markers_read part (Ok added) = refl
  markers_read part (Err fault) = refl

  support_read : (part : Part A) (support : Support) → names_of support ≡ unsupported_names part
      → handle_as source repo replying place part support ≡ handle_reading source repo replying place part
      (read_as part support)
  unfolding names_of
  support_read part (Unsupported names) same = ap (handle_unsupported repo place part) same
  support_read part (Supported ReplyCaps) same = refl
  support_read part (Supported (Check kind)) same = refl
  support_read part (Supported PhaseHeads) same = heads_read part (entries_of part.payload)
  support_read part (Supported Bookmarks) same = refl
  support_read part (Supported Obsmarkers) same = markers_read part (markers_of part.payload)
  support_read part (Supported ChangeGroup) same = group_read part (target_of part.params)
  support_read part (Supported Pushkey) same = refl
  support_read part (Supported Output) same = refl
  support_read part (Supported ErrorAbort) same = refl

  -- a part is read, and then handled
  pub part_read : (part : Part A)
      → handle source repo replying place part ≡ handle_reading source repo replying place part
      (reading_of part)
  part_read part = support_read part (support_of part) (names_in part.params (row_of part.kind))

  -- the payload is looked at no more where it was read
  kept_enough : (part : Part A) (told : Reading A)
      → handle_reading source repo replying place (kept_where (is_read told) part) told ≡ handle_reading
      source repo replying place part told
  unfolding handle_entries
  kept_enough part reading.Unsupported = refl
  kept_enough part reading.Malformed = refl
  kept_enough part reading.ReplyCaps = refl
  kept_enough part (reading.Check kind) = refl
  kept_enough part (reading.PhaseHeads entries) = refl
  kept_enough part reading.Bookmarks = refl
  kept_enough part (reading.Obsmarkers added) = refl
  kept_enough part (reading.ChangeGroup target entries) = refl
  kept_enough part reading.Pushkey = refl
  kept_enough part reading.Output = refl
  kept_enough part reading.ErrorAbort = refl

  -- a prepared part is handled as each part that it may have been made of
  pub made_handled : (part : Part A) (prepared : Prepared A) → IsMadeOf part prepared
      → handle source repo replying place part ≡ handle_reading source repo replying place prepared.part
      prepared.reading
  unfolding IsMadeOf
  made_handled part prepared made =
      part_read part ∙ (sym (kept_enough part (reading_of part))
      ∙ sym (ap (λ (p : Prepared A). handle_reading source repo replying place p.part p.reading) made))

group_starts : {A E : Type 0} (target : Option Phase) (decoded : Result (List (Entry A)) E)
    → is_replycaps (group_in target decoded) ≡ false
group_starts (Some target) (Ok entries) = refl
group_starts (Some target) (Err fault) = refl
group_starts None decoded = refl

heads_start : (A : Type 0) (entries : Result (List (Phase × Node)) EntryFault)
    → is_replycaps (heads_in {A = A} entries) ≡ false
heads_start A (Ok entries) = refl
heads_start A (Err fault) = refl

markers_start : {A : Type 0} (added : Result (List (Marker A)) MarkerFault)
    → is_replycaps (markers_in added) ≡ false
markers_start (Ok added) = refl
markers_start (Err fault) = refl

support_starts : {A : Type 0} (part : Part A) (support : Support)
    → is_replycaps (read_as part support) ≡ is_reply_caps support
support_starts part (Unsupported names) = refl
support_starts part (Supported ReplyCaps) = refl
support_starts part (Supported (Check kind)) = refl
support_starts part (Supported PhaseHeads) = heads_start _ (entries_of part.payload)
support_starts part (Supported Bookmarks) = refl
support_starts part (Supported Obsmarkers) = markers_start (markers_of part.payload)
support_starts part (Supported ChangeGroup) =
    group_starts (target_of part.params) (outcome_of (version_of part.params) part.payload)
support_starts part (Supported Pushkey) = refl
support_starts part (Supported Output) = refl
support_starts part (Supported ErrorAbort) = refl

-- it starts replies where the part does
pub made_starts : {A : Type 0} (part : Part A) (prepared : Prepared A) → IsMadeOf part prepared
    → is_replycaps prepared.reading ≡ is_reply_caps (support_of part)
unfolding IsMadeOf
made_starts {A} part prepared made = ap (λ (p : Prepared A). is_replycaps p.reading) made
    ∙ support_starts part (support_of part)

-- what was read of a part, and what else is kept of it, may have been made of it
pub made_of : {A : Type 0} (part : Part A) (told : Reading A) (prepared : Prepared A) → told ≡ reading_of part
    → prepared ≡ kept_with part told → IsMadeOf part prepared
unfolding IsMadeOf
made_of part told prepared read kept = kept ∙ ap (kept_with part) read

-- and so where the part was noted
pub noted_is : {A : Type 0} (part : Part A) (prepared : Prepared A) (noted : List (Part A)) → noted ≡ part ∷ []
    → IsMadeOf part prepared → IsMadeOf (part_in (Read prepared) noted) prepared
noted_is {A} part prepared noted is made =
    subst (λ (l : List (Part A)). IsMadeOf (part_in (Read prepared) l) prepared) (sym is) made
