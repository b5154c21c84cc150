-- A part that is handled on a lawful repository leaves a lawful one, for each type of part.
use Rattle.std.proofs.Common.{◌≡◌, ◌≤◌, ◌+◌, ℕ, Bool, true, false, cond, List, [], ◌∷◌, ◌++◌, length, take}
use Rattle.std.proofs.Common.{Option, Some, None, Result, Ok, Err, IfOk, refl, sym, ap, ◌∙◌, subst, arith}
use Rattle.std.proofs.lemmas.Bool.{and_parts}
use Rattle.std.proofs.lemmas.List.{take-append-le, length_push}
use Rattle.std.proofs.Math.Seq.{take-length}
use Rattle.std.specs.Option.{option_to_list}
use Rattle.std.specs.Prelude.{◌↔◌}
use Rattle.std.specs.List.{AllByRecursion}
use Rattle.hg_types.specs.Bytes.{IsBytes}
use Rattle.hg_types.specs.declared.node.Node.{Node}
use Rattle.hg_types.specs.declared.entry.Entry.{Entry}
use Rattle.hg_types.specs.declared.limits.Limits.{Limits}
use Rattle.hg_types.specs.declared.limits.Settings.{Settings}
use Rattle.hg_types.specs.declared.part.Part.{Part}
use Rattle.hg_types.specs.declared.phase.Phase.{Phase}
use Rattle.hg_log.specs.declared.add.Added.{Added}
use Rattle.hg_log.specs.declared.add.Added.TheVariants.{New, Known}
use Rattle.hg_log.specs.declared.add.AddFault.{AddFault}
use Rattle.hg_log.specs.Add.{AddLeaves, row_of}
use Rattle.hg_log.specs.Answer.{answer_of}
use Rattle.hg_log.specs.Changeset.{Changeset, Log}
use Rattle.hg_log.specs.Parents.{parents_of, rev_of}
use Rattle.hg_log.specs.Rows.{AreLawful as AreLawfulRows}
use Rattle.hg_phases.specs.declared.fault.EntryFault.{EntryFault}
use Rattle.hg_phases.specs.Entries.{entries_of}
use Rattle.hg_phases.specs.Phases.{registered, advanced, AreLawful as AreLawfulPhases}
use Rattle.hg_obs.specs.declared.fault.MarkerFault.{MarkerFault}
use Rattle.hg_obs.specs.declared.marker.Marker.{Marker}
use Rattle.hg_obs.specs.Grammar.{AreMarkers}
use Rattle.hg_obs.specs.Marker.{IsMarker}
use Rattle.hg_obs.specs.Markers.{merged, AreLawful as AreLawfulMarkers}
use Rattle.hg_obs.specs.Reading.{markers_of}
use Rattle.hg_keys.specs.declared.fault.KeyFault.{KeyFault}
use Rattle.hg_keys.specs.declared.keys.KeyCall.{KeyCall}
use Rattle.hg_keys.specs.Bookmarks.{Pairs, AreInOrder, set_each, with_bookmark}
use Rattle.hg_keys.specs.Known.{AreOnKnown}
use Rattle.hg_keys.specs.Payload as bookmark
use Rattle.hg_keys.specs.PushKey.{Keys, AreLawful as AreLawfulKeys, is_known_target, key_pushed}
use Rattle.hg_checks.specs.Checked.{Answer}
use Rattle.hg_checks.specs.Checks.{checked as answer_to}
use Rattle.hg_cgroup.specs.Outcome.{outcome_of}
use Rattle.hg_parts.specs.declared.source.Source.{Source}
use Rattle.hg_parts.specs.declared.source.Source.TheVariants.{Push, Seed}
use Rattle.hg_parts.specs.declared.refusal.RaceText.{RaceText}
use Rattle.hg_parts.specs.declared.table.PartType.{PartType}
use Rattle.hg_parts.specs.declared.table.PartType.TheVariants.{ReplyCaps, Check}
use Rattle.hg_parts.specs.declared.table.PartType.TheVariants.{ChangeGroup, PhaseHeads, Bookmarks, Obsmarkers}
use Rattle.hg_parts.specs.declared.table.PartType.TheVariants.{Pushkey}
use Rattle.hg_parts.specs.declared.table.PartType.TheVariants.{Output, ErrorAbort}
use Rattle.hg_parts.specs.Repository.{Repository, IsLawful, empty_with}
use Rattle.hg_parts.specs.Handled.{Outcome}
use Rattle.hg_parts.specs.PartTypes.{Support, Supported, Unsupported, is_mandatory, race_text, support_of}
use Rattle.hg_parts.specs.parts.Unsupported.{handle_unsupported}
use Rattle.hg_parts.specs.parts.Check.{handle_checked}
use Rattle.hg_parts.specs.parts.Changegroup as changegroup
use Rattle.hg_parts.specs.parts.PhaseHeads as phase_heads
use Rattle.hg_parts.specs.parts.Bookmarks as bookmarks
use Rattle.hg_parts.specs.parts.Obsmarkers as obsmarkers
use Rattle.hg_parts.specs.parts.Pushkey as pushkey
use Rattle.hg_parts.specs.Handle.{handle, handle_as, handle_supported}
use Rattle.hg_parts.proofs.Adding.{on_known_more}

-- What the crates below say of rows, phases, markers, bookmarks and keys: their laws, as calls give them.
pub record Laws (A : Type 0) : Type 0 where
  pub rows_stay : (log : Log) (entry : Entry A) → AreLawfulRows log.rows
      → AreLawfulRows (answer_of log entry).1.rows
  pub leaves : (log : Log) (entry : Entry A)
      → IfOk (answer_of log entry).0 (λ added. AddLeaves log entry added (answer_of log entry).1)
  pub behind : (old new : List Changeset) (phases : List Phase)
      → AreLawfulRows new → length old ≤ length new → take (length old) new ≡ old → length phases ≤ length old
      → AreLawfulPhases (parents_of old) phases → AreLawfulPhases (parents_of new) phases
  pub registered_stay : (rows : List Changeset) (target : Phase) (phases : List Phase)
      → AreLawfulRows rows → AreLawfulPhases (parents_of rows) phases
      → AreLawfulPhases (parents_of rows) (registered (parents_of rows) target phases)
  pub advanced_stay : (rows : List Changeset) (target : Phase) (heads : List ℕ) (phases : List Phase)
      → AreLawfulRows rows → AreLawfulPhases (parents_of rows) phases
      → AreLawfulPhases (parents_of rows) (advanced (parents_of rows) target heads phases)
  pub counts : (parents : ℕ → Option ℕ × Option ℕ) (target : Phase) (heads : List ℕ) (phases : List Phase)
      → (length (registered parents target phases) ≡ length phases + 1)
      × (length (advanced parents target heads phases) ≡ length phases)
  pub are_read : (bytes : List ℕ) (markers : List (Marker A)) → IsBytes bytes
      → (markers_of bytes ≡ Ok markers) ↔ AreMarkers bytes markers
  pub merged_stay : (old added : List (Marker A)) → AreLawfulMarkers old → AllByRecursion IsMarker added
      → AreLawfulMarkers (merged old added)
  pub in_order : (pairs : Pairs) (name : List ℕ) (target : Option Node)
      → AreInOrder pairs → AreInOrder (with_bookmark pairs name target)
  pub on_known : (rows : List Changeset) (pairs : Pairs) (name : List ℕ) (target : Option Node)
      → is_known_target rows target ≡ true → AreOnKnown rows pairs
      → AreOnKnown rows (with_bookmark pairs name target)
  pub keys_stay : (rows : List Changeset) (keys : Keys A) (call : KeyCall A) → AreLawfulRows rows
      → AreLawfulKeys rows keys → IfOk (key_pushed rows keys call) (λ pushed. AreLawfulKeys rows pushed.0)

module _ {A : Type 0} (laws : Laws A) where
  -- where a part is handled, its repository is lawful
  abbrev pub LeavesLawful : Outcome A → Type 0
  LeavesLawful outcome = IfOk outcome (λ given. IsLawful given.repo)

  either : (test : Bool) (x y : Outcome A) → (test ≡ true → LeavesLawful x) → LeavesLawful y
      → LeavesLawful (cond test x y)
  either true x y first second = first refl
  either false x y first second = second

  -- ---- phases

  record HavePhases (rows : List Changeset) (phases : List Phase) : Type 0 where
    count : length phases ≡ length rows
    lawful : AreLawfulPhases (parents_of rows) phases

  advanced_have : (rows : List Changeset) (phases : List Phase) (target : Phase) (heads : List ℕ)
      → AreLawfulRows rows → HavePhases rows phases
      → HavePhases rows (advanced (parents_of rows) target heads phases)
  advanced_have rows phases target heads lawful have = record {
    count = (laws.counts (parents_of rows) target heads phases).1 ∙ have.count;
    lawful = laws.advanced_stay rows target heads phases lawful have.lawful;
  }

  each_advanced : (rows : List Changeset) (entries : List (Phase × Node)) (phases : List Phase)
      → AreLawfulRows rows → HavePhases rows phases
      → HavePhases rows (phase_heads.advance_each rows entries phases)
  each_advanced rows [] phases lawful have = have
  each_advanced rows (entry ∷ entries) phases lawful have =
      each_advanced rows entries (phase_heads.advanced_by rows phases entry) lawful
      (advanced_have rows phases entry.0 (option_to_list (rev_of rows entry.1.0)) lawful have)

  -- ---- bookmarks

  record HavePairs (rows : List Changeset) (pairs : Pairs) : Type 0 where
    names : AreInOrder pairs
    known : AreOnKnown rows pairs

  each_set : (rows : List Changeset) (entries : List bookmark.Entry) (pairs : Pairs)
      → bookmarks.are_known rows entries ≡ true → HavePairs rows pairs
      → HavePairs rows (set_each entries pairs)
  each_set rows [] pairs known have = have
  each_set rows (entry ∷ entries) pairs known have =
      let both = and_parts (is_known_target rows entry.0) (bookmarks.are_known rows entries) known in
      each_set rows entries (with_bookmark pairs entry.1 entry.0) both.1 (record {
        names = laws.in_order pairs entry.1 entry.0 have.names;
        known = laws.on_known rows pairs entry.1 entry.0 both.0 have.known;
      })

  -- ---- a changegroup

  record AreGrown (pairs : Pairs) (grown : changegroup.Grown) : Type 0 where
    rows : AreLawfulRows grown.rows
    phases : HavePhases grown.rows grown.phases
    bookmarks : AreOnKnown grown.rows pairs

  abbrev Grows : Pairs → Result changegroup.Grown AddFault → Type 0
  Grows pairs result = IfOk result (AreGrown pairs)

  -- a row came after the others
  grown_new : (pairs : Pairs) (t : Phase) (rows new : List Changeset) (phases : List Phase) (row : Changeset)
      → new ≡ rows ++ row ∷ [] → AreLawfulRows new
      → AreGrown pairs (record { rows = rows; phases = phases })
      → AreGrown pairs (record { rows = new; phases = registered (parents_of new) t phases })
  grown_new pairs t rows new phases row is lawful before =
      let longer : length new ≡ length rows + 1 = ap length is ∙ length_push rows row in
      let front : take (length rows) new ≡ rows =
      ap (take (length rows)) is ∙ take-append-le (length rows) rows (row ∷ []) (omega arith)
      ∙ take-length rows in
      let count = before.phases.count in
      let still : AreLawfulPhases (parents_of new) phases =
      laws.behind rows new phases lawful (omega (arith, longer)) front
      (omega (arith, count)) before.phases.lawful in
      record {
        rows = lawful;
        phases = record {
          count = (laws.counts (parents_of new) t [] phases).0 ∙ omega (arith, count, longer);
          lawful = laws.registered_stay new t phases lawful still;
        };
        bookmarks = subst (λ (rs : List Changeset). AreOnKnown rs pairs) (sym is)
            (on_known_more rows (row ∷ []) pairs before.bookmarks);
      }

  grown_by : (pairs : Pairs) (t : Phase) (log : Log) (phases : List Phase) (entry : Entry A)
      (answer : Result Added AddFault × Log) → AreLawfulRows answer.1.rows
      → IfOk answer.0 (λ added. AddLeaves log entry added answer.1)
      → AreGrown pairs (record { rows = log.rows; phases = phases })
      → Grows pairs (changegroup.grown_by t phases answer)
  grown_by pairs t log phases entry (Ok (New rev), after) lawful left before =
      grown_new pairs t log.rows after.rows phases (row_of entry left.text)
      (ap (λ (l : Log). l.rows) left.appended) lawful before
  grown_by pairs t log phases entry (Ok Known, after) lawful left before =
      subst (λ (l : Log). AreGrown pairs (record { rows = l.rows; phases = phases })) (sym left.1) before
  grown_by pairs t log phases entry (Err fault, after) lawful left before = tt

  then_grown : (pairs : Pairs) (result : Result changegroup.Grown AddFault)
      (next : changegroup.Grown → Result changegroup.Grown AddFault) → Grows pairs result
      → ((grown : changegroup.Grown) → AreGrown pairs grown → Grows pairs (next grown))
      → Grows pairs (changegroup.then_grow result next)
  then_grown pairs (Ok grown) next are after = after grown are
  then_grown pairs (Err fault) next are after = tt

  each_added : (pairs : Pairs) (limits : Limits) (t : Phase) (entries : List (Entry A))
      (grown : changegroup.Grown) → AreGrown pairs grown
      → Grows pairs (changegroup.add_each limits t entries grown)
  unfolding changegroup.add_each
  each_added pairs limits t [] grown are = are
  each_added pairs limits t (entry ∷ entries) grown are =
      let log : Log = record { rows = grown.rows; limits = limits } in
      then_grown pairs (changegroup.grown_by t grown.phases (answer_of log entry))
      (changegroup.add_each limits t entries)
      (grown_by pairs t log grown.phases entry (answer_of log entry) (laws.rows_stay log entry are.rows)
      (laws.leaves log entry) are)
      (λ next. each_added pairs limits t entries next)

  after_group : (source : Source) (t : Phase) (entries : List (Entry A)) (grown : changegroup.Grown)
      → AreLawfulRows grown.rows → HavePhases grown.rows grown.phases
      → HavePhases grown.rows (changegroup.phases_after source t entries grown)
  after_group Push t entries grown lawful have =
      advanced_have grown.rows grown.phases t (changegroup.revs_of grown.rows entries) lawful have
  after_group Seed t entries grown lawful have = have

  -- ---- each type of part

  module _ (repo : Repository A) (lawful : IsLawful repo) (place : ℕ) (part : Part A)
      (bytes : IsBytes part.payload) where
    have_phases : HavePhases repo.rows repo.phases
    have_phases = record { count = lawful.count; lawful = lawful.phases }

    with_phases : (phases : List Phase) → HavePhases repo.rows phases
        → IsLawful (record repo { phases = phases })
    with_phases phases have = record {
      rows = lawful.rows;
      count = have.count;
      phases = have.lawful;
      markers = lawful.markers;
      names = lawful.names;
      bookmarks = lawful.bookmarks;
    }

    unsupported : (names : List (List ℕ)) → LeavesLawful (handle_unsupported repo place part names)
    unsupported names = either (is_mandatory part.kind) _ _ (λ mandatory. tt) lawful

    checked : (text : RaceText) (answer : Answer) → LeavesLawful (handle_checked repo place text answer)
    checked text (Ok content) = lawful
    checked text (Err fault) = tt

    phase_entries : (entries : Result (List (Phase × Node)) EntryFault)
        → LeavesLawful (phase_heads.handle_read repo place entries)
    phase_entries (Ok entries) = either (phase_heads.are_known repo.rows entries) _ _
        (λ known. with_phases _ (each_advanced repo.rows entries repo.phases lawful.rows have_phases)) tt
    phase_entries (Err fault) = tt

    bookmark_entries : (entries : Option (List bookmark.Entry))
        → LeavesLawful (bookmarks.handle_read repo place entries)
    bookmark_entries (Some entries) = either (bookmarks.are_known repo.rows entries) _ _
        (λ known.
        let set = each_set repo.rows entries repo.bookmarks known
        (record { names = lawful.names; known = lawful.bookmarks }) in
        record {
          rows = lawful.rows;
          count = lawful.count;
          phases = lawful.phases;
          markers = lawful.markers;
          names = set.names;
          bookmarks = set.known;
        })
        tt
    bookmark_entries None = tt

    module _ (replying : Bool) where
      markers : (added : Result (List (Marker A)) MarkerFault) → markers_of part.payload ≡ added
          → LeavesLawful (obsmarkers.handle_read repo replying place part added)
      markers (Ok added) is = record {
        rows = lawful.rows;
        count = lawful.count;
        phases = lawful.phases;
        markers = laws.merged_stay repo.markers added lawful.markers
            ((laws.are_read part.payload added bytes).0 is).each;
        names = lawful.names;
        bookmarks = lawful.bookmarks;
      }
      markers (Err fault) is = tt

      pushed : (call : KeyCall A) (answer : Result (Keys A × Bool) KeyFault)
          → IfOk answer (λ pushed. AreLawfulKeys repo.rows pushed.0)
          → LeavesLawful (pushkey.handle_pushed repo replying place part call answer)
      pushed call (Ok (keys, done)) kept = either (pushkey.is_refused part done) _ _ (λ refused. tt) (record {
        rows = lawful.rows;
        count = kept.count;
        phases = kept.phases;
        markers = kept.markers;
        names = kept.names;
        bookmarks = kept.bookmarks;
      })
      pushed call (Err fault) kept = tt

      key_call : (call : Option (KeyCall A))
          → LeavesLawful (pushkey.handle_call repo replying place part call)
      key_call (Some call) = pushed call (key_pushed repo.rows (pushkey.keys_of repo) call)
          (laws.keys_stay repo.rows (pushkey.keys_of repo) call lawful.rows (record {
            count = lawful.count;
            phases = lawful.phases;
            markers = lawful.markers;
            names = lawful.names;
            bookmarks = lawful.bookmarks;
          }))
      key_call None = tt

      module _ (source : Source) where
        group_added : (t : Phase) (entries : List (Entry A)) (result : Result changegroup.Grown AddFault)
            → Grows repo.bookmarks result
            → LeavesLawful
            (changegroup.handled_by (changegroup.handled_of source repo replying part t entries) place result)
        group_added t entries (Ok grown) are =
            let after = after_group source t entries grown are.rows are.phases in
            record {
              rows = are.rows;
              count = after.count;
              phases = after.lawful;
              markers = lawful.markers;
              names = lawful.names;
              bookmarks = are.bookmarks;
            }
        group_added t entries (Err fault) are = tt

        group_entries : (t : Phase) (entries : List (Entry A))
            → LeavesLawful (changegroup.handle_entries source repo replying place part t entries)
        unfolding changegroup.handle_entries
        group_entries t entries =
            let start : changegroup.Grown = record { rows = repo.rows; phases = repo.phases } in
            group_added t entries (changegroup.add_each repo.settings.limits t entries start)
            (each_added repo.bookmarks repo.settings.limits t entries start
            (record { rows = lawful.rows; phases = have_phases; bookmarks = lawful.bookmarks }))

        decoded : {E : Type 0} (target : Phase) (entries : Result (List (Entry A)) E)
            → LeavesLawful (changegroup.handle_decoded source repo replying place part target entries)
        decoded target (Ok entries) =
            group_entries (changegroup.phase_for source repo.settings target) entries
        decoded target (Err fault) = tt

        targeted : (target : Option Phase)
            → LeavesLawful (changegroup.handle_target source repo replying place part target)
        targeted (Some target) =
            decoded target (outcome_of (changegroup.version_of part.params) part.payload)
        targeted None = tt

        supported : (part_type : PartType)
            → LeavesLawful (handle_supported source repo replying place part part_type)
        supported ReplyCaps = lawful
        supported (Check kind) =
            checked (race_text kind) (answer_to kind repo.rows repo.phases repo.bookmarks part.payload)
        supported PhaseHeads = phase_entries (entries_of part.payload)
        supported Bookmarks = bookmark_entries (bookmark.entries_of part.payload)
        supported Obsmarkers = markers (markers_of part.payload) refl
        supported ChangeGroup = targeted (changegroup.target_of part.params)
        supported Pushkey = key_call (pushkey.call_of part.params)
        supported Output = lawful
        supported ErrorAbort = tt

        handled_as : (support : Support) → LeavesLawful (handle_as source repo replying place part support)
        handled_as (Supported part_type) = supported part_type
        handled_as (Unsupported names) = unsupported names

  pub stays_lawful : (source : Source) (repo : Repository A) (replying : Bool) (place : ℕ) (part : Part A)
      → IsLawful repo → IsBytes part.payload → LeavesLawful (handle source repo replying place part)
  stays_lawful source repo replying place part lawful bytes =
      handled_as repo lawful place part bytes replying source (support_of part)

-- nothing is lawful
pub none_lawful : {A : Type 0} (settings : Settings) → IsLawful (empty_with {A = A} settings)
none_lawful settings = record {
  rows = record {
    distinct = λ i j d less within. absurd (omega (arith, within));
    each = λ rev row at. absurd cc;
  };
  count = refl;
  phases = λ r within. absurd (omega (arith, within));
  markers = record {
    distinct = λ i j d less within. absurd (omega (arith, within));
    each = tt;
  };
  names = λ i j d less within. absurd (omega (arith, within));
  bookmarks = λ k d low. absurd (omega (arith, low));
}
