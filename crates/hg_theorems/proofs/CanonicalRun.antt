-- A push, and the parts of it that may change a repository: they lead to the same one.
use Rattle.std.proofs.Common.{◌≡◌, inl, inr, ℕ, ◌+◌, Bool, true, false, cond, not, List, [], ◌∷◌, codes, map}
use Rattle.std.proofs.Common.{Option, Some, None, Result, Ok, Err, find, filter, option_map, unwrap_or, refl, sym, ap, ◌∙◌, subst}
use Rattle.std.specs.Prelude.{bytes_eq}
use Rattle.std.specs.List.{cons_option, list_any}
use Rattle.std.proofs.lemmas.Bool.{cases_Bool}
use Rattle.std.proofs.lemmas.Slice.Eq.{bytes_eq-Decides}
use Rattle.hg_types.specs.declared.node.Node.{Node}
use Rattle.hg_types.specs.declared.entry.Entry.{Entry}
use Rattle.hg_types.specs.declared.part.Part.{Part}
use Rattle.hg_types.specs.declared.part.Param.{Param}
use Rattle.hg_types.specs.declared.phase.Phase.{Phase}
use Rattle.hg_types.specs.declared.phase.Phase.TheVariants.{Draft}
use Rattle.hg_log.specs.declared.add.AddFault.{AddFault}
use Rattle.hg_phases.specs.declared.fault.EntryFault.{EntryFault}
use Rattle.hg_phases.specs.Entries.{entries_of}
use Rattle.hg_obs.specs.declared.fault.MarkerFault.{MarkerFault}
use Rattle.hg_obs.specs.declared.marker.Marker.{Marker}
use Rattle.hg_obs.specs.Reading.{markers_of}
use Rattle.hg_keys.specs.declared.fault.KeyFault.{KeyFault}
use Rattle.hg_keys.specs.declared.keys.KeyCall.{KeyCall}
use Rattle.hg_keys.specs.Payload as bookmark
use Rattle.hg_keys.specs.PushKey.{Keys, key_pushed}
use Rattle.hg_checks.specs.Checked.{Answer}
use Rattle.hg_checks.specs.Checks.{checked as answer_to}
use Rattle.hg_cgroup.specs.Outcome.{outcome_of}
use Rattle.hg_parts.specs.declared.refusal.RaceText.{RaceText}
use Rattle.hg_parts.specs.declared.refusal.Refusal.{Refusal}
use Rattle.hg_parts.specs.declared.source.Source.TheVariants.{Push}
use Rattle.hg_parts.specs.declared.table.PartType.{PartType}
use Rattle.hg_parts.specs.declared.table.PartType.TheVariants.{ReplyCaps, Check, ChangeGroup, PhaseHeads, Bookmarks}
use Rattle.hg_parts.specs.declared.table.PartType.TheVariants.{Obsmarkers, Pushkey, Output, ErrorAbort}
use Rattle.hg_parts.specs.Repository.{Repository}
use Rattle.hg_parts.specs.Handled.{Handled, Outcome}
use Rattle.hg_parts.specs.Params.{value_of}
use Rattle.hg_parts.specs.PartTypes.{Row, Support, Supported, Unsupported, is_mandatory, is_unknown, race_text, row_of}
use Rattle.hg_parts.specs.PartTypes.{support_by, support_in, support_of, unknown_names}
use Rattle.hg_parts.specs.parts.Unsupported.{handle_unsupported}
use Rattle.hg_parts.specs.parts.Check.{handle_checked}
use Rattle.hg_parts.specs.parts.Changegroup as changegroup
use Rattle.hg_parts.specs.parts.PhaseHeads as phase_heads
use Rattle.hg_parts.specs.parts.Bookmarks as bookmarks
use Rattle.hg_parts.specs.parts.Obsmarkers as obsmarkers
use Rattle.hg_parts.specs.parts.Pushkey as pushkey
use Rattle.hg_parts.specs.Handle.{handle, handle_as, handle_supported}
use Rattle.hg_repo.specs.declared.done.Done.{Done}
use Rattle.hg_repo.specs.Run.{Progress, and_then, done_by, progress_after, run_from, run_of, start}
use Rattle.hg_push.specs.Run.{run_push}
use Rattle.hg_store_tools.specs.Canonical.{canonical_parts, is_named, names_by, names_for, params_named}
use Rattle.hg_store_tools.specs.Canonical.{with_params_named}

-- ---- parameters

abbrev key_names : List (List ℕ)
key_names = codes "namespace" ∷ codes "key" ∷ codes "old" ∷ codes "new" ∷ []

module _ {A : Type 0} where
  -- the test of one key, by the key
  key_is : (key : List ℕ) (names : List (List ℕ)) (param : Param A) → bytes_eq param.key key ≡ true
      → is_named names param ≡ list_any (λ name. bytes_eq name key) names
  key_is key names param same =
      ap (λ (k : List ℕ). list_any (λ name. bytes_eq name k) names) ((bytes_eq-Decides param.key key).0 same)

  -- a parameter whose name is among those that stay is found as before
  kept_found : (key : List ℕ) (names : List (List ℕ)) (params : List (Param A))
      → list_any (λ name. bytes_eq name key) names ≡ true
      → find (λ param. bytes_eq param.key key) (params_named names params)
      ≡ find (λ param. bytes_eq param.key key) params
  kept_found key names [] among = refl
  kept_found key names (param ∷ params) among =
      let more = params_named names params in
      let next = kept_found key names params among in
      elim (cases_Bool (bytes_eq param.key key)) [
        | inl is ↦
            ap (λ (b : Bool). find (λ it. bytes_eq it.key key) (cond b (param ∷ more) more))
            (key_is key names param is ∙ among)
            ∙ ap (λ (b : Bool). cond b (Some param) (find (λ it. bytes_eq it.key key) more)) is
            ∙ sym (ap (λ (b : Bool). cond b (Some param) (find (λ it. bytes_eq it.key key) params)) is)
        | inr not ↦
            (elim (is_named names param) as (λ b. find (λ it. bytes_eq it.key key) (cond b (param ∷ more) more)
            ≡ find (λ it. bytes_eq it.key key) more) [
              | true ↦ ap (λ (b : Bool). cond b (Some param) (find (λ it. bytes_eq it.key key) more)) not
              | false ↦ refl
            ])
            ∙ next
            ∙ sym (ap (λ (b : Bool). cond b (Some param) (find (λ it. bytes_eq it.key key) params)) not)
      ]

  -- and one whose name is not is gone
  dropped_found : (key : List ℕ) (names : List (List ℕ)) (params : List (Param A))
      → list_any (λ name. bytes_eq name key) names ≡ false
      → find (λ param. bytes_eq param.key key) (params_named names params) ≡ None
  dropped_found key names [] among = refl
  dropped_found key names (param ∷ params) among =
      let more = params_named names params in
      let next = dropped_found key names params among in
      elim (cases_Bool (bytes_eq param.key key)) [
        | inl is ↦
            ap (λ (b : Bool). find (λ it. bytes_eq it.key key) (cond b (param ∷ more) more))
            (key_is key names param is ∙ among)
            ∙ next
        | inr not ↦
            (elim (is_named names param) as (λ b. find (λ it. bytes_eq it.key key) (cond b (param ∷ more) more)
            ≡ find (λ it. bytes_eq it.key key) more) [
              | true ↦ ap (λ (b : Bool). cond b (Some param) (find (λ it. bytes_eq it.key key) more)) not
              | false ↦ refl
            ])
            ∙ next
      ]

  kept_value : (key : List ℕ) (names : List (List ℕ)) (params : List (Param A))
      → list_any (λ name. bytes_eq name key) names ≡ true
      → value_of key (params_named names params) ≡ value_of key params
  kept_value key names params among = ap (option_map (λ param. param.value)) (kept_found key names params among)

  dropped_value : (key : List ℕ) (names : List (List ℕ)) (params : List (Param A))
      → list_any (λ name. bytes_eq name key) names ≡ false → value_of key (params_named names params) ≡ None
  dropped_value key names params among = ap (option_map (λ param. param.value)) (dropped_found key names params among)

  version_kept : (params : List (Param A))
      → changegroup.version_of (params_named (codes "version" ∷ []) params) ≡ changegroup.version_of params
  unfolding changegroup.version_of
  version_kept params =
      ap (λ o. unwrap_or o (codes "01")) (kept_value (codes "version") (codes "version" ∷ []) params refl)

  target_dropped : (params : List (Param A))
      → changegroup.target_of (params_named (codes "version" ∷ []) params) ≡ Some Draft
  unfolding changegroup.target_of
  target_dropped params =
      ap changegroup.target_in (dropped_value (codes "targetphase") (codes "version" ∷ []) params refl)

  call_kept : (params : List (Param A)) → pushkey.call_of (params_named key_names params) ≡ pushkey.call_of params
  unfolding pushkey.call_of
  call_kept params =
      let kept = params_named key_names params in
      ap (λ o. pushkey.call_in o (value_of (codes "key") kept) (value_of (codes "old") kept)
      (value_of (codes "new") kept)) (kept_value (codes "namespace") key_names params refl)
      ∙ ap (λ o. pushkey.call_in (value_of (codes "namespace") params) o (value_of (codes "old") kept)
      (value_of (codes "new") kept)) (kept_value (codes "key") key_names params refl)
      ∙ ap (λ o. pushkey.call_in (value_of (codes "namespace") params) (value_of (codes "key") params) o
      (value_of (codes "new") kept)) (kept_value (codes "old") key_names params refl)
      ∙ ap (λ o. pushkey.call_in (value_of (codes "namespace") params) (value_of (codes "key") params)
      (value_of (codes "old") params) o) (kept_value (codes "new") key_names params refl)

  -- fewer parameters leave a part supported
  still_by : (part_type other : PartType) (known names : List (List ℕ)) (params : List (Param A))
      → support_by part_type (unknown_names known params) ≡ Supported other
      → support_by part_type (unknown_names known (params_named names params)) ≡ Supported other
  still_by part_type other known names [] is = is
  still_by part_type other known names (param ∷ params) is =
      elim (cases_Bool (is_unknown known param)) [
        | inl unknown ↦
            let against : Unsupported (param.key ∷ unknown_names known params) ≡ Supported other =
            sym (ap (λ (b : Bool). support_by part_type (map (λ p. p.key) (cond b
            (param ∷ filter (is_unknown known) params) (filter (is_unknown known) params)))) unknown) ∙ is in
            absurd (let no : ⊥ = cc in no)
        | inr none ↦
            let rest : support_by part_type (unknown_names known params) ≡ Supported other =
            sym (ap (λ (b : Bool). support_by part_type (map (λ p. p.key) (cond b
            (param ∷ filter (is_unknown known) params) (filter (is_unknown known) params)))) none) ∙ is in
            let more = params_named names params in
            (elim (is_named names param) as (λ b. support_by part_type (unknown_names known
            (cond b (param ∷ more) more)) ≡ support_by part_type (unknown_names known more)) [
              | true ↦ ap (λ (b : Bool). support_by part_type (map (λ p. p.key) (cond b
                  (param ∷ filter (is_unknown known) more) (filter (is_unknown known) more)))) none
              | false ↦ refl
            ])
            ∙ still_by part_type other known names params rest
      ]

  still_in : (row : Option Row) (other : PartType) (names : List (List ℕ)) (params : List (Param A))
      → support_in params row ≡ Supported other → support_in (params_named names params) row ≡ Supported other
  still_in None other names params is = absurd (let no : ⊥ = cc in no)
  still_in (Some row) other names params is = still_by row.part_type other row.known names params is

  -- ---- one part

  -- where the one is handled the other is, and leaves the same repository
  abbrev Follows : Outcome A → Outcome A → Type 0
  Follows (Ok given) (Ok other) = other.repo ≡ given.repo
  Follows (Ok given) (Err refusal) = ⊥
  Follows (Err refusal) other = Unit {0}

  -- where it is handled, it leaves the repository as it was
  abbrev LeavesSame : Repository A → Outcome A → Type 0
  LeavesSame repo (Ok given) = given.repo ≡ repo
  LeavesSame repo (Err refusal) = Unit {0}

  either : (test : Bool) (x y v w : Outcome A) → Follows x v → Follows y w → Follows (cond test x y) (cond test v w)
  either true x y v w first second = first
  either false x y v w first second = second

  phase_entries : (repo : Repository A) (place other : ℕ) (entries : Result (List (Phase × Node)) EntryFault)
      → Follows (phase_heads.handle_read repo place entries) (phase_heads.handle_read repo other entries)
  phase_entries repo place other (Ok entries) =
      either (phase_heads.are_known repo.rows entries) _ _ _ _ refl tt
  phase_entries repo place other (Err fault) = tt

  bookmark_entries : (repo : Repository A) (place other : ℕ) (entries : Option (List bookmark.Entry))
      → Follows (bookmarks.handle_read repo place entries) (bookmarks.handle_read repo other entries)
  bookmark_entries repo place other (Some entries) =
      either (bookmarks.are_known repo.rows entries) _ _ _ _ refl tt
  bookmark_entries repo place other None = tt

  markers : (repo : Repository A) (r s : Bool) (place other : ℕ) (part again : Part A)
      (added : Result (List (Marker A)) MarkerFault)
      → Follows (obsmarkers.handle_read repo r place part added) (obsmarkers.handle_read repo s other again added)
  markers repo r s place other part again (Ok added) = refl
  markers repo r s place other part again (Err fault) = tt

  pushed : (repo : Repository A) (r s : Bool) (place other : ℕ) (part : Part A) (names : List (List ℕ))
      (call : KeyCall A) (answer : Result (Keys A × Bool) KeyFault)
      → Follows (pushkey.handle_pushed repo r place part call answer)
      (pushkey.handle_pushed repo s other (with_params_named part names) call answer)
  pushed repo r s place other part names call (Ok (keys, done)) =
      either (pushkey.is_refused part done) _ _ _ _ tt refl
  pushed repo r s place other part names call (Err fault) = tt

  key_call : (repo : Repository A) (r s : Bool) (place other : ℕ) (part : Part A) (names : List (List ℕ))
      (call : Option (KeyCall A)) → Follows (pushkey.handle_call repo r place part call)
      (pushkey.handle_call repo s other (with_params_named part names) call)
  key_call repo r s place other part names (Some call) =
      pushed repo r s place other part names call (key_pushed repo.rows (pushkey.keys_of repo) call)
  key_call repo r s place other part names None = tt

  group_added : (repo : Repository A) (r s : Bool) (place other : ℕ) (part again : Part A) (t : Phase)
      (entries : List (Entry A)) (result : Result changegroup.Grown AddFault) → Follows
      (changegroup.handled_by (changegroup.handled_of Push repo r part t entries) place result)
      (changegroup.handled_by (changegroup.handled_of Push repo s again t entries) other result)
  group_added repo r s place other part again t entries (Ok grown) = refl
  group_added repo r s place other part again t entries (Err fault) = tt

  group_entries : (repo : Repository A) (r s : Bool) (place other : ℕ) (part again : Part A) (t : Phase)
      (entries : List (Entry A)) → Follows (changegroup.handle_entries Push repo r place part t entries)
      (changegroup.handle_entries Push repo s other again t entries)
  unfolding changegroup.handle_entries
  group_entries repo r s place other part again t entries =
      group_added repo r s place other part again t entries _

  -- a push has the server's phase, whatever phase its part names
  decoded : {E : Type 0} (repo : Repository A) (r s : Bool) (place other : ℕ) (part again : Part A)
      (target named : Phase) (entries : Result (List (Entry A)) E)
      → Follows (changegroup.handle_decoded Push repo r place part target entries)
      (changegroup.handle_decoded Push repo s other again named entries)
  decoded repo r s place other part again target named (Ok entries) =
      group_entries repo r s place other part again _ entries
  decoded repo r s place other part again target named (Err fault) = tt

  targeted : (repo : Repository A) (r s : Bool) (place other : ℕ) (part again : Part A) (target : Option Phase)
      (named : Phase) → changegroup.version_of again.params ≡ changegroup.version_of part.params
      → again.payload ≡ part.payload → Follows (changegroup.handle_target Push repo r place part target)
      (changegroup.handle_target Push repo s other again (Some named))
  targeted repo r s place other part again (Some target) named same_version same_payload =
      subst (λ (version : List ℕ). Follows (changegroup.handle_target Push repo r place part (Some target))
      (changegroup.handle_decoded Push repo s other again named (outcome_of version again.payload))) (sym same_version)
      (subst (λ (payload : List ℕ). Follows (changegroup.handle_target Push repo r place part (Some target))
      (changegroup.handle_decoded Push repo s other again named (outcome_of (changegroup.version_of part.params) payload)))
      (sym same_payload) (decoded repo r s place other part again target named
      (outcome_of (changegroup.version_of part.params) part.payload)))
  targeted repo r s place other part again None named same_version same_payload = tt

  -- a part of a type that may change the repository
  supported : (repo : Repository A) (r s : Bool) (place other : ℕ) (part : Part A) (part_type : PartType)
      (names : List (List ℕ)) → names_for part_type ≡ Some names
      → Follows (handle_supported Push repo r place part part_type)
      (handle_supported Push repo s other (with_params_named part names) part_type)
  supported repo r s place other part ReplyCaps names is = absurd (let no : ⊥ = cc in no)
  supported repo r s place other part (Check kind) names is = absurd (let no : ⊥ = cc in no)
  supported repo r s place other part PhaseHeads names is = phase_entries repo place other (entries_of part.payload)
  supported repo r s place other part Bookmarks names is =
      bookmark_entries repo place other (bookmark.entries_of part.payload)
  supported repo r s place other part Obsmarkers names is =
      markers repo r s place other part (with_params_named part names) (markers_of part.payload)
  supported repo r s place other part ChangeGroup names is =
      let names_are : codes "version" ∷ [] ≡ names = cc in
      subst (λ (ns : List (List ℕ)). Follows (handle_supported Push repo r place part ChangeGroup)
      (handle_supported Push repo s other (with_params_named part ns) ChangeGroup)) names_are
      (subst (λ (o : Option Phase). Follows (handle_supported Push repo r place part ChangeGroup)
      (changegroup.handle_target Push repo s other (with_params_named part (codes "version" ∷ [])) o))
      (sym (target_dropped part.params))
      (targeted repo r s place other part (with_params_named part (codes "version" ∷ []))
      (changegroup.target_of part.params) Draft (version_kept part.params) refl))
  supported repo r s place other part Pushkey names is =
      let names_are : key_names ≡ names = cc in
      subst (λ (ns : List (List ℕ)). Follows (handle_supported Push repo r place part Pushkey)
      (handle_supported Push repo s other (with_params_named part ns) Pushkey)) names_are
      (subst (λ (o : Option (KeyCall A)). Follows (handle_supported Push repo r place part Pushkey)
      (pushkey.handle_call repo s other (with_params_named part key_names) o)) (sym (call_kept part.params))
      (key_call repo r s place other part key_names (pushkey.call_of part.params)))
  supported repo r s place other part Output names is = absurd (let no : ⊥ = cc in no)
  supported repo r s place other part ErrorAbort names is = absurd (let no : ⊥ = cc in no)

  -- a part of a type that changes nothing
  one_or_other : (repo : Repository A) (test : Bool) (x y : Outcome A) → LeavesSame repo x → LeavesSame repo y
      → LeavesSame repo (cond test x y)
  one_or_other repo true x y first second = first
  one_or_other repo false x y first second = second

  checked : (repo : Repository A) (place : ℕ) (text : RaceText) (answer : Answer)
      → LeavesSame repo (handle_checked repo place text answer)
  checked repo place text (Ok content) = refl
  checked repo place text (Err fault) = tt

  unsupported : (repo : Repository A) (place : ℕ) (part : Part A) (names : List (List ℕ))
      → LeavesSame repo (handle_unsupported repo place part names)
  unsupported repo place part names = one_or_other repo (is_mandatory part.kind) _ _ tt refl

  idle : (repo : Repository A) (r : Bool) (place : ℕ) (part : Part A) (part_type : PartType)
      → names_for part_type ≡ None → LeavesSame repo (handle_supported Push repo r place part part_type)
  idle repo r place part ReplyCaps is = refl
  idle repo r place part (Check kind) is =
      checked repo place (race_text kind) (answer_to kind repo.rows repo.phases repo.bookmarks part.payload)
  idle repo r place part PhaseHeads is = absurd (let no : ⊥ = cc in no)
  idle repo r place part Bookmarks is = absurd (let no : ⊥ = cc in no)
  idle repo r place part Obsmarkers is = absurd (let no : ⊥ = cc in no)
  idle repo r place part ChangeGroup is = absurd (let no : ⊥ = cc in no)
  idle repo r place part Pushkey is = absurd (let no : ⊥ = cc in no)
  idle repo r place part Output is = refl
  idle repo r place part ErrorAbort is = tt

  idle_as : (repo : Repository A) (r : Bool) (place : ℕ) (part : Part A) (support : Support)
      → names_by support ≡ None → LeavesSame repo (handle_as Push repo r place part support)
  idle_as repo r place part (Supported part_type) is = idle repo r place part part_type is
  idle_as repo r place part (Unsupported names) is = unsupported repo place part names

  kept_as : (repo : Repository A) (r s : Bool) (place other : ℕ) (part : Part A) (names : List (List ℕ))
      (support : Support) → support_of part ≡ support → names_by support ≡ Some names
      → Follows (handle_as Push repo r place part support) (handle Push repo s other (with_params_named part names))
  kept_as repo r s place other part names (Supported part_type) is kept =
      subst (λ (support : Support). Follows (handle_supported Push repo r place part part_type)
      (handle_as Push repo s other (with_params_named part names) support))
      (sym (still_in (row_of part.kind) part_type names part.params is))
      (supported repo r s place other part part_type names kept)
  kept_as repo r s place other part names (Unsupported unknown) is kept = absurd (let no : ⊥ = cc in no)

  -- ---- runs

  -- such a run is done with the same repository
  abbrev Reaches : Repository A → Result (Progress A) (Refusal A) → Type 0
  Reaches repo result = (last : Progress A) × (result ≡ Ok last) × (last.repo ≡ repo)

  after_kept : (outcome again : Outcome A) (next then : Handled A → Result (Progress A) (Refusal A))
      (repo : Repository A) (q : Progress A) → Follows outcome again → and_then outcome next ≡ Ok q
      → ((given other : Handled A) → other.repo ≡ given.repo → next given ≡ Ok q → Reaches repo (then other))
      → Reaches repo (and_then again then)
  after_kept (Ok given) (Ok other) next then repo q follows ran rest = rest given other follows ran
  after_kept (Ok given) (Err refusal) next then repo q follows ran rest = absurd follows
  after_kept (Err refusal) again next then repo q follows ran rest = absurd (let no : ⊥ = cc in no)

  after_idle : (before repo : Repository A) (outcome : Outcome A) (next : Handled A → Result (Progress A) (Refusal A))
      (result : Result (Progress A) (Refusal A)) (q : Progress A) → LeavesSame before outcome
      → and_then outcome next ≡ Ok q
      → ((given : Handled A) → given.repo ≡ before → next given ≡ Ok q → Reaches repo result)
      → Reaches repo result
  after_idle before repo (Ok given) next result q same ran rest = rest given same ran
  after_idle before repo (Err refusal) next result q same ran rest = absurd (let no : ⊥ = cc in no)

  run_kept : (parts : List (Part A)) (place other : ℕ) (progress behind : Progress A) (q : Progress A)
      → behind.repo ≡ progress.repo → run_from Push place progress parts ≡ Ok q
      → Reaches q.repo (run_from Push other behind (canonical_parts parts))
  run_kept [] place other progress behind q same ran =
      let is : progress ≡ q = cc in (behind, refl, same ∙ ap (λ (p : Progress A). p.repo) is)
  run_kept (part ∷ parts) place other progress behind q same ran =
      by (names_by (support_of part)) refl
      (λ given after next same_repo rest. run_kept parts (place + 1) next (progress_after place progress part given)
      after q same_repo rest)
    where
      by : (kept : Option (List (List ℕ))) → names_by (support_of part) ≡ kept
          → ((given : Handled A) (after : Progress A) (next : ℕ) → after.repo ≡ given.repo
          → run_from Push (place + 1) (progress_after place progress part given) parts ≡ Ok q
          → Reaches q.repo (run_from Push next after (canonical_parts parts)))
          → Reaches q.repo (run_from Push other behind (cons_option (option_map (with_params_named part) kept)
          (canonical_parts parts)))
      by None is rest =
          after_idle progress.repo q.repo (handle Push progress.repo progress.replying place part)
          (λ given. run_from Push (place + 1) (progress_after place progress part given) parts) _ q
          (idle_as progress.repo progress.replying place part (support_of part) is) ran
          (λ given same_repo then. rest given behind other (same ∙ sym same_repo) then)
      by (Some names) is rest =
          let again = with_params_named part names in
          after_kept (handle Push progress.repo progress.replying place part)
          (handle Push behind.repo behind.replying other again)
          (λ given. run_from Push (place + 1) (progress_after place progress part given) parts)
          (λ given. run_from Push (other + 1) (progress_after other behind again given) (canonical_parts parts))
          q.repo q
          (subst (λ (repo : Repository A). Follows (handle Push progress.repo progress.replying place part)
          (handle Push repo behind.replying other again)) (sym same)
          (kept_as progress.repo progress.replying behind.replying place other part names (support_of part) refl is))
          ran
          (λ given more same_repo then. rest given (progress_after other behind again more) (other + 1) same_repo then)

  abbrev repo_or : Repository A → Result (Repository A × Done A) (Refusal A) → Repository A
  repo_or other (Ok done) = done.0
  repo_or other (Err refusal) = other

  pub push_kept : (first last : Repository A) (parts : List (Part A)) (done : Done A)
      → run_push first parts ≡ Ok (last, done)
      → (others : Done A) × (run_push first (canonical_parts parts) ≡ Ok (last, others))
  unfolding run_of
  push_kept first last parts done ran =
      by (run_from Push 0 (start first) parts) refl ran
    where
      by : (result : Result (Progress A) (Refusal A)) → run_from Push 0 (start first) parts ≡ result
          → done_by result ≡ Ok (last, done)
          → (others : Done A) × (done_by (run_from Push 0 (start first) (canonical_parts parts)) ≡ Ok (last, others))
      by (Ok progress) is ended =
          let reached = run_kept parts 0 0 (start first) (start first) progress refl is in
          let last_is : progress.repo ≡ last = ap (repo_or last) ended in (
            record { replies = reached.0.replies; handled = reached.0.handled },
            ap done_by reached.1 ∙ ap (λ (repo : Repository A). Ok (
              repo,
              record {
                replies = reached.0.replies;
                handled = reached.0.handled;
              },
            )) (reached.2 ∙ last_is),
          )
      by (Err refusal) is ended = absurd (let no : ⊥ = cc in no)
