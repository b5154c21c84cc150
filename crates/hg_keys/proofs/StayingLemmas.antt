-- Keys stay lawful.
use Rattle.std.proofs.Common.{◌≡◌, ◌+◌, ◌%◌, ◌&&◌, ℕ, zero, suc, Bool, true, false}
use Rattle.std.proofs.Common.{cond, List, [], ◌∷◌, ◌++◌, length}
use Rattle.std.proofs.Common.{Option, Some, None, Result, Ok, Err, IfOk, refl, sym, ◌∙◌, subst}
use Rattle.std.proofs.Common.{arith}
use Rattle.std.specs.Int.{w32, to_be_bytes}
use Rattle.std.specs.List.{flat_map, AllByRecursion}
use Rattle.std.proofs.lemmas.List.Concat.{flat_map-cons}
use Rattle.hg_types.specs.Bytes.{IsBytes}
use Rattle.hg_types.specs.declared.node.Node.{Node}
use Rattle.hg_types.specs.declared.phase.Phase.{Phase}
use Rattle.hg_keys.specs.Bookmarks.{Pairs, AreInOrder, node_of}
use Rattle.hg_keys.proofs.GrammarLemmas.{bytes_before}
use Rattle.hg_obs.specs.Base85.{group_bytes, filled_value, fives, fits, is_digit, decoded}
use Rattle.hg_obs.specs.declared.fault.Base85Fault.{Base85Fault}
use Rattle.hg_keys.specs.declared.fault.KeyFault.{KeyFault}
use Rattle.hg_keys.specs.declared.keys.KeyCall.{KeyCall}
use Rattle.hg_keys.specs.Known.{phase_of_node, AreOnKnown}
use Rattle.hg_keys.specs.PushKey.{Keys, AreLawful, node_in_hex, phase_in_text, target_in_text}
use Rattle.hg_keys.specs.PushKey.{moved_known, moved_as_read, phase_pushed, is_divergent, is_settable}
use Rattle.hg_keys.specs.PushKey.{is_known_target, are_same, value_of, bookmark_set, bookmark_pushed}
use Rattle.hg_keys.specs.PushKey.{merged_as_read, merged_as_decoded, markers_pushed, is_empty, with_phases}
use Rattle.hg_keys.specs.PushKey.{with_bookmarks, with_markers, key_pushed}
use Rattle.hg_keys.proofs.CallerLemmas.{with_on_known}
use Rattle.hg_keys.proofs.PartsLemmas.{in_order_with}
use Rattle.hg_log.specs.Changeset.{Changeset}
use Rattle.hg_log.specs.Parents.{parents_of, rev_of}
use Rattle.hg_log.specs.Rows.{AreLawful as AreLawfulRows}
use Rattle.hg_phases.specs.Phases.{registered, advanced, AreLawful as AreLawfulPhases}
use Rattle.hg_obs.specs.declared.fault.MarkerFault.{MarkerFault}
use Rattle.hg_obs.specs.declared.marker.Marker.{Marker}
use Rattle.hg_obs.specs.Grammar.{AreMarkers}
use Rattle.hg_obs.specs.Marker.{IsMarker}
use Rattle.hg_obs.specs.Markers.{merged, AreLawful as AreLawfulMarkers}
use Rattle.hg_obs.specs.Reading.{markers_of}
use Rattle.hg_types.specs.Phase.{number_of}
use Rattle.std.proofs.lemmas.Bool.{and_parts}
use Rattle.std.specs.Option.{option_to_list}
use Rattle.std.specs.List.{list_all, starts_with}
use Rattle.std.specs.Prelude.{◌↔◌, ◌||◌, ◌==◌, bytes_eq, codes, nat_eq, nat_lt}

-- ---- what is decoded is bytes

bytes_append : (xs ys : List ℕ) → IsBytes xs → IsBytes ys → IsBytes (xs ++ ys)
bytes_append [] ys first second i = second i
bytes_append (x ∷ xs) ys first second zero = first 0
bytes_append (x ∷ xs) ys first second (suc i) = bytes_append xs ys (λ k. first (suc k)) second i

four_bytes : (value : ℕ) → IsBytes (to_be_bytes w32 value)
four_bytes value zero = omega arith
four_bytes value (suc zero) = omega arith
four_bytes value (suc (suc zero)) = omega arith
four_bytes value (suc (suc (suc zero))) = omega arith
four_bytes value (suc (suc (suc (suc i)))) = omega arith

pub groups_bytes : (groups : List (List ℕ)) → IsBytes (flat_map group_bytes groups)
groups_bytes [] = λ i. omega arith
groups_bytes (group ∷ groups) =
    subst IsBytes (sym (flat_map-cons group_bytes group groups))
    (bytes_append (group_bytes group) (flat_map group_bytes groups)
    (bytes_before _ (to_be_bytes w32 (filled_value group)) (four_bytes (filled_value group)))
    (groups_bytes groups))

-- where a test decides, both ways are right
either : {X : Type 0} (P : X → Type 0) (test : Bool) (x y : X) → (test ≡ true → P x) → P y → P (cond test x y)
either P true x y first second = first refl
either P false x y first second = second

decoded_bytes : (text : List ℕ) → IfOk (decoded text) IsBytes
decoded_bytes text =
    either Bytes (list_all is_digit text) _ _
    (λ digits. either Bytes (length text % 5 == 1) _ _ (λ short. tt)
    (either Bytes (list_all fits (fives text)) _ _ (λ fit. groups_bytes (fives text)) tt)) tt
  where
    Bytes : Result (List ℕ) Base85Fault → Type 0
    Bytes result = IfOk result IsBytes

-- ---- keys

-- the laws of the crates below, as their calls give them
abbrev pub AdvancedStay : Type 0
AdvancedStay = (rows : List Changeset) (target : Phase) (heads : List ℕ) (phases : List Phase) →
    AreLawfulRows rows → AreLawfulPhases (parents_of rows) phases
    → AreLawfulPhases (parents_of rows) (advanced (parents_of rows) target heads phases)

abbrev pub CountsStay : Type 0
CountsStay = (parents : ℕ → Option ℕ × Option ℕ) (target : Phase) (heads : List ℕ) (phases : List Phase)
    → (length (registered parents target phases) ≡ length phases + 1)
    × (length (advanced parents target heads phases) ≡ length phases)

abbrev pub MarkersAreRead : Type 0 → Type 0
MarkersAreRead A = (bytes : List ℕ) (markers : List (Marker A)) → IsBytes bytes →
    (markers_of bytes ≡ Ok markers) ↔ AreMarkers bytes markers

abbrev pub MergedStay : Type 0 → Type 0
MergedStay A = (old added : List (Marker A)) → AreLawfulMarkers old → AllByRecursion IsMarker added →
    AreLawfulMarkers (merged old added)

module _ (advanced_stay : AdvancedStay) (counts : CountsStay) (rows : List Changeset)
    (lawful_rows : AreLawfulRows rows) where
  -- ---- phases

  record HavePhases (phases : List Phase) : Type 0 where
    count : length phases ≡ length rows
    lawful : AreLawfulPhases (parents_of rows) phases

  abbrev Keep : List Phase × Bool → Type 0
  Keep pushed = HavePhases pushed.0

  advanced_kept : (phases : List Phase) → HavePhases phases → (target : Phase) (heads : List ℕ) →
      HavePhases (advanced (parents_of rows) target heads phases)
  advanced_kept phases have target heads = record {
    count = (counts (parents_of rows) target heads phases).1 ∙ have.count;
    lawful = advanced_stay rows target heads phases lawful_rows have.lawful;
  }

  module _ (phases : List Phase) (have : HavePhases phases) where
    known_moved : (node : Node) (old new : Phase) (current : Option Phase) →
        Keep (moved_known rows phases node old new current)
    known_moved node old new None = have
    known_moved node old new (Some current) =
        either Keep ((number_of current == number_of old) && nat_lt (number_of new) (number_of old)) _ _
        (λ lower. advanced_kept phases have new (option_to_list (rev_of rows node.0))) have

    read_moved : (node : Option Node) (old new : Option Phase) → Keep (moved_as_read rows phases node old new)
    read_moved (Some node) (Some old) (Some new) = known_moved node old new (phase_of_node rows phases node)
    read_moved (Some node) (Some old) None = have
    read_moved (Some node) None new = have
    read_moved None old new = have

  -- ---- bookmarks

  record HavePairs (pairs : Pairs) : Type 0 where
    names : AreInOrder pairs
    known : AreOnKnown rows pairs

  abbrev Hold : Pairs × Bool → Type 0
  Hold pushed = HavePairs pushed.0

  module _ (pairs : Pairs) (have : HavePairs pairs) where
    set_held : (key old : List ℕ) (target : Option (Option Node)) →
        Hold (bookmark_set rows pairs key old target)
    set_held key old None = have
    set_held key old (Some target) =
        either Hold (is_settable rows (node_of pairs key) old target) _ _ (λ settable.
        let known = (and_parts (bytes_eq (value_of (node_of pairs key)) old || are_same
        (node_of pairs key) target) (is_known_target rows target) settable).1 in
        record {
          names = in_order_with pairs key have.names target;
          known = with_on_known rows pairs key target known have.known;
        })
        have

    pushed_held : (key old new : List ℕ) → Hold (bookmark_pushed rows pairs key old new)
    pushed_held key old new =
        either Hold (is_divergent key) _ _ (λ divergent. have) (set_held key old (target_in_text new))

  -- ---- markers

  module _ {A : Type 0} (are_read : MarkersAreRead A) (merged_stay : MergedStay A) where
    abbrev Stand : Result (List (Marker A) × Bool) KeyFault → Type 0
    Stand result = IfOk result (λ pushed. AreLawfulMarkers pushed.0)

    read_merged : (markers : List (Marker A)) → AreLawfulMarkers markers → (bytes : List ℕ) → IsBytes bytes →
        (read : Result (List (Marker A)) MarkerFault)
        → markers_of bytes ≡ read → Stand (merged_as_read markers read)
    read_merged markers lawful bytes are (Ok added) is =
        merged_stay markers added lawful ((are_read bytes added are).0 is).each
    read_merged markers lawful bytes are (Err fault) is = tt

    decoded_merged : (markers : List (Marker A)) → AreLawfulMarkers markers →
        (text : Result (List ℕ) Base85Fault) → IfOk text IsBytes → Stand (merged_as_decoded markers text)
    decoded_merged markers lawful (Ok bytes) are =
        read_merged markers lawful bytes are (markers_of bytes) refl
    decoded_merged markers lawful (Err fault) are = tt

    markers_stand : (markers : List (Marker A)) → AreLawfulMarkers markers → (key old new : List ℕ) →
        Stand (markers_pushed markers key old new)
    markers_stand markers lawful key old new =
        either Stand (starts_with nat_eq key (codes "dump")
        && is_empty old) _ _ (λ dump. decoded_merged markers lawful (decoded new)
        (decoded_bytes new)) lawful

    -- ---- the table

    abbrev Stay : Result (Keys A × Bool) KeyFault → Type 0
    Stay result = IfOk result (λ pushed. AreLawful rows pushed.0)

    module _ (keys : Keys A) (lawful : AreLawful rows keys) where
      phases_stay : (pushed : List Phase × Bool) → Keep pushed → Stay (Ok (with_phases keys pushed))
      phases_stay pushed kept = record {
        count = kept.count;
        phases = kept.lawful;
        markers = lawful.markers;
        names = lawful.names;
        bookmarks = lawful.bookmarks;
      }

      bookmarks_stay : (pushed : Pairs × Bool) → Hold pushed → Stay (Ok (with_bookmarks keys pushed))
      bookmarks_stay pushed held = record {
        count = lawful.count;
        phases = lawful.phases;
        markers = lawful.markers;
        names = held.names;
        bookmarks = held.known;
      }

      markers_stay : (pushed : Result (List (Marker A) × Bool) KeyFault) → Stand pushed →
          Stay (with_markers keys pushed)
      markers_stay (Ok pushed) stands = record {
        count = lawful.count;
        phases = lawful.phases;
        markers = stands;
        names = lawful.names;
        bookmarks = lawful.bookmarks;
      }
      markers_stay (Err fault) stands = tt

      pub keys_stay : (call : KeyCall A) → Stay (key_pushed rows keys call)
      unfolding key_pushed
      keys_stay call =
          either Stay (bytes_eq call.namespace (codes "phases")) _ _
          (λ is. phases_stay (phase_pushed rows keys.phases call.key call.old call.new)
          (read_moved keys.phases (record { count = lawful.count; lawful = lawful.phases })
          (node_in_hex call.key) (phase_in_text call.old) (phase_in_text call.new)))
          (either Stay (bytes_eq call.namespace (codes "bookmarks")) _ _
          (λ is. bookmarks_stay (bookmark_pushed rows keys.bookmarks call.key call.old call.new)
          (pushed_held keys.bookmarks
          (record { names = lawful.names; known = lawful.bookmarks }) call.key call.old call.new))
          (either Stay (bytes_eq call.namespace (codes "obsolete")) _ _
          (λ is. markers_stay (markers_pushed keys.markers call.key call.old call.new)
          (markers_stand keys.markers lawful.markers call.key call.old call.new))
          lawful))
