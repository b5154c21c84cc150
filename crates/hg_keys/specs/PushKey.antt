-- Pushkey: what setting a key to a new value does, by namespace. Keys and values are bytes.
use Rattle.std.specs.Prelude.{◌≡◌, length, ℕ, Bool, true, false, not, ◌&&◌, ◌||◌, ◌==◌, nat_eq, nat_lt, List}
use Rattle.std.specs.Prelude.{[], ◌∷◌}
use Rattle.std.specs.Prelude.{Option, Some, None, option_map, Result, Ok, Err, codes, bytes_eq, if◌then◌else◌}
use Rattle.std.specs.Option.{option_to_list}
use Rattle.std.specs.List.{list_any, starts_with, ends_with}
use Rattle.hex.specs.Hex.{decode_sized, encode_lower}
use Rattle.hex.specs.declared.error.FromHexError.{FromHexError}
use Rattle.hg_types.specs.Phase.{number_of}
use Rattle.hg_types.specs.declared.node.Node.{Node}
use Rattle.hg_types.specs.declared.phase.Phase.{Phase}
use Rattle.hg_types.specs.declared.phase.Phase.TheVariants.{Public, Draft, Secret}
use Rattle.hg_log.specs.Changeset.{Changeset}
use Rattle.hg_log.specs.Parents.{rev_of, parents_of}
use Rattle.hg_phases.specs.Phases.{advanced, AreLawful as AreLawfulPhases}
use Rattle.hg_obs.specs.declared.marker.Marker.{Marker}
use Rattle.hg_obs.specs.declared.fault.MarkerFault.{MarkerFault}
use Rattle.hg_obs.specs.Markers.{merged, AreLawful as AreLawfulMarkers}
use Rattle.hg_obs.specs.Reading.{markers_of}
use Rattle.hg_obs.specs.declared.fault.Base85Fault.{Base85Fault}
use Rattle.hg_keys.specs.declared.fault.KeyFault.{KeyFault}
use Rattle.hg_keys.specs.declared.fault.KeyFault.TheVariants.{BadBase85, BadMarkers}
use Rattle.hg_keys.specs.declared.keys.KeyCall.{KeyCall}
use Rattle.hg_obs.specs.Base85.{decoded}
use Rattle.hg_keys.specs.Bookmarks.{Pairs, AreInOrder, node_of, with_bookmark}
use Rattle.hg_keys.specs.Known.{is_known, phase_of_node, AreOnKnown}

-- ---- text

-- the id that the digits spell, if they do
abbrev pub node_from : Result (List ℕ) FromHexError → Option Node
node_from (Ok id) = Some (record { 0 = id })
node_from (Err fault) = None

-- the id that 40 hexadecimal digits in either case are
unfoldable pub node_in_hex : List ℕ → Option Node
node_in_hex text = node_from (decode_sized text 20)

-- the phase that the digit 0, 1 or 2 is the number of
abbrev pub phase_in_text : List ℕ → Option Phase
phase_in_text text =
    if bytes_eq text (codes "0") then Some Public else if bytes_eq text (codes "1") then Some Draft
    else if bytes_eq text (codes "2") then Some Secret else None

-- a bookmark's value: the id in lower case hexadecimal digits, or nothing
unfoldable pub value_of : Option Node → List ℕ
value_of None = []
value_of (Some node) = encode_lower node.0

-- the value that is asked for: nothing, or 40 hexadecimal digits
abbrev pub target_in_text : List ℕ → Option (Option Node)
target_in_text [] = Some None
target_in_text (byte ∷ bytes) = option_map (λ node. Some node) (node_in_hex (byte ∷ bytes))

-- ---- phases

-- the digits name a phase below the present one, which is as the client thinks: the changeset and its
-- ancestors are advanced
abbrev pub moved_from : List Changeset → List Phase → Node → Phase → Phase → Phase → List Phase × Bool
moved_from rows phases node old new current =
    if (number_of current == number_of old) && nat_lt (number_of new) (number_of old)
    then (advanced (parents_of rows) new (option_to_list (rev_of rows node.0)) phases, true)
    else (phases, number_of current == number_of new)

-- as `moved_from`, where the changeset is known; else nothing changes
abbrev pub moved_known : List Changeset → List Phase → Node → Phase → Phase → Option Phase → List Phase × Bool
moved_known rows phases node old new None = (phases, false)
moved_known rows phases node old new (Some current) = moved_from rows phases node old new current

-- as `moved_known`, where the key and both values can be read; else nothing changes
abbrev pub moved_as_read : List Changeset → List Phase → Option Node → Option Phase → Option Phase →
    List Phase × Bool
moved_as_read rows phases (Some node) (Some old) (Some new) =
    moved_known rows phases node old new (phase_of_node rows phases node)
moved_as_read rows phases (Some node) (Some old) None = (phases, false)
moved_as_read rows phases (Some node) None new = (phases, false)
moved_as_read rows phases None old new = (phases, false)

-- the key is the id of a known changeset, and both values are phases
abbrev pub phase_pushed : List Changeset → List Phase → List ℕ → List ℕ → List ℕ → List Phase × Bool
phase_pushed rows phases key old new =
    moved_as_read rows phases (node_in_hex key) (phase_in_text old) (phase_in_text new)

-- ---- bookmarks

-- a name that a client gives to its own copy of a bookmark that differs
abbrev pub is_divergent : List ℕ → Bool
is_divergent name = list_any (λ byte. byte == 64) name && not (ends_with nat_eq name (64 ∷ []))

-- the bookmark is on that changeset, or is to be on none and is on none
abbrev pub are_same : Option Node → Option Node → Bool
are_same None None = true
are_same None (Some other) = false
are_same (Some node) None = false
are_same (Some node) (Some other) = bytes_eq node.0 other.0

-- what a bookmark is to be on is known; none is
abbrev pub is_known_target : List Changeset → Option Node → Bool
is_known_target rows None = true
is_known_target rows (Some node) = is_known rows node

-- the bookmark is as the client thinks, or as it wants it, and the changeset is known
abbrev pub is_settable : List Changeset → Option Node → List ℕ → Option Node → Bool
is_settable rows present old target = (bytes_eq (value_of present) old || are_same present target)
    && is_known_target rows target

-- the bookmarks after a call whose new value can be read, and whether it was content
abbrev pub bookmark_set : List Changeset → Pairs → List ℕ → List ℕ → Option (Option Node) → Pairs × Bool
bookmark_set rows pairs key old None = (pairs, false)
bookmark_set rows pairs key old (Some target) =
    if is_settable rows (node_of pairs key) old target then (with_bookmark pairs key target, true)
    else (pairs, false)

-- the bookmarks after a call, and whether it was content
abbrev pub bookmark_pushed : List Changeset → Pairs → List ℕ → List ℕ → List ℕ → Pairs × Bool
bookmark_pushed rows pairs key old new =
    if is_divergent key then (pairs, false) else bookmark_set rows pairs key old (target_in_text new)

-- ---- markers

-- the markers after a call, where its own can be read
abbrev pub merged_as_read : {A : Type 0} → List (Marker A) → Result (List (Marker A)) MarkerFault →
    Result (List (Marker A) × Bool) KeyFault
merged_as_read markers (Ok added) = Ok (merged markers added, true)
merged_as_read markers (Err fault) = Err (BadMarkers fault)

-- the markers after a call, where its text is base-85
abbrev pub merged_as_decoded : {A : Type 0} → List (Marker A) → Result (List ℕ) Base85Fault →
    Result (List (Marker A) × Bool) KeyFault
merged_as_decoded markers (Ok bytes) = merged_as_read markers (markers_of bytes)
merged_as_decoded markers (Err fault) = Err (BadBase85 fault)

-- no bytes
abbrev pub is_empty : List ℕ → Bool
is_empty [] = true
is_empty (byte ∷ bytes) = false

-- a dump of markers, which has no old value: base-85 text of marker data, which is merged
abbrev pub markers_pushed : {A : Type 0} → List (Marker A) → List ℕ → List ℕ → List ℕ →
    Result (List (Marker A) × Bool) KeyFault
markers_pushed markers key old new =
    if starts_with nat_eq key (codes "dump") && is_empty old then merged_as_decoded markers (decoded new)
    else Ok (markers, false)

-- ---- the table

-- what keys are of: a phase for each row, the markers, the bookmarks
pub record Keys (A : Type 0) : Type 0 where
  pub phases : List Phase
  pub markers : List (Marker A)
  pub bookmarks : Pairs

-- Keys of these rows: each row has a phase, and none a lower one than a parent. Markers are distinct and have
-- their format. Each name is there once, in the order of the names' bytes, and on a known changeset.
pub record AreLawful {A : Type 0} (rows : List Changeset) (keys : Keys A) : Type 0 where
  pub count : length keys.phases ≡ length rows
  pub phases : AreLawfulPhases (parents_of rows) keys.phases
  pub markers : AreLawfulMarkers keys.markers
  pub names : AreInOrder keys.bookmarks
  pub bookmarks : AreOnKnown rows keys.bookmarks

-- the keys with other phases
abbrev pub with_phases : {A : Type 0} → Keys A → List Phase × Bool → Keys A × Bool
with_phases keys pushed = (record keys { phases = pushed.0 }, pushed.1)

-- the keys with other bookmarks
abbrev pub with_bookmarks : {A : Type 0} → Keys A → Pairs × Bool → Keys A × Bool
with_bookmarks keys pushed = (record keys { bookmarks = pushed.0 }, pushed.1)

-- the keys with other markers
abbrev pub with_markers : {A : Type 0} → Keys A → Result (List (Marker A) × Bool) KeyFault →
    Result (Keys A × Bool) KeyFault
with_markers keys (Ok pushed) = Ok (record keys { markers = pushed.0 }, pushed.1)
with_markers keys (Err fault) = Err fault

-- the keys after the call, and whether it took effect; a namespace that is not here has no keys
unfoldable pub key_pushed : {A : Type 0} → List Changeset → Keys A → KeyCall A →
    Result (Keys A × Bool) KeyFault
key_pushed rows keys call =
    if bytes_eq call.namespace (codes "phases")
    then Ok (with_phases keys (phase_pushed rows keys.phases call.key call.old call.new))
    else if bytes_eq call.namespace (codes "bookmarks")
    then Ok (with_bookmarks keys (bookmark_pushed rows keys.bookmarks call.key call.old call.new))
    else if bytes_eq call.namespace (codes "obsolete")
    then with_markers keys (markers_pushed keys.markers call.key call.old call.new)
    else Ok (keys, false)
