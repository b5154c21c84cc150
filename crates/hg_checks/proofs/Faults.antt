-- The faults that each kind of check can tell.
use Rattle.std.proofs.Common.{◌≡◌, ◌≢◌, ◌==◌, ◌/◌, ◌%◌, ℕ, Bool, true, false, cond, List, [], ◌∷◌, Option, Some}
use Rattle.std.proofs.Common.{None, Result, Ok, Err, refl, subst, length, inl, inr}
use Rattle.std.specs.List.{list_all}
use Rattle.std.specs.Simd.{first_chunks}
use Rattle.hg_types.specs.declared.node.Node.{Node}
use Rattle.hg_types.specs.declared.phase.Phase.{Phase}
use Rattle.hg_types.specs.Phase.{number_of}
use Rattle.hg_log.specs.Changeset.{Changeset}
use Rattle.hg_log.specs.HeadCount.{head_ids}
use Rattle.hg_phases.specs.declared.fault.EntryFault.{EntryFault}
use Rattle.hg_phases.specs.declared.fault.EntryFault.TheVariants as entry
use Rattle.hg_phases.specs.Entries.{entries_of, entries_in, is_entry}
use Rattle.hg_keys.specs.Bookmarks.{Pairs, node_of}
use Rattle.hg_keys.specs.Known.{phase_of_node}
use Rattle.hg_keys.specs.Payload as bookmark
use Rattle.hg_keys.specs.PushKey.{are_same, is_known_target}
use Rattle.hg_checks.specs.declared.kind.CheckKind.{CheckKind}
use Rattle.hg_checks.specs.declared.kind.CheckKind.TheVariants.{Heads, Phases, Bookmarks}
use Rattle.hg_checks.specs.declared.fault.CheckFault.{CheckFault}
use Rattle.hg_checks.specs.Checked.{Answer, and_then, all_checked}
use Rattle.hg_checks.specs.Checks.{ids_in, are_same_ids, heads_checked, phase_is, phase_checked}
use Rattle.hg_checks.specs.Checks.{phases_as_read, bookmark_checked, bookmarks_as_read, checked, CanTell}

-- ---- entries of phases are not refused for lack of memory

abbrev IsRead : Result (List (Phase × Node)) EntryFault → Type 0
IsRead (Ok entries) = Unit {0}
IsRead (Err fault) = fault ≢ entry.NoMemory

read_choice : (test : Bool) (x y : Result (List (Phase × Node)) EntryFault) → IsRead x → IsRead y
    → IsRead (cond test x y)
read_choice true x y first second = first
read_choice false x y first second = second

pieces_read : (pieces : List (List ℕ)) → IsRead (entries_in pieces)
unfolding entries_in
pieces_read pieces = read_choice (list_all is_entry pieces) _ _ tt (λ is. cc)

entries_read : (bytes : List ℕ) → IsRead (entries_of bytes)
unfolding entries_of
entries_read bytes = read_choice (length bytes % 24 == 0) _ _
    (pieces_read (first_chunks 24 (length bytes / 24) bytes)) (λ is. cc)

-- ---- answers

-- where it is a fault, a check of that kind can tell it
abbrev Tells : CheckKind → Answer → Type 0
Tells kind (Ok content) = Unit {0}
Tells kind (Err fault) = CanTell kind fault

choice : (kind : CheckKind) (test : Bool) (x y : Answer) → Tells kind x → Tells kind y
    → Tells kind (cond test x y)
choice kind true x y first second = first
choice kind false x y first second = second

then : (kind : CheckKind) (x y : Answer) → Tells kind x → Tells kind y → Tells kind (and_then x y)
then kind (Ok content) y first second = second
then kind (Err fault) y first second = first

all : {X : Type 0} (kind : CheckKind) (one : X → Answer) (entries : List X) → ((x : X) → Tells kind (one x))
    → Tells kind (all_checked one entries)
all kind one [] each = tt
all kind one (entry ∷ entries) each =
    then kind (one entry) (all_checked one entries) (each entry) (all kind one entries each)

-- ---- each kind

heads_tell : (rows : List Changeset) (payload : List ℕ) → Tells Heads (heads_checked rows payload)
heads_tell rows payload =
    choice Heads (length payload % 20 == 0) _ _
    (choice Heads (are_same_ids (ids_in payload) (head_ids rows)) _ _ tt tt) tt

phase_tells : (present : Option Phase) (seen : Phase) → Tells Phases (phase_is present seen)
phase_tells None seen = inl refl
phase_tells (Some present) seen = choice Phases (number_of present == number_of seen) _ _ tt tt

phases_tell : (rows : List Changeset) (phases : List Phase) (entries : Result (List (Phase × Node)) EntryFault)
    → IsRead entries → Tells Phases (phases_as_read rows phases entries)
phases_tell rows phases (Ok entries) read =
    all Phases (phase_checked rows phases) entries
    (λ one. phase_tells (phase_of_node rows phases one.1) one.0)
phases_tell rows phases (Err entry.Short) read = tt
phases_tell rows phases (Err entry.BadPhase) read = refl
phases_tell rows phases (Err entry.NoMemory) read = read refl

bookmark_tells : (rows : List Changeset) (pairs : Pairs) (one : bookmark.Entry)
    → Tells Bookmarks (bookmark_checked rows pairs one)
bookmark_tells rows pairs one =
    choice Bookmarks (is_known_target rows one.0) _ _
    (choice Bookmarks (are_same (node_of pairs one.1) one.0) _ _ tt tt) (inr refl)

bookmarks_tell : (rows : List Changeset) (pairs : Pairs) (entries : Option (List bookmark.Entry))
    → Tells Bookmarks (bookmarks_as_read rows pairs entries)
bookmarks_tell rows pairs (Some entries) =
    all Bookmarks (bookmark_checked rows pairs) entries (bookmark_tells rows pairs)
bookmarks_tell rows pairs None = tt

tells : (kind : CheckKind) (rows : List Changeset) (phases : List Phase) (pairs : Pairs) (payload : List ℕ)
    → Tells kind (checked kind rows phases pairs payload)
tells Heads rows phases pairs payload = heads_tell rows payload
tells Phases rows phases pairs payload =
    phases_tell rows phases (entries_of payload) (entries_read payload)
tells Bookmarks rows phases pairs payload = bookmarks_tell rows pairs (bookmark.entries_of payload)

pub tells_fault : (kind : CheckKind) (rows : List Changeset) (phases : List Phase) (pairs : Pairs)
    (payload : List ℕ) (fault : CheckFault) → checked kind rows phases pairs payload ≡ Err fault
    → CanTell kind fault
tells_fault kind rows phases pairs payload fault is = subst (Tells kind) is
    (tells kind rows phases pairs payload)
