-- Heads come one after the other, and then each bookmark is given to the head that it is on.
use Rattle.std.specs.Prelude.{◌≡◌, ℕ, List, [], ◌∷◌, ◌++◌, length, bytes_eq, nat_lt, true, false, if◌then◌else◌}
use Rattle.hg_types.specs.declared.node.Node.{Node}
use Rattle.hg_types.specs.declared.phase.Phase.{Phase}
use Rattle.hg_log.specs.Changeset.{Changeset}
use Rattle.hg_log.specs.HeadCount.{is_head}
use Rattle.hg_status.specs.declared.heads.ShownHead.{ShownHead}
use Rattle.hg_status.specs.Heads.{IsOf}
use Rattle.hg_status.specs.Name.{name_of}
use Rattle.hg_status.specs.PushCounts.{sum_of}

-- a head after a bookmark: with its name, or one more in number, where it is on the head
unfoldable pub given : {A : Type 0} → List ℕ × Node → ShownHead A → ShownHead A
given pair head =
    if bytes_eq head.node.0 pair.1.0 then
    (if nat_lt (length head.bookmarks) 8 then record head { bookmarks = head.bookmarks ++ name_of pair.0 ∷ [] }
    else record head { more = sum_of head.more 1 })
    else head

-- a changeset that is a head comes after those before it, and no other comes
abbrev pub AddsIfHead : {A : Type 0} → List Changeset → List Phase → ℕ → List (ShownHead A) → List (ShownHead A) →
    Type 0
AddsIfHead {A} rows phases rev before after =
    (is_head rows rev ≡ true → (head : ShownHead A) × IsOf rows phases [] rev head × (after ≡ before ++ head ∷ []))
    × (is_head rows rev ≡ false → after ≡ before)
