use Rattle.std.proofs.Common.{◌≡◌, ◌≤◌, ℕ, List, [], drop, take}
use Rattle.hg_types.specs.declared.phase.Phase.{Phase}
use Rattle.hg_log.specs.Changeset.{Changeset}
use Rattle.hg_status.specs.Heads.{AreOf}
use Rattle.hg_status.proofs.heads.add_bookmarks.Given as goal

-- the bookmarks so far are given
abbrev pub invariant-loop-place : goal.invariant-loop-place
invariant-loop-place g l = (l.entries ≡ drop l._place l.bookmarks.current) × (l._place ≤ l.len)
    × ((rows : List Changeset) (phases : List Phase) (revs : List ℕ) → AreOf rows phases [] revs l.fn.heads.items
    → AreOf rows phases (take l._place l.bookmarks.current) revs l.heads.items)
