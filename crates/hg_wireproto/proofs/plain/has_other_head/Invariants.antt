use Rattle.std.proofs.Common.{◌≡◌, ◌<◌, ◌≤◌, ℕ, false, get_or}
use Rattle.hg_log.specs.Parents.{parents_of, IsParentIn}
use Rattle.hg_wireproto.specs.code.Branches.{branch_at}
use Rattle.hg_wireproto.proofs.plain.has_other_head.Given as goal

-- those so far are parents
abbrev pub invariant-loop-other : goal.invariant-loop-other
invariant-loop-other g l = (l.other ≤ l.rev) × ((h : ℕ) → h < l.other → get_or l.covered h false ≡ false
    → branch_at l.copied.rows h ≡ branch_at l.copied.rows l.rev → IsParentIn (parents_of l.copied.rows) h l.rev)
