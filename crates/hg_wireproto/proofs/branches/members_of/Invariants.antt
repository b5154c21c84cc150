use Rattle.std.proofs.Common.{◌-◌, ◌≤◌, length, map}
use Rattle.hg_wireproto.specs.code.Branches.{AreBranches}
use Rattle.hg_wireproto.proofs.branches.members_of.Given as goal

-- the branches of the rows so far
abbrev pub invariant-pieces : goal.invariant-pieces
invariant-pieces g l = (l.first ≤ length l.copied.rows)
    × AreBranches l.copied.rows l.out l.first (map (λ e. (e.0.items, e.1.items)) l.members.entries)

abbrev pub decreases-pieces : goal.decreases-pieces
decreases-pieces g l = length l.copied.rows - l.first
