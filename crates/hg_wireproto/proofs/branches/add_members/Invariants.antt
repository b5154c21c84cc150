use Rattle.std.proofs.Common.{◌≤◌, map}
use Rattle.hg_wireproto.specs.code.Branches.{AreBranches}
use Rattle.hg_wireproto.proofs.branches.add_members.Given as goal

-- the branches of the rows so far
abbrev pub invariant-loop-rev : goal.invariant-loop-rev
invariant-loop-rev g l = (l.rev ≤ l.last)
    × AreBranches l.copied.rows l.out l.rev (map (λ e. (e.0.items, e.1.items)) l.members.entries)
