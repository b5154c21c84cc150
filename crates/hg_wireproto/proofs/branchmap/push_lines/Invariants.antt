use Rattle.std.proofs.Common.{◌≡◌, ◌++◌, take}
use Rattle.std.specs.List.{flat_map}
use Rattle.hg_wireproto.specs.BranchMap.{branch_line}
use Rattle.hg_wireproto.specs.Text.{ended}
use Rattle.hg_wireproto.proofs.branchmap.push_lines.Given as goal

-- the lines of the branches so far
abbrev pub invariant-loop-branch : goal.invariant-loop-branch
invariant-loop-branch g l = l.lines.items ≡ l.fn.lines.items ++ flat_map
    (λ b. ended 10 (branch_line l.copied.rows (b.name.items, b.revs.items))) (take l.branch-index l.branches)
