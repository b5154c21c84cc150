use Rattle.std.proofs.Common.{◌≡◌, ◌++◌, take}
use Rattle.std.specs.List.{flat_map}
use Rattle.hg_wireproto.specs.BranchMap.{head_word, quoted}
use Rattle.hg_wireproto.proofs.branchmap.push_line.Given as goal

-- the name, and the heads so far
abbrev pub invariant-loop-rev : goal.invariant-loop-rev
invariant-loop-rev g l = l.lines.items ≡ (l.fn.lines.items ++ quoted l.branch.name.items)
    ++ flat_map (head_word l.copied.rows) (take l.rev-index l.rev-items)
