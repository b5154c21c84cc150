use Rattle.hg_wireproto.specs.BranchMap.{branch_line}
use Rattle.hg_wireproto.specs.Text.{ended}
use Rattle.hg_wireproto.specs.declared.branches.Branch.{Branch}
use Rattle.hg_wireproto.proofs.BranchLines.{lines_all, lines_more, lines_none}
use Rattle.hg_wireproto.proofs.branchmap.push_lines.Goals as goal

pub loop-branch-init : goal.loop-branch-init
loop-branch-init g c =
    lines_none (λ (b : Branch g.row.A.Denot). ended 10 (branch_line c.args.copied.now.rows (b.name.items, b.revs.items)))
    c.args.branches.now c.args.lines.now.items

pub loop-branch-preserved : goal.loop-branch-preserved
loop-branch-preserved g c =
    lines_more (λ (b : Branch g.row.A.Denot). ended 10 (branch_line c.args.copied.now.rows (b.name.items, b.revs.items)))
    c.args.branches.now c.loop-branch.branch-index c.branch-item.result c.args.lines.now.items c.loop-branch.lines.items _
    c.loop-branch-test.true c.branch-item.is c.loop-branch.invariant c.in_ok-push_line.ensures

pub returns : goal.returns
returns g c =
    lines_all (λ (b : Branch g.row.A.Denot). ended 10 (branch_line c.args.copied.now.rows (b.name.items, b.revs.items)))
    c.args.branches.now c.loop-branch.branch-index c.args.lines.now.items c.loop-branch.lines.items
    c.loop-branch-test.false c.loop-branch.invariant
