use Rattle.std.proofs.Common.{◌≡◌, ◌+◌, ◌≤◌}
use Rattle.hg_log.proofs.Found.{AreFound}
use Rattle.hg_log.proofs.graph.Graph.is_ancestor.Given as goal

abbrev pub invariant-loop-child : goal.invariant-loop-child
invariant-loop-child g l = (l.marks.after ≡ l.ancestor) × (l.marks.top ≡ l.row) × (l.child-start ≤ l.child)
    × (l.child ≤ l.row + 1)
    × AreFound l.self-inside.family l.ancestor l.row l.child l.marks.marked.items
