use Rattle.std.proofs.Common.{◌≡◌, ◌++◌, take}
use Rattle.hg_types.specs.declared.phase.Phase.TheVariants.{Draft}
use Rattle.hg_phases.specs.Standing.{told_from}
use Rattle.hg_phases.proofs.roots.push_roots.Given as goal

-- the roots among the rows so far
abbrev pub invariant-loop-place : goal.invariant-loop-place
invariant-loop-place g l = l.roots.items ≡ l.fn.roots.items ++ told_from Draft l.first (take l.place l.rows)
