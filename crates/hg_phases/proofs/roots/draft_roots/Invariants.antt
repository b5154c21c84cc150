use Rattle.std.proofs.Common.{◌≡◌, ◌*◌, take}
use Rattle.hg_types.specs.declared.phase.Phase.TheVariants.{Draft}
use Rattle.hg_phases.specs.Standing.{told}
use Rattle.hg_phases.proofs.roots.draft_roots.Given as goal

-- the roots among the rows of the pieces so far
abbrev pub invariant-loop-place : goal.invariant-loop-place
invariant-loop-place g l = l.roots.items ≡ told Draft (take (l.place * 64) l.rows)
