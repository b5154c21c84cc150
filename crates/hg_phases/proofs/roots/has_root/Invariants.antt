use Rattle.std.proofs.Common.{◌≡◌, take}
use Rattle.std.specs.List.{list_any}
use Rattle.hg_phases.specs.Standing.{is_draft_root}
use Rattle.hg_phases.proofs.roots.has_root.Given as goal

-- whether one of the rows so far is a root
abbrev pub invariant-loop-row : goal.invariant-loop-row
invariant-loop-row l = l.has ≡ list_any is_draft_root (take l.row-index l.rows)
