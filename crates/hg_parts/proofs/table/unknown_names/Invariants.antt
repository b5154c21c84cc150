use Rattle.std.proofs.Common.{◌≡◌, take}
use Rattle.hg_parts.specs.PartTypes.{unknown_names}
use Rattle.hg_parts.specs.code.Table.{row_value}
use Rattle.hg_parts.proofs.table.unknown_names.Given as goal

-- the names among the parameters so far
abbrev pub invariant-loop-param : goal.invariant-loop-param
invariant-loop-param g l = l.names ≡ unknown_names (row_value l.row).known (take l.param-index l.param-items)
