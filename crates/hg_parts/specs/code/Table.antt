-- A row of the code's table, as the definitions have it.
use Rattle.std.specs.Prelude.{map}
use Rattle.hg_parts.specs.declared.table.Row.{Row as CodeRow}
use Rattle.hg_parts.specs.PartTypes.{Row}

abbrev pub row_value : CodeRow → Row
row_value row =
    record { part_type = row.part_type; name = row.name.now; known = map (λ name. name.now) row.known.now }
