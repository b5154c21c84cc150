use Rattle.std.proofs.Common.{◌∙◌, find, option_copied, List, ap}
use Rattle.std.specs.Str.{str_eq_ignore_ascii_case}
use Rattle.hg_parts.specs.PartTypes.{Row, row_of}
use Rattle.hg_parts.specs.code.Table.{row_value}
use Rattle.hg_parts.proofs.Tables.{found-map}
use Rattle.hg_parts.proofs.table.row_of.Goals as goal

-- the table of the code is that of the definitions
pub returns : goal.returns
unfolding row_of
returns c =
    found-map (λ row. str_eq_ignore_ascii_case row.name c.args.kind.now) row_value c.rows.result.now
    (option_copied c.find_row.result) c.find_row.ensures
    ∙ ap (λ (rows : List Row). find (λ row. str_eq_ignore_ascii_case row.name c.args.kind.now) rows)
    c.rows.ensures
