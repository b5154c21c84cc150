use Rattle.std.proofs.Common.{rules, ◌≡◌, true, false, Some, ◌∙◌, sym, ap, option_map, option_copied}
use Rattle.std.specs.List.{list_any}
use Rattle.hg_parts.specs.PartTypes.{row_of, is_unknown}
use Rattle.hg_parts.specs.code.Table.{row_value}
use Rattle.hg_parts.proofs.Tables.{none_unknown, some_unknown}
use Rattle.hg_parts.proofs.table.supported_type.Goals as goal

pub returns-then-is_any_unknown-clause-none : goal.returns-then-is_any_unknown-clause-none
returns-then-is_any_unknown-clause-none g c =
    let row = row_value c.in_ok-row.row.now in
    let params = c.args.part.now.params in
    let found : c.row_of.result ≡ Some c.in_ok-row.row = search rules in
    let here : row_of c.args.part.now.kind ≡ Some row = ap row_of (sym c.as_slice.ensures)
    ∙ sym c.row_of.ensures ∙ ap (λ o. option_map row_value (option_copied o)) found in
    let some : list_any (is_unknown row.known) params ≡ true = ap (list_any (is_unknown row.known))
    (sym c.as_slice-2.ensures) ∙ sym c.is_any_unknown.ensures ∙ c.if-is_any_unknown.true in
    rw here (some_unknown row.part_type row.known params some)

pub returns-clause-some : goal.returns-clause-some
returns-clause-some g c =
    let row = row_value c.in_ok-row.row.now in
    let params = c.args.part.now.params in
    let found : c.row_of.result ≡ Some c.in_ok-row.row = search rules in
    let here : row_of c.args.part.now.kind ≡ Some row = ap row_of (sym c.as_slice.ensures)
    ∙ sym c.row_of.ensures ∙ ap (λ o. option_map row_value (option_copied o)) found in
    let none : list_any (is_unknown row.known) params ≡ false = ap (list_any (is_unknown row.known))
    (sym c.as_slice-2.ensures) ∙ sym c.is_any_unknown.ensures ∙ c.if-is_any_unknown.false in
    rw here (none_unknown row.part_type row.known params none)
