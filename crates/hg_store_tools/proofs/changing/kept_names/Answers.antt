use Rattle.std.proofs.Common.{rules, ◌≡◌, Some, None, ◌∙◌, sym, ap, option_map, option_copied, Bool, cond, IfNone}
use Rattle.std.specs.List.{list_any}
use Rattle.hg_parts.specs.PartTypes.{is_unknown, support_of}
use Rattle.hg_store_tools.specs.Canonical.{names_by}
use Rattle.hg_store_tools.specs.code.Changing.{change_value, kept_in}
use Rattle.hg_store_tools.proofs.Kept.{kept_by_code}
use Rattle.hg_store_tools.proofs.changing.kept_names.Goals as goal

pub returns-in_err-change-clause-none : goal.returns-in_err-change-clause-none
returns-in_err-change-clause-none g c =
    let params = c.args.part.now.params in
    let found : c.change_of.result ≡ None = search rules in
    let none : names_by (support_of c.args.part.now) ≡ None =
    kept_by_code c.args.part.now _ _ c.as_slice.ensures (sym c.change_of.ensures)
    ∙ ap (λ o. kept_in params (option_map change_value (option_copied o))) found in
    elim c.from_residual.result as (λ r. IfNone r (names_by (support_of c.args.part.now) ≡ None)) [
      | None ↦ none
      | Some names ↦ tt
    ]

pub returns-then-is_any_unknown-clause-none : goal.returns-then-is_any_unknown-clause-none
returns-then-is_any_unknown-clause-none g c =
    let change = change_value c.in_ok-change.change.now in
    let params = c.args.part.now.params in
    let found : c.change_of.result ≡ Some c.in_ok-change.change = search rules in
    kept_by_code c.args.part.now _ _ c.as_slice.ensures (sym c.change_of.ensures)
    ∙ ap (λ o. kept_in params (option_map change_value (option_copied o))) found
    ∙ ap (λ (b : Bool). cond b None (Some change.kept))
    (ap (list_any (is_unknown change.known)) (sym c.as_slice-2.ensures) ∙ sym c.is_any_unknown.ensures
    ∙ c.if-is_any_unknown.true)

pub returns-clause-some : goal.returns-clause-some
returns-clause-some g c =
    let change = change_value c.in_ok-change.change.now in
    let params = c.args.part.now.params in
    let found : c.change_of.result ≡ Some c.in_ok-change.change = search rules in
    kept_by_code c.args.part.now _ _ c.as_slice.ensures (sym c.change_of.ensures)
    ∙ ap (λ o. kept_in params (option_map change_value (option_copied o))) found
    ∙ ap (λ (b : Bool). cond b None (Some change.kept))
    (ap (list_any (is_unknown change.known)) (sym c.as_slice-2.ensures) ∙ sym c.is_any_unknown.ensures
    ∙ c.if-is_any_unknown.false)
