use Rattle.std.proofs.Common.{sym, ◌∙◌}
use Rattle.hg_push.proofs.Finding.{shut_nowhere, shut_closed}
use Rattle.hg_push.proofs.step.open_place.Goals as goal

pub returns-in_err-at-clause-none : goal.returns-in_err-at-clause-none
returns-in_err-at-clause-none g c =
    rw c.from_residual.ensures
    (shut_nowhere c.args.push c.args.rows.now.items (sym c.place_of.ensures ∙ c.in_err-at.was))

pub returns-clause-none : goal.returns-clause-none
returns-clause-none g c =
    shut_closed c.args.push c.args.rows.now.items c.in_ok-at.at c.index-row.result.now (sym c.place_of.ensures
    ∙ c.in_ok-at.was) c.index-row.ensures (sym c.if-is_open_row.ensures)
