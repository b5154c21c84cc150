use Rattle.std.proofs.Common.{sym, ◌∙◌}
use Rattle.hg_push.proofs.Taking.{reply_nowhere, reply_open}
use Rattle.hg_push.proofs.step.closed_place.Goals as goal

pub returns-in_err-at-clause-none : goal.returns-in_err-at-clause-none
returns-in_err-at-clause-none g c =
    rw c.from_residual.ensures
    (reply_nowhere c.args.push c.args.rows.now.items (sym c.place_of.ensures ∙ c.in_err-at.was))

pub returns-then-is_open_row-clause-none : goal.returns-then-is_open_row-clause-none
returns-then-is_open_row-clause-none g c =
    reply_open c.args.push c.args.rows.now.items c.in_ok-at.at c.index-row.result.now (sym c.place_of.ensures
    ∙ c.in_ok-at.was) c.index-row.ensures (sym c.if-is_open_row.ensures)
