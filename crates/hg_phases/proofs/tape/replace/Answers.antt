use Rattle.std.proofs.Common.{ap, ◌∙◌}
use Rattle.hg_phases.specs.code.Tape.{rows_of}
use Rattle.hg_phases.proofs.Undoing.{follows_set, rows_push}
use Rattle.hg_phases.proofs.tape.replace.Goals as goal

pub returns-clause-follows : goal.returns-clause-follows
returns-clause-follows g c =
    let rows = c.args.rows.now in
    let was = c.standing-was.result in
    rw (c.in_ok-push.ensures.items, c.set.ensures)
    (follows_set rows c.args.changes.now.items c.args.row was c.args.standing c.requires c.standing-was.ensures)

pub returns-clause-listed : goal.returns-clause-listed
returns-clause-listed g c =
    ap rows_of c.in_ok-push.ensures.items
    ∙ rows_push c.args.changes.now.items (record { row = c.args.row; standing = c.standing-was.result })
