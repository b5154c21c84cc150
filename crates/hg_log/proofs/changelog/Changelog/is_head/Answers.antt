use Rattle.hg_log.specs.code.Inside.{rows_of}
use Rattle.hg_log.proofs.HeadCounts.{head_told}
use Rattle.hg_log.proofs.changelog.Changelog.is_head.Goals as goal

pub returns : goal.returns
returns g c =
    let rows = rows_of c.self.inside.rows.entries in
    rw (← c.self.view_is) (head_told rows c.self.inside.graph c.self.inside.limits c.self.invariant c.args.rev
    c.is_childless.result c.is_childless.ensures)
