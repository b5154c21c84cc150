use Rattle.std.proofs.Common.{length, ap, ◌∙◌}
use Rattle.hg_log.specs.code.Inside.{rows_of}
use Rattle.hg_log.specs.code.Family.{numbers}
use Rattle.hg_log.specs.Children.{child_before}
use Rattle.hg_log.specs.Parents.{parents_of}
use Rattle.hg_log.proofs.Children.{before_same}
use Rattle.hg_log.proofs.Wholes.{numbers_whole}
use Rattle.hg_log.proofs.changelog.Changelog.last_child.Goals as goal

pub returns : goal.returns
returns g c =
    let rows = rows_of c.self.inside.rows.entries in
    let whole = c.self.invariant in
    rw (← c.self.view_is) (c.last_child.ensures
    ∙ ap (child_before (numbers c.self.inside.graph) c.args.rev) whole.numbered.as_long
    ∙ before_same (numbers c.self.inside.graph) (parents_of rows) c.args.rev (length rows)
    (λ r low. numbers_whole rows c.self.inside.graph c.self.inside.limits whole r low))
