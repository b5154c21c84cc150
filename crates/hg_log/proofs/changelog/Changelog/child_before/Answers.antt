use Rattle.std.proofs.Common.{◌<◌, length, ◌∙◌, arith}
use Rattle.hg_log.specs.code.Inside.{rows_of}
use Rattle.hg_log.specs.code.Family.{numbers}
use Rattle.hg_log.specs.Parents.{parents_of, IsParentIn}
use Rattle.hg_log.proofs.Children.{before_same}
use Rattle.hg_log.proofs.ParentLemmas.{parent_is}
use Rattle.hg_log.proofs.Wholes.{numbers_whole, by_number}
use Rattle.hg_log.proofs.changelog.Changelog.child_before.Goals as goal

pub child_before-requires : goal.child_before-requires
child_before-requires g c =
    let rows = rows_of c.self.inside.rows.entries in
    let whole = c.self.invariant in
    let is : IsParentIn (parents_of rows) c.args.rev c.args.child =
    rw (← c.self.view_is) at c.requires.is_child in
    by_number rows c.self.inside.graph c.self.inside.limits whole c.args.rev c.args.child
    (parent_is rows c.args.rev c.args.child whole.lawful is).1

pub returns : goal.returns
returns g c =
    let rows = rows_of c.self.inside.rows.entries in
    let whole = c.self.invariant in
    let within : c.args.child < length rows = rw (← c.self.view_is) at c.requires.within in
    rw (← c.self.view_is) (c.child_before.ensures
    ∙ before_same (numbers c.self.inside.graph) (parents_of rows) c.args.rev c.args.child
    (λ r low. numbers_whole rows c.self.inside.graph c.self.inside.limits whole r
    (omega (arith, low, within))))
