use Rattle.std.proofs.Common.{sym, ◌∙◌}
use Rattle.hg_wireproto.proofs.Extras.{name_whole}
use Rattle.hg_wireproto.proofs.branch.push_branch.Goals as goal

pub returns : goal.returns
returns g c =
    name_whole c.loop-rest.name.items _ c.loop-rest.rest.now
    (sym c.is_empty.ensures ∙ c.loop-rest-test.false) c.loop-rest.invariant
