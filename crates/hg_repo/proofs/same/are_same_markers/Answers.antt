use Rattle.std.specs.Cmp.Lexicographic.{pointwise_decides}
use Rattle.hg_obs.specs.Same.{is_same_decides}
use Rattle.hg_repo.proofs.same.are_same_markers.Goals as goal

pub returns : goal.returns
returns g c = rw (c.eq.ensures, c.list.ensures.value, c.list-2.ensures.value)
    (pointwise_decides is_same_decides c.args.markers.now c.args.other.now)
