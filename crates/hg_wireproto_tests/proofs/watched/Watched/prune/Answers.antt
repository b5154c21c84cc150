use Rattle.std.proofs.Common.{refl}
use Rattle.hg_wireproto.proofs.Publishing.{front_on, stay_same}
use Rattle.hg_wireproto_tests.proofs.Watching.{unchanged}
use Rattle.hg_wireproto_tests.proofs.watched.Watched.prune.Goals as goal

pub invariant_of-self : goal.invariant_of-self
invariant_of-self g c = (
  front_on c.self.inside.held c.self.inside.log.rows _ c.self.inside.markers _ c.self.inside.phases.current.phases _
      c.self.invariant.0 (unchanged c.self.inside.log.rows _ refl) c.merge.ensures
      (stay_same c.self.inside.phases.current.phases),
  c.self.invariant.1,
)
