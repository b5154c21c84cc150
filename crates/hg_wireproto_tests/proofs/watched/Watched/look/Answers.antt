use Rattle.hg_wireproto_tests.proofs.Watching.{of_all}
use Rattle.hg_wireproto_tests.proofs.watched.Watched.look.Goals as goal

pub invariant_of-self : goal.invariant_of-self
invariant_of-self g c = (of_all _ _ _ _ c.in_ok-self-inside.ensures, c.self.invariant.1)
