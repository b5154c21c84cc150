use Rattle.hg_queue.proofs.Moves.{dismisses_as}
use Rattle.hg_queue.proofs.queue.PartQueue.dismiss.Goals as goal

pub absorb-requires-clause-rule : goal.absorb-requires-clause-rule
absorb-requires-clause-rule g c = dismisses_as _ _ _ _ _ c.requires.0.role
