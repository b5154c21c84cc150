use Rattle.hg_queue.proofs.Moves.{joins_as}
use Rattle.hg_queue.proofs.queue.PartQueue.join.Goals as goal

pub absorb-requires-clause-rule : goal.absorb-requires-clause-rule
absorb-requires-clause-rule g c = joins_as _ _ _ _ _ _ c.requires.0.role c.requires.1.role
