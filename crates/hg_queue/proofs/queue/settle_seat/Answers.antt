use Rattle.hg_queue.proofs.Moves.{settles_as}
use Rattle.hg_queue.proofs.queue.settle_seat.Goals as goal

pub another-requires-clause-rule : goal.another-requires-clause-rule
another-requires-clause-rule g c = settles_as _ _ _ _ c.requires.queue.1
