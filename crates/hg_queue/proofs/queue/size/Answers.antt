use Rattle.hg_queue.proofs.Moves.{sizes_as}
use Rattle.hg_queue.proofs.queue.size.Goals as goal

pub another-requires-clause-rule : goal.another-requires-clause-rule
another-requires-clause-rule g c = sizes_as _ _ _ c.requires.queue.1
