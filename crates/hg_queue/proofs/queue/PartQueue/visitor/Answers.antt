use Rattle.hg_queue.proofs.Steps.{seats}
use Rattle.hg_queue.proofs.queue.PartQueue.visitor.Goals as goal

pub another-seat-requires-clause-rule : goal.another-seat-requires-clause-rule
another-seat-requires-clause-rule g c = seats _ _
