use Rattle.hg_queue.proofs.Steps.{begins}
use Rattle.hg_queue.proofs.queue.PartQueue.new.Goals as goal

pub ruled-requires-clause-rule : goal.ruled-requires-clause-rule
ruled-requires-clause-rule g c = begins
