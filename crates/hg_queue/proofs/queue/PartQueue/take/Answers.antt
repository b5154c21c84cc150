use Rattle.hg_queue.proofs.Facts.{tells_noted, tells_fact}
use Rattle.hg_queue.proofs.queue.PartQueue.take.Goals as goal

pub returns-clause-noted : goal.returns-clause-noted
returns-clause-noted g c = tells_noted _ _ _ _ _ c.requires.role _ c.take_told.ensures.view

pub returns-clause-fact : goal.returns-clause-fact
returns-clause-fact g c = tells_fact _ _ _ _ _ c.requires.role _ c.take_told.ensures.view
