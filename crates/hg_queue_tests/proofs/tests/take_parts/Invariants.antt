use Rattle.hg_queue.specs.Words.{IsTakerOf}
use Rattle.hg_queue_tests.proofs.tests.take_parts.Given as goal

abbrev pub invariant-items : goal.invariant-items
invariant-items g l = IsTakerOf l.queue l.taker
