use Rattle.hg_queue.specs.Words.{IsTakerOf}
use Rattle.hg_queue_tests.proofs.tests.take_many.Given as goal

abbrev pub invariant-parts : goal.invariant-parts
invariant-parts g l = IsTakerOf l.queue l.taker
