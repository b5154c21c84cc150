use Rattle.hg_queue.specs.Words.{IsPutterOf}
use Rattle.hg_queue_tests.proofs.tests.put_parts.Given as goal

abbrev pub invariant-parts : goal.invariant-parts
invariant-parts g l = IsPutterOf l.queue l.putter
