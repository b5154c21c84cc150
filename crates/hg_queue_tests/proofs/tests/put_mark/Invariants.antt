use Rattle.hg_queue.specs.Words.{IsPutterOf}
use Rattle.hg_queue_tests.proofs.tests.put_mark.Given as goal

abbrev pub invariant-mark : goal.invariant-mark
invariant-mark g l = IsPutterOf l.queue l.putter
