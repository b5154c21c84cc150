use Rattle.hg_queue_tests.proofs.tests.take_refused.Goals as goal

pub returns : goal.returns
returns g c = c.tell.ensures.queue _ _ c.take.ensures.taker
