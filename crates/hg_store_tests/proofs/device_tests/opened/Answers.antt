use Rattle.hg_store_tests.proofs.device_tests.opened.Goals as goal

pub returns-in-Ok : goal.returns-in-Ok
returns-in-Ok g c = (_, _, c.in-Ok.ensures.settled)
