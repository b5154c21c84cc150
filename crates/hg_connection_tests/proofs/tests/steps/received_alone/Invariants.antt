use Rattle.hg_queue.specs.Words.{id_of, capacity_of}
use Rattle.hg_connection_tests.proofs.tests.steps.received_alone.Given as goal

abbrev pub ghosts-receives : goal.ghosts-receives
ghosts-receives g a = record { table = id_of a.queue; capacity = capacity_of a.queue; first = a.repo }
