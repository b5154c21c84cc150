use Rattle.hg_queue.specs.Words.{id_of, capacity_of}
use Rattle.hg_connection_tests.proofs.tests.held.held.Given as goal

abbrev pub ghosts-hold : goal.ghosts-hold
ghosts-hold g a = record { table = id_of a.queue; capacity = capacity_of a.queue; first = a.repo }
