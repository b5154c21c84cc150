use Rattle.hg_queue.specs.Words.{id_of, capacity_of}
use Rattle.hg_connection_tests.proofs.tests.memory.connected_thrice.Given as goal

abbrev pub ghosts-three_connections : goal.ghosts-three_connections
ghosts-three_connections g a = record { table = id_of a.queue; capacity = capacity_of a.queue; first = a.repo }
