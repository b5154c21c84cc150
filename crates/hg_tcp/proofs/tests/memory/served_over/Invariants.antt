use Rattle.hg_queue.specs.Words.{id_of, capacity_of}
use Rattle.hg_tcp.proofs.tests.memory.served_over.Given as goal

abbrev pub ghosts-served-J-Naming : goal.ghosts-served-J-Naming
ghosts-served-J-Naming g a = record { table = id_of a.queue; capacity = capacity_of a.queue; first = a.repo }

abbrev pub ghosts-served-J-ServiceNaming : goal.ghosts-served-J-ServiceNaming
ghosts-served-J-ServiceNaming g a = record { bundles = 1 }
