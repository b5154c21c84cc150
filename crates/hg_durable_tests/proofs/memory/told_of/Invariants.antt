use Rattle.std.proofs.Common.{[], false}
use Rattle.hg_queue.specs.Words.{id_of, capacity_of}
use Rattle.hg_help_serve_tests.specs.Beginning.{first_head}
use Rattle.hg_durable_tests.proofs.memory.told_of.Given as goal

abbrev pub ghosts-connected-J-Naming : goal.ghosts-connected-J-Naming
ghosts-connected-J-Naming g a = record { table = id_of a.queue; capacity = capacity_of a.queue; first = a.repo }

abbrev pub ghosts-connected-J-Storing : goal.ghosts-connected-J-Storing
ghosts-connected-J-Storing g a = record { head = first_head; stored = []; opened = 0; tally = a.tally.id; beats = false }

abbrev pub ghosts-connected-J-Ledger : goal.ghosts-connected-J-Ledger
ghosts-connected-J-Ledger g a = record { name = a.tally.name; parts = a.tally.parts }
