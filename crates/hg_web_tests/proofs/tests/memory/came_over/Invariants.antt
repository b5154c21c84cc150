use Rattle.std.proofs.Common.{[], false}
use Rattle.hg_queue.specs.Words.{id_of, capacity_of}
use Rattle.hg_help_serve_tests.specs.Beginning.{first_head}
use Rattle.hg_web_tests.proofs.tests.memory.came_over.Given as goal

abbrev pub ghosts-converse_over-J-Naming : goal.ghosts-converse_over-J-Naming
ghosts-converse_over-J-Naming g a = record { table = id_of a.queue; capacity = capacity_of a.queue; first = a.repo }

abbrev pub ghosts-converse_over-J-Storing : goal.ghosts-converse_over-J-Storing
ghosts-converse_over-J-Storing g a = record { head = first_head; stored = []; opened = 0; tally = a.counts.id; beats = false }

abbrev pub ghosts-converse_over-J-Ledger : goal.ghosts-converse_over-J-Ledger
ghosts-converse_over-J-Ledger g a = record { name = a.counts.name; parts = a.counts.parts }
