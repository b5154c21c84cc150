use Rattle.std.proofs.Common.{[], false}
use Rattle.hg_queue.specs.Words.{id_of, capacity_of}
use Rattle.hg_help_serve_tests.specs.Beginning.{first_head}
use Rattle.hg_commit_tests.proofs.tests.used_of.Given as goal

abbrev pub ghosts-used-J-Naming : goal.ghosts-used-J-Naming
ghosts-used-J-Naming g a = record { table = id_of a.queue; capacity = capacity_of a.queue; first = a.repo }

abbrev pub ghosts-used-J-Storing : goal.ghosts-used-J-Storing
ghosts-used-J-Storing g a = record { head = first_head; stored = []; opened = 0; tally = a.tally.id; beats = false }

abbrev pub ghosts-used-J-Ledger : goal.ghosts-used-J-Ledger
ghosts-used-J-Ledger g a = record { name = a.tally.name; parts = a.tally.parts }
