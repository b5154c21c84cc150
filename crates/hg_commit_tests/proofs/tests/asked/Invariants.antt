use Rattle.std.proofs.Common.{[], false}
use Rattle.hg_queue.specs.Words.{id_of, capacity_of}
use Rattle.hg_help_serve_tests.specs.Beginning.{first_head}
use Rattle.hg_commit_tests.proofs.tests.asked.Given as goal

abbrev pub ghosts-ask-J-Naming : goal.ghosts-ask-J-Naming
ghosts-ask-J-Naming g a = record { table = id_of a.queue; capacity = capacity_of a.queue; first = a.repo }

abbrev pub ghosts-ask-J-Storing : goal.ghosts-ask-J-Storing
ghosts-ask-J-Storing g a = record { head = first_head; stored = []; opened = 0; tally = a.tally.id; beats = false }

abbrev pub ghosts-ask-J-Ledger : goal.ghosts-ask-J-Ledger
ghosts-ask-J-Ledger g a = record { name = a.tally.name; parts = a.tally.parts }
