use Rattle.std.proofs.Common.{[], false}
use Rattle.hg_queue.specs.Words.{id_of, capacity_of}
use Rattle.hg_help_serve_tests.specs.Beginning.{first_head}
use Rattle.hg_commit_tests.proofs.tests.turned.Given as goal

abbrev pub ghosts-push_in_turn-J-Naming : goal.ghosts-push_in_turn-J-Naming
ghosts-push_in_turn-J-Naming g a = record { table = id_of a.queue; capacity = capacity_of a.queue; first = a.repo }

abbrev pub ghosts-push_in_turn-J-Storing : goal.ghosts-push_in_turn-J-Storing
ghosts-push_in_turn-J-Storing g a = record { head = first_head; stored = []; opened = 0; tally = a.tally.id; beats = false }

abbrev pub ghosts-push_in_turn-J-Ledger : goal.ghosts-push_in_turn-J-Ledger
ghosts-push_in_turn-J-Ledger g a = record { name = a.tally.name; parts = a.tally.parts }
