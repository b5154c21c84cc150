use Rattle.std.proofs.Common.{[], false}
use Rattle.hg_queue.specs.Words.{id_of, capacity_of}
use Rattle.hg_help_serve_tests.specs.Beginning.{first_head}
use Rattle.hg_durable_tests.proofs.tests.run.Given as goal

abbrev pub ghosts-play-J-Naming : goal.ghosts-play-J-Naming
ghosts-play-J-Naming g a = record { table = id_of a.queue; capacity = capacity_of a.queue; first = a.repo }

abbrev pub ghosts-play-J-Storing : goal.ghosts-play-J-Storing
ghosts-play-J-Storing g a = record { head = first_head; stored = []; opened = 0; tally = a.tally.id; beats = false }

abbrev pub ghosts-play-J-Ledger : goal.ghosts-play-J-Ledger
ghosts-play-J-Ledger g a = record { name = a.tally.name; parts = a.tally.parts }
