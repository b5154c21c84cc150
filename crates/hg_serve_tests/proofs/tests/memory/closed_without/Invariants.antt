use Rattle.hg_queue.specs.Words.{id_of, capacity_of}
use Rattle.hg_serve_tests.proofs.tests.memory.closed_without.Given as goal

abbrev pub ghosts-play_without : goal.ghosts-play_without
ghosts-play_without g a = record { table = id_of a.queue; capacity = capacity_of a.queue; first = a.repo }
