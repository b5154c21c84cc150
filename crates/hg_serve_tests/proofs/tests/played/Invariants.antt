use Rattle.hg_queue.specs.Words.{id_of, capacity_of}
use Rattle.hg_serve_tests.proofs.tests.played.Given as goal

abbrev pub ghosts-play : goal.ghosts-play
ghosts-play g a = record { table = id_of a.queue; capacity = capacity_of a.queue; first = a.repo }
