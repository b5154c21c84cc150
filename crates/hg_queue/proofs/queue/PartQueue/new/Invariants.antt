use Rattle.hg_queue.proofs.queue.PartQueue.new.Given as goal

abbrev pub ghosts-size : goal.ghosts-size
ghosts-size g a = record { number = a.capacity }
