use Rattle.hg_queue.proofs.queue.PartQueue.take.Given as goal

abbrev pub ghosts-take_told : goal.ghosts-take_told
ghosts-take_told g a = record { answer = a.refused }
