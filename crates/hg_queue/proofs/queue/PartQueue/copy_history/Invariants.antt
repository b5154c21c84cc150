use Rattle.hg_queue.proofs.queue.PartQueue.copy_history.Given as goal

abbrev pub ghosts-settle_seat : goal.ghosts-settle_seat
ghosts-settle_seat g a = record { answer = a.refused }
