use Rattle.hg_queue.proofs.queue.PartQueue.putter.Given as goal

abbrev pub ghosts-open_seat : goal.ghosts-open_seat
ghosts-open_seat g a = record { number = a.push }
