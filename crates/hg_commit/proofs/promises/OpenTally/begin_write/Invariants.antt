use Rattle.hg_commit.proofs.promises.OpenTally.begin_write.Given as goal

abbrev pub ghosts-begin_at : goal.ghosts-begin_at
ghosts-begin_at g a = record {
  moment = g.D.Device.moment a.log.now.device;
  beats = g.D.Device.beats a.log.now.device;
}
