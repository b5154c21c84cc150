use Rattle.hg_commit.proofs.promises.OpenTally.raise.Given as goal

abbrev pub ghosts-raise_at : goal.ghosts-raise_at
ghosts-raise_at g a = record {
  moment = g.D.Device.moment a.log.now.device;
  beats = g.D.Device.beats a.log.now.device;
}
