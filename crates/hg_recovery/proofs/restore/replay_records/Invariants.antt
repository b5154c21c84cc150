use Rattle.std.proofs.Common.{◌≡◌, take}
use Rattle.hg_recovery.specs.Replays.{Replays}
use Rattle.hg_recovery.proofs.restore.replay_records.Given as goal

-- the records so far lead to the repository, whose settings stay
abbrev pub invariant-loop-place : goal.invariant-loop-place
invariant-loop-place g l = record {
  ran : Replays l.fn.repo.settings.limits l.fn.repo (take l.place l.records) l.repo;
  settings : l.repo.settings ≡ l.fn.repo.settings;
}
